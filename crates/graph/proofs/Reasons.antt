-- A table is refused at a place if and only if the condition for it holds, and accepted only if all its entries are permitted.
use mathlib.Core.Path.{◌≡◌, refl, subst}
use mathlib.Core.Bool.{Bool, true, false, cond}
use mathlib.Core.Option.{Option, none, some}
use mathlib.Core.List.{List}
use native.Mathlib.Nat.{not-suc-le-zero}
use native.Mathlib.Omega.{arith}
use Prim.Native.Nat.{ℕ, zero, suc, ◌<◌}
use Rattle.runs.proofs.Cases.{split, either}
use Rattle.graph.specs.Table.{graph_of, size_of, size_ok, permitted, or_else, first_not, refused_at, finished, result_by, answer_by}
use Rattle.graph.specs.Conditions.{AcceptedTable, Condition, no_table, bad_entry}
use Rattle.std.specs.Prelude.{Result, Ok, Err}
use Rattle.graph.specs.declared.Answer.{Answer}
use Rattle.graph.specs.Promise.{Equal, Because}
use Rattle.graph.proofs.Tables.{permitted_is, is_permitted, first_some, size_says, size_is, size_ok_lem}

different : {X : Type 0} {t : Bool} → t ≡ true → t ≡ false → X
different a b = absurd (cc)

-- ---- what the first that is refused says of all before it

module _ (f : ℕ → Bool) where
  -- one more number, after the first n gave v
  none_more : (n : ℕ) (v : Option ℕ) → or_else v (cond (f n) none (some n)) ≡ none → (v ≡ none) × (f n ≡ true)
  none_more n (some i) e = absurd (cc)
  none_more n none e = (refl, either (f n) (λ t. t) (λ t. absurd (let q : some n ≡ none = rw t at e in cc)))

  none_says : (n : ℕ) → first_not n f ≡ none → (i : ℕ) → i < n → f i ≡ true
  unfolding first_not
  none_says zero e i l = absurd (not-suc-le-zero l)
  none_says (suc n) e i l =
      let p = none_more n (first_not n f) e in
      split n i (λ h. let q : n ≡ i = omega arith in rw q at p.1) (λ h. none_says n p.0 i h)

  record FirstNot (n r : ℕ) : Type 0 where
    pub below : r < n
    pub before : (i : ℕ) → i < r → f i ≡ true
    pub there : f r ≡ false

  some_more : (n r : ℕ) (v : Option ℕ) → first_not n f ≡ v → (v ≡ some r → FirstNot n r) → or_else v (cond (f n) none (some n)) ≡ some r
      → FirstNot (suc n) r
  some_more n r (some i) is up e = let u = up e in record { below = omega (arith, u.below); before = u.before; there = u.there }
  some_more n r none is up e =
      either (f n)
      (λ t. absurd (let q : none ≡ some r = rw t at e in cc))
      (λ t. let q : some n ≡ some r = rw t at e in let m : n ≡ r = cc in
      record { below = omega arith; before = λ i l. none_says n is i (omega arith); there = rw m at t })

  first_says : (n r : ℕ) → first_not n f ≡ some r → FirstNot n r
  unfolding first_not
  first_says zero r e = absurd (cc)
  first_says (suc n) r e = some_more n r (first_not n f) refl (λ q. first_says n r q) e

-- ---- refused at a place

module _ (s : List ℕ) where
  pub because : (i : ℕ) → refused_at s ≡ some i → Condition s i
  unfolding refused_at
  because i e =
      either (size_ok s)
      (λ t. let r = first_says (λ i. permitted i (graph_of s i)) (size_of s) i (rw t at e) in
      bad_entry (size_of s) (size_says s t) r.below (λ j l. permitted_is j (graph_of s j) (r.before j (omega (arith, l))))
      (λ p. different (is_permitted i (graph_of s i) p) r.there))
      (λ t. let q : some 0 ≡ some i = rw t at e in let z : 0 ≡ i = cc in
      subst (Condition s) z (no_table (λ n k. different (size_ok_lem s n k) t)))

  pub whenever : (i : ℕ) → Condition s i → refused_at s ≡ some i
  unfolding refused_at
  whenever _ (no_table h) = either (size_ok s) (λ t. absurd (h (size_of s) (size_says s t))) (λ t. rw t)
  whenever i (bad_entry n k l before there) =
      rw (size_ok_lem s n k, size_is s n k)
      (first_some (λ i. permitted i (graph_of s i)) n i l (λ j m. is_permitted j (graph_of s j) (before j (omega (arith, m))))
      (either (permitted i (graph_of s i)) (λ t. absurd (there (permitted_is i (graph_of s i) t))) (λ t. t)))

  -- at no place
  all_good : refused_at s ≡ none → AcceptedTable s (size_of s)
  unfolding refused_at
  all_good e =
      either (size_ok s)
      (λ t. record {
        size = size_says s t;
        entries = λ i l. permitted_is i (graph_of s i) (none_says (λ i. permitted i (graph_of s i)) (size_of s) (rw t at e) i l);
      })
      (λ t. absurd (let q : some 0 ≡ none = rw t at e in cc))

  place_is : (v : Result (Unit {0}) ℕ) (f : List ℕ) (x : Option ℕ) (place : ℕ) → result_by v f ≡ answer_by s x → v ≡ Err place → x ≡ some place
  place_is v f none place e h = absurd (let q : result_by (Err place) f ≡ answer_by s none = rw h at e in cc)
  place_is v f (some i) place e h = let q : result_by (Err place) f ≡ answer_by s (some i) = rw h at e in cc

  verdict_is : (v : Result (Unit {0}) ℕ) (f : List ℕ) (x : Option ℕ) (place : ℕ) → result_by v f ≡ answer_by s x → x ≡ some place → v ≡ Err place
  verdict_is (Ok u) f x place e h = absurd (let q : finished f ≡ answer_by s (some place) = rw h at e in cc)
  verdict_is (Err i) f x place e h = let q : result_by (Err i) f ≡ answer_by s (some place) = rw h at e in cc

  none_is : (v : Result (Unit {0}) ℕ) (f : List ℕ) (x : Option ℕ) → result_by v f ≡ answer_by s x → v ≡ Ok tt → x ≡ none
  none_is v f none e h = refl
  none_is v f (some i) e h = absurd (let q : finished f ≡ answer_by s (some i) = rw h at e in cc)

  pub reasons : (r : Answer) → Equal s r → Because s r
  reasons r e = record {
    because = λ place h. because place (place_is r.verdict r.finishes (refused_at s) place e h);
    whenever = λ place c. verdict_is r.verdict r.finishes (refused_at s) place e (whenever place c);
    accepted = λ h. (size_of s, all_good (none_is r.verdict r.finishes (refused_at s) e h));
  }
