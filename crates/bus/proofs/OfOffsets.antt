-- The bus of any offsets that a core owns: every offset, or stretches of them, which begin at the offsets of the set s and are listed.
use mathlib.Core.Logic.{◌⊎◌, inl, inr}
use mathlib.Core.Path.{◌≡◌, refl, sym, ◌∙◌, ap, subst}
use mathlib.Core.Bool.{Bool, true, false, not, ◌&&◌, false≢true}
use native.Mathlib.Nat.{mod-lt, mod-eq_of_lt, add-mod_right, not-suc-le-zero}
use native.Mathlib.Omega.{arith}
use borrow.Author.Tests.{lt-ltb, le-ltb}
use Prim.Native.Nat.{ℕ, zero, suc, ◌+◌, ◌-◌, ◌%◌, ◌≤◌, ◌<◌}
use Rattle.runs.specs.Schedules.{owning}
use Rattle.runs.specs.Stretches.{IsRun, Begins, NextStretch}
use Rattle.runs.proofs.Cases.{split}
use Rattle.runs.proofs.SchedulesLaws.{next_of, most_least, most_le}
use Rattle.runs.proofs.Nexts.{run_fits, run_holds, begun as begun-run}
use Rattle.runs.proofs.Forward as forward
use Rattle.runs.proofs.BeginsLaws.{longest_begins, lone_free, all_owned}
use Rattle.offsets.specs.declared.Set.{Set}
use Rattle.offsets.specs.Sets.{value, has, members, Lowest}
use Rattle.offsets.proofs.Members.{same_truth}
use Rattle.std.specs.Prelude.{Option, None, Some, MatchOption, ⊤}
use Rattle.bus.specs.declared.Bus.{Bus}
use Rattle.bus.specs.declared.Stretches.{Stretches}
use Rattle.bus.specs.Stretches.{begun, begin_of, length_of, after, InTurn, LongestOf, Begun, Ordered}
use Rattle.bus.specs.Owning.{Alone, Parted, Fit, Beginnings}
use Rattle.bus.proofs.Aheads.{stretched}
use Rattle.bus.proofs.Turned.{wrapped}
use Rattle.bus.proofs.Nexts.{next_from}

module _ {own rest : Set} {P : ℕ} (fit : Parted own rest P) (s : Set) (at : Beginnings P own s) where
  abbrev owns : ℕ → Bool
  owns o = has (value own) o

  -- the begins are counted by the set
  begin_test : (k : ℕ) → k < P → has (value s) k ≡ (owns k && not (owns ((k + P - 1) % P)))
  begin_test k l =
      same_truth _ _
      (λ h. let b = (at k l).0 h in rw (b.here, b.before))
      (λ h. (at k l).1 (begins_of h))
    where
      both : (x y : Bool) → (x && not y) ≡ true → (x ≡ true) × (y ≡ false)
      both true true h = absurd (false≢true h)
      both true false h = (refl, refl)
      both false y h = absurd (false≢true h)

      begins_of : (owns k && not (owns ((k + P - 1) % P))) ≡ true → Begins P owns k
      begins_of h = let (x, y) = both _ _ h in record { low = l; here = x; before = y }

  pub begun_members : (k : ℕ) → k ≤ P → members (value s) k ≡ begun P owns k
  unfolding members begun
  begun_members zero l = refl
  begun_members (suc k) l = rw (begun_members k (omega arith), begin_test k (omega arith)) refl

  -- before each begin stands an offset that is not owned
  pub begun_of : (f : ℕ) → Lowest (value s) 0 256 f → begun P owns P ≤ 16 → Begun P (value rest) (value s) f
  begun_of f low few = record {
    most = fit.most;
    lowest = low;
    few = rw (begun_members P (omega arith)) few;
    before = λ a l h. fit.apart ((a + P - 1) % P) (mod-lt _ fit.least) ∙ ap not ((at a l).0 h).before;
  }

  module _ (f : ℕ) (low : Lowest (value s) 0 256 f) (v : Stretches) (h : Ordered P (value rest) (value s) f v.spans v.count P) where
    -- every stretch is listed
    number : (a : ℕ) → Begins P owns a → (i : ℕ) × (i < v.count) × (begin_of v i ≡ a)
    number a b = h.all a b.low ((at a b.low).1 b)

    -- none is: every offset is owned
    pub fit_whole : v.count ≡ 0 → Fit record { period = P; most = P; own = own; rest = rest; first = 0; only = None; longest = 0; stretches = v }
    fit_whole e =
        let every = all_owned P owns fit.some (λ a b. let (i, l, x) = number a b in not-suc-le-zero (let z : i < 0 = omega arith in z)) in
        let up = most_least P owns P 0 (omega arith) fit.least (next_of P owns P 0 (λ i k. every ((0 + i) % P) (mod-lt _ fit.least))) in
        record {
          least = fit.least;
          most = fit.most;
          own_in = fit.own_in;
          rest_in = fit.rest_in;
          apart = fit.apart;
          longest = omega (arith, up, most_le P owns);
          begins = λ k. absurd (omega arith);
          run = λ k. absurd (omega arith);
          nth = λ k. absurd (omega arith);
          in_turn = λ k. absurd (omega arith);
          lone = tt;
          some = fit.some;
        }

    begins_at : (i : ℕ) → i < v.count → Begins P owns (begin_of v i)
    begins_at i l = let (k, t, x) = h.each i l in (at (begin_of v i) k).0 t

    run_at : (i : ℕ) → i < v.count → (length_of v i < P) × IsRun P owns (begin_of v i) (length_of v i)
    run_at i l = begun-run P owns (begin_of v i) (length_of v i) (begins_at i l) (stretched fit (begin_of v i) (length_of v i) (h.each i l).2)

    -- no stretch begins at an offset that is not in the set
    no_begin : (o a : ℕ) → o ≡ a → has (value s) a ≡ false → Begins P owns o → ⊥
    no_begin o a e z b = false≢true (sym z ∙ subst (λ (x : ℕ). has (value s) x ≡ true) e ((at o b.low).1 b))

    -- from each to the next in the list
    to_next : (i : ℕ) → i + 1 < v.count → (gap : ℕ) × NextStretch P owns (begin_of v i) (length_of v i) gap (begin_of v (i + 1))
    to_next i l =
        let x = begin_of v i in
        let y = begin_of v (i + 1) in
        let (lt, none) = h.next i l in
        let under = (begins_at (i + 1) l).low in
        let d = y - x in (
          d - length_of v i,
          next_from P owns x (length_of v i) d y (begins_at i (omega arith)) (run_at i (omega arith)).1 (omega arith) (omega arith)
              (sym (ap (λ (n : ℕ). n % P) (let z : x + d ≡ y = omega arith in z) ∙ mod-eq_of_lt under))
              (begins_at (i + 1) l)
              (λ k i j. no_begin ((x + k) % P) (x + k) (mod-eq_of_lt (omega arith)) (none (x + k) (omega arith) (omega arith))),
        )

    -- the first is the lowest
    lowest_first : (i : ℕ) → i < v.count → begin_of v 0 ≤ begin_of v i
    lowest_first i l =
        let e = h.first (omega arith) in
        split (begin_of v 0) (begin_of v i) (λ k. k)
        (λ k. absurd (false≢true (sym (low.passed (begin_of v i) (omega arith) (omega arith)) ∙ (h.each i l).1)))

    -- from the last round the period to the first
    to_first : (i : ℕ) → i < v.count → v.count ≤ i + 1 → (gap : ℕ) × NextStretch P owns (begin_of v i) (length_of v i) gap (begin_of v 0)
    to_first i l m =
        let x = begin_of v i in
        let y = begin_of v 0 in
        let is : v.count - 1 ≡ i = omega arith in
        let none : (o : ℕ) → x < o → o < P → has (value s) o ≡ false = subst (λ (j : ℕ). (o : ℕ) → begin_of v j < o → o < P → has (value s) o ≡ false) is (h.last (omega arith)).1 in
        let first = h.first (omega arith) in
        let under = (begins_at i l).low in
        let le = lowest_first i l in
        let d = y + P - x in (
          d - length_of v i,
          next_from P owns x (length_of v i) d y (begins_at i l) (run_at i l).1 (omega arith) (omega arith)
              (sym (ap (λ (n : ℕ). n % P) (let z : x + d ≡ y + P = omega arith in z) ∙ add-mod_right y P ∙ mod-eq_of_lt (begins_at 0 (omega arith)).low))
              (begins_at 0 (omega arith))
              (λ k i j. split P (x + k)
              (λ u. no_begin ((x + k) % P) (x + k - P) (wrapped P (x + k) u (omega arith)) (low.passed (x + k - P) (omega arith) (omega arith)))
              (λ u. no_begin ((x + k) % P) (x + k) (mod-eq_of_lt u) (none (x + k) (omega arith) u))),
        )

    in_turn : InTurn P owns v
    unfolding after
    in_turn = record {
      long = h.long;
      few = h.few;
      next = λ i l.
          split (i + 2) v.count
          (λ k. rw (lt-ltb (i + 1) v.count (omega arith)) (to_next i (omega arith)))
          (λ k. rw (le-ltb (i + 1) v.count (omega arith)) (to_first i l (omega arith)));
    }

    -- the one with the number r is a longest
    module _ (r : ℕ) (far : LongestOf v v.count r) where
      abbrev x : ℕ
      x = begin_of v r

      abbrev m : ℕ
      m = length_of v r

      x_begins : Begins P owns x
      x_begins = begins_at r far.below

      run : IsRun P owns x m
      run = (run_at r far.below).1

      less : m < P
      less = (run_at r far.below).0

      longest : m ≡ (owning P owns).most
      longest =
          sym (longest_begins P owns x x_begins m (omega (arith, less)) (x, x_begins, run_holds P owns x m m run (omega arith)) (λ a b t.
          let (i, l, e) = number a b in
          let y : IsRun P owns a (length_of v i) = subst (λ (k : ℕ). IsRun P owns k (length_of v i)) e (run_at i l).1 in
          let h = run_fits P owns a (length_of v i) (suc m) y t in
          let z : 1 ≤ 0 = omega (arith, far.each i l, h) in not-suc-le-zero z))

      abbrev made : Option ℕ → Bus
      made n = record { period = P; most = m; own = own; rest = rest; first = x; only = n; longest = r; stretches = v }

      fit_made : (n : Option ℕ) → MatchOption n ⊤ (Alone (made n)) → Fit (made n)
      fit_made n lone = record {
        least = fit.least;
        most = fit.most;
        own_in = fit.own_in;
        rest_in = fit.rest_in;
        apart = fit.apart;
        longest = longest;
        begins = λ k. x_begins;
        run = λ k. run;
        nth = λ k. (far.below, refl, refl);
        in_turn = λ k. in_turn;
        lone = lone;
        some = fit.some;
      }

      pub fit_many : Fit (made None)
      fit_many = fit_made None tt

      -- no other stretch begins
      pub fit_lone : v.count ≡ 1 → Fit (made (Some m))
      fit_lone one = fit_made (Some m) record {
        some = let (gap, n) = in_turn.next r far.below in forward.some_len P owns x m gap _ n;
        low = x_begins.low;
        less = less;
        held = run.owned;
        free = lone_free P owns x x_begins m run (λ a b.
            let (i, l, e) = number a b in
            let z : i ≡ r = omega (arith, far.below) in
            sym e ∙ ap (begin_of v) z);
      }

      -- whichever of the two `only` is
      pub fit_either : (n : Option ℕ) → ((v.count ≡ 1) × (n ≡ Some m)) ⊎ (n ≡ None) → Fit (made n)
      fit_either n (inl h) = subst (λ (k : Option ℕ). Fit (made k)) (sym h.1) (fit_lone h.0)
      fit_either n (inr z) = subst (λ (k : Option ℕ). Fit (made k)) (sym z) fit_many
