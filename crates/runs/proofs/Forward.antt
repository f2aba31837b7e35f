-- From the begin of one stretch to that of the next: which accesses wait for that, and that once round the period every stretch is met.
use mathlib.Core.Path.{◌≡◌, sym, ◌∙◌, ap, subst}
use mathlib.Core.Bool.{Bool, true, false, false≢true}
use lib.Dec.{leb}
use borrow.Author.Tests.{le-leb, lt-leb}
use native.Mathlib.Nat.{mod-eq_of_lt, mod-lt, add-mod_right, mod-add-mod, add-zero}
use native.Mathlib.Omega.{arith}
use Prim.Native.Nat.{ℕ, ◌+◌, ◌-◌, ◌%◌, ◌≤◌, ◌<◌}
use Rattle.runs.specs.Schedules.{owns_next}
use Rattle.runs.specs.Stretches.{IsRun, Begins, Open, NextStretch}
use Rattle.runs.proofs.Cases.{split}
use Rattle.runs.proofs.StretchesLaws.{run_may, next_mod}

module _ (P : ℕ) (own : ℕ → Bool) (x len gap y : ℕ) (c : NextStretch P own x len gap y) where
  pos : 0 < P
  pos = omega (arith, c.begins.low)

  at_end : own ((x + len) % P) ≡ false
  at_end = c.run.ends

  -- the offset itself is owned, and the one after the stretch is not
  pub some_len : 1 ≤ len
  some_len =
      split 1 len (λ l. l)
      (λ l. let z : x + len ≡ x = omega arith in
      absurd (false≢true (sym at_end ∙ ap (λ (n : ℕ). own (n % P)) z ∙ ap own (mod-eq_of_lt c.begins.low) ∙ c.begins.here)))

  pub some_gap : 1 ≤ gap
  some_gap =
      split 1 gap (λ l. l)
      (λ l. let z : x + (len + gap) ≡ x + len = omega arith in
      absurd (false≢true (sym at_end ∙ sym (ap (λ (n : ℕ). own (n % P)) z) ∙ sym (ap own c.place) ∙ c.next)))

  free_at : (k : ℕ) → len ≤ k → k < len + gap → own ((x + k) % P) ≡ false
  free_at k l m = let z : len + (k - len) ≡ k = omega arith in subst (λ (n : ℕ). own ((x + n) % P) ≡ false) z (c.free (k - len) (omega arith))

  -- i cycles back from y, over the gap and the stretch, and further
  pub back_over : (i : ℕ) → i ≤ len + gap → (y + P - i) % P ≡ (x + (len + gap - i)) % P
  back_over i l =
      let a : y + P - i ≡ y + (P - i) = omega (arith, c.fits) in
      let b : x + (len + gap) + (P - i) ≡ x + (len + gap - i) + P = omega (arith, c.fits) in
      ap (λ (n : ℕ). n % P) a ∙ ap (λ (n : ℕ). (n + (P - i)) % P) c.place ∙ mod-add-mod (x + (len + gap)) P (P - i) ∙ ap (λ (n : ℕ). n % P) b
      ∙ add-mod_right (x + (len + gap - i)) P

  pub back_past : (k : ℕ) → len + gap + k ≤ P → (y + P - (len + gap + k)) % P ≡ (x + P - k) % P
  back_past k l =
      let a : y + P - (len + gap + k) ≡ y + (P - (len + gap + k)) = omega arith in
      let b : x + (len + gap) + (P - (len + gap + k)) ≡ x + P - k = omega (arith, c.begins.low) in
      ap (λ (n : ℕ). n % P) a ∙ ap (λ (n : ℕ). (n + (P - (len + gap + k))) % P) c.place ∙ mod-add-mod (x + (len + gap)) P (P - (len + gap + k))
      ∙ ap (λ (n : ℕ). n % P) b

  pub next_begins : Begins P own y
  next_begins = record {
    low = subst (λ (n : ℕ). n < P) (sym c.place) (mod-lt (x + (len + gap)) pos);
    here = c.next;
    before = ap own (back_over 1 (omega (arith, some_gap))) ∙ free_at (len + gap - 1) (omega (arith, some_gap)) (omega (arith, some_gap));
  }

  -- ---- which accesses may start before y

  -- from k cycles after x, so many of the stretch are left
  rest_run : (k : ℕ) → k ≤ len → IsRun P own (x + k) (len - k)
  rest_run k l = record {
    owned = λ i m. let z : x + k + i ≡ x + (k + i) = omega arith in rw z (c.run.owned (k + i) (omega arith));
    ends = let z : x + k + (len - k) ≡ x + len = omega arith in rw z at_end;
  }

  tail_may : (e i : ℕ) → gap ≤ i → i ≤ gap + len → owns_next P own e ((y + P - i) % P) ≡ leb e (i - gap)
  tail_may e i l m =
      let z : len - (len + gap - i) ≡ i - gap = omega arith in
      ap (owns_next P own e) (back_over i (omega arith)) ∙ next_mod P own e (x + (len + gap - i))
      ∙ run_may P own (x + (len + gap - i)) (len - (len + gap - i)) e (rest_run (len + gap - i) (omega arith)) ∙ ap (leb e) z

  -- none that is longer than what is left of the stretch, and none in the gap
  shut_at : (e i : ℕ) → 1 ≤ e → 1 ≤ i → i ≤ gap + len → i < gap + e → owns_next P own e ((y + P - i) % P) ≡ false
  shut_at e i p l m h =
      split i gap
      (λ k. ap (owns_next P own e) (back_over i (omega arith)) ∙ gap_shut (len + gap - i) (omega arith) (omega arith))
      (λ k. tail_may e i (omega arith) m ∙ lt-leb e (i - gap) (omega arith))
    where
      gap_shut : (k : ℕ) → len ≤ k → k < len + gap → owns_next P own e ((x + k) % P) ≡ false
      gap_shut k l m =
          let z : (x + k) + 0 ≡ x + k = omega arith in
          let none : IsRun P own (x + k) 0 = record { owned = λ i n. absurd (omega arith); ends = rw z (free_at k l m) } in
          next_mod P own e (x + k) ∙ run_may P own (x + k) 0 e none ∙ lt-leb e 0 (omega arith)

  pub opens : (e i : ℕ) → 1 ≤ e → i ≤ gap + len → i < gap + e → Open P own e y i
  opens e i p l m j a b = shut_at e j p a (omega arith) (omega arith)

  -- an access that the stretch has room for starts there, and comes no further
  pub closes : (e i : ℕ) → 1 ≤ e → e ≤ len → Open P own e y i → i < gap + e
  closes e i p l o =
      split (gap + e) i
      (λ m. let z : gap + e - gap ≡ e = omega arith in
      absurd (false≢true (sym (o (gap + e) (omega arith) m) ∙ tail_may e (gap + e) (omega arith) (omega arith) ∙ ap (leb e) z ∙ le-leb e e (omega arith))))
      (λ m. m)

  -- one that it has no room for comes from further back
  pub opens_past : (e k : ℕ) → 1 ≤ e → len < e → len + gap + k ≤ P → Open P own e x k → Open P own e y (len + gap + k)
  opens_past e k p l m o i a b =
      split i (len + gap)
      (λ n. shut_at e i p a (omega arith) (omega arith))
      (λ n. let z : len + gap + (i - (len + gap)) ≡ i = omega arith in
      subst (λ (j : ℕ). owns_next P own e ((y + P - j) % P) ≡ false) z
      (ap (owns_next P own e) (back_past (i - (len + gap)) (omega arith)) ∙ o (i - (len + gap)) (omega arith) (omega arith)))

  pub from_past : (e k : ℕ) → len + gap + k ≤ P → Open P own e y (len + gap + k) → Open P own e x k
  from_past e k m o i a b =
      sym (ap (owns_next P own e) (back_past i (omega arith))) ∙ o (len + gap + i) (omega arith) (omega arith)

-- ---- once round the period

module _ (P : ℕ) (own : ℕ → Bool) (f : ℕ) (first : Begins P own f) where
  pub from_none : (f + 0) % P ≡ f
  from_none = rw add-zero (mod-eq_of_lt first.low)

  pub once_round : (f + P) % P ≡ f
  once_round = rw add-mod_right (mod-eq_of_lt first.low)

  -- n cycles on, and back again
  pub back_again : (n : ℕ) → n ≤ P → ((f + n) % P + P - n) % P ≡ f
  back_again n l =
      let a : (f + n) % P + P - n ≡ (f + n) % P + (P - n) = omega arith in
      let b : f + n + (P - n) ≡ f + P = omega arith in
      ap (λ (k : ℕ). k % P) a ∙ mod-add-mod (f + n) P (P - n) ∙ ap (λ (k : ℕ). k % P) b ∙ once_round

  -- every offset is some cycles after f, f itself a period
  pub index : (a : ℕ) → a < P → (i : ℕ) × (1 ≤ i) × (i ≤ P) × ((f + i) % P ≡ a)
  index a l =
      split a f
      (λ h. (a + P - f, omega (arith, first.low), omega arith, (let z : f + (a + P - f) ≡ a + P = omega (arith, first.low) in rw (z, add-mod_right) (mod-eq_of_lt l))))
      (λ h. (a - f, omega arith, omega arith, (let z : f + (a - f) ≡ a = omega arith in rw z (mod-eq_of_lt l))))

  -- from the begin that is w cycles after f on to the next
  module _ (w x len gap y : ℕ) (few : w < P) (place : x ≡ (f + w) % P) (c : NextStretch P own x len gap y) where
    on : (k : ℕ) → (x + k) % P ≡ (f + (w + k)) % P
    on k =
        let z : f + w + k ≡ f + (w + k) = omega arith in
        ap (λ (n : ℕ). (n + k) % P) place ∙ mod-add-mod (f + w) P k ∙ ap (λ (n : ℕ). n % P) z

    -- no stretch begins between
    pub none_between : (i : ℕ) → w < i → i < w + (len + gap) → Begins P own ((f + i) % P) → ⊥
    none_between i l m b =
        let z : w + (i - w) ≡ i = omega arith in
        let here : own ((x + (i - w)) % P) ≡ true = ap own (on (i - w)) ∙ subst (λ (n : ℕ). own ((f + n) % P) ≡ true) (sym z) b.here in
        split len (i - w)
        (λ h. false≢true (sym (free_at P own x len gap y c (i - w) h (omega arith)) ∙ here))
        (λ h.
        let u : (f + i) % P + P - 1 ≡ (f + i) % P + (P - 1) = omega (arith, first.low) in
        let v : f + i + (P - 1) ≡ f + (w + (i - w - 1)) + P = omega (arith, first.low) in
        let q : ((f + i) % P + P - 1) % P ≡ (x + (i - w - 1)) % P =
        ap (λ (n : ℕ). n % P) u ∙ mod-add-mod (f + i) P (P - 1) ∙ ap (λ (n : ℕ). n % P) v ∙ add-mod_right (f + (w + (i - w - 1))) P ∙ sym (on (i - w - 1)) in
        false≢true (sym b.before ∙ ap own q ∙ c.run.owned (i - w - 1) (omega arith)))

    -- the next does not lie beyond f, a period on
    pub round : w + (len + gap) ≤ P
    round =
        split (w + (len + gap)) P (λ h. h)
        (λ h. absurd (none_between P few h (subst (λ (a : ℕ). Begins P own a) (sym once_round) first)))

    pub next_place : y ≡ (f + (w + (len + gap))) % P
    next_place = c.place ∙ on (len + gap)
