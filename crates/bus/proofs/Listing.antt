-- The list of the stretches, one after the other in the order of their begins.
use mathlib.Core.Path.{◌≡◌, refl, sym, ◌∙◌, ap, subst}
use mathlib.Core.Bool.{true, false, cond, false≢true}
use mathlib.Core.List.{List}
use native.Mathlib.Nat.{le_refl}
use native.Mathlib.Omega.{arith}
use borrow.Author.Tests.{lt-ltb, le-ltb}
use lib.ListN.{length, set, length-set}
use lib.Seq.{get_or-set_same, get_or-set_other}
use Prim.Native.Nat.{ℕ, zero, suc, ◌+◌, ◌-◌, ◌%◌, ◌≤◌, ◌<◌}
use Rattle.runs.proofs.Cases.{split}
use Rattle.offsets.specs.Sets.{has, members, Lowest}
use Rattle.bus.specs.Aheads.{Ahead}
use Rattle.bus.specs.declared.Span.{Span}
use Rattle.bus.specs.Stretches.{span_at, after, Ordered}

-- ---- how many offsets of a set are below another

module _ (m : ℕ) where
  pub members_up : (k e : ℕ) → k ≤ e → members m k ≤ members m e
  unfolding members
  members_up k zero h = let z : k ≡ 0 = omega arith in rw z (le_refl 0)
  members_up k (suc e) h = split k e (λ l. omega (arith, members_up k e l)) (λ l. let z : k ≡ suc e = omega arith in rw z (le_refl _))

  pub members_same : (k e : ℕ) → k ≤ e → ((o : ℕ) → k ≤ o → o < e → has m o ≡ false) → members m e ≡ members m k
  unfolding members
  members_same k zero h none = let z : k ≡ 0 = omega arith in rw z refl
  members_same k (suc e) h none =
      split k e
      (λ l. let q : ◌≡◌ {A = ℕ} (cond (has m e) 1 0) 0 = ap (λ t. cond {A = ℕ} t 1 0) (none e l (omega arith)) in omega (arith, q, members_same k e l (λ o i j. none o i (omega arith))))
      (λ l. let z : k ≡ suc e = omega arith in rw z refl)

  pub members_one : (k : ℕ) → has m k ≡ true → members m (suc k) ≡ members m k + 1
  unfolding members
  members_one k h = ap (λ t. members m k + cond {A = ℕ} t 1 0) h

  -- the lowest from k on is in the set, so far as it is below 256, and does not stand before k
  pub lowest_in : (k a : ℕ) → Lowest m k (k + 256) a → a < 256 → has m a ≡ true
  lowest_in k a low l = (low.found (omega arith)).1

  pub lowest_on : (k a : ℕ) → Lowest m k (k + 256) a → k ≤ a
  lowest_on k a low = split (k + 256) a (λ l. omega arith) (λ l. (low.found l).0)

  pub members_none : (e : ℕ) → ((o : ℕ) → o < e → has m o ≡ false) → members m e ≡ 0
  unfolding members
  members_none e none = members_same 0 e (omega arith) (λ o i j. none o j)

  -- where one more is in the set, fewer are below it than in the whole period
  pub members_room : (P a n : ℕ) → a < P → has m a ≡ true → n ≡ members m a → members m P ≤ 16 → n < 16
  members_room P a n l h e few = omega (arith, members_one a h, members_up (suc a) P (omega arith))

  -- the next has one more below it
  pub members_next : (a a' n : ℕ) → has m a ≡ true → Lowest m (a + 1) (a + 1 + 256) a' → n ≡ members m a → n + 1 ≡ members m a'
  members_next a a' n h low e =
      let on = lowest_on (a + 1) a' low in
      let z = members_same (suc a) a' (omega arith) (λ o i j. low.passed o (omega arith) j) in
      omega (arith, z, members_one a h)

-- how far it is to the next of n is less than the period where one stands before
pub ahead_less : (P n a r : ℕ) → a < P → Ahead P n a r → has n ((a + P - 1) % P) ≡ true → r < P
ahead_less P n a r l to h =
    split P r
    (λ k. let z : a + (P - 1) ≡ a + P - 1 = omega arith in
    absurd (false≢true (sym (to.passed (P - 1) (omega arith)) ∙ ap (λ (i : ℕ). has n (i % P)) z ∙ h)))
    (λ k. k)

-- ---- one stretch more

module _ (P n m f : ℕ) where
  pub ordered_none : (spans : List Span) → length spans ≡ 16 → Lowest m 0 256 f → Ordered P n m f spans 0 f
  ordered_none spans l low = record {
    long = l;
    few = omega arith;
    each = λ i k. absurd (omega arith);
    first = λ k. absurd (omega arith);
    next = λ i k. absurd (omega arith);
    last = λ k. absurd (omega arith);
    all = λ o k h. absurd (false≢true (sym (low.passed o (omega arith) k) ∙ h));
  }

  module _ (spans : List Span) (count a : ℕ) (h : Ordered P n m f spans count a) where
    module _ (room : count < 16) (inside : a < P) (here : has m a ≡ true) (at_first : count ≡ 0 → a ≡ f) (r a' : ℕ) (to : Ahead P n a r)
        (low : Lowest m (a + 1) (a + 1 + 256) a') where
      abbrev new : Span
      new = record { begin = a; len = r }

      abbrev more : List Span
      more = set spans count new

      at_new : span_at more count ≡ new
      at_new = get_or-set_same spans count new _ (omega (arith, h.long))

      at_old : (i : ℕ) → i < count → span_at more i ≡ span_at spans i
      at_old i l = get_or-set_other spans count i new _ (λ z. omega arith)

      -- what holds of the old ones and of the new one
      both : (Q : ℕ → Type 0) → ((i : ℕ) → i < count → Q i) → Q count → (i : ℕ) → i < count + 1 → Q i
      both Q x y i l = split count i (λ k. let z : count ≡ i = omega arith in subst Q z y) (λ k. x i k)

      beyond : a < a'
      beyond = let z = lowest_on m (a + 1) a' low in omega arith

      pub ordered_more : Ordered P n m f more (count + 1) a'
      ordered_more = record {
        long = length-set spans count new ∙ h.long;
        few = omega arith;
        each = both (λ i. ((span_at more i).begin < P) × (has m (span_at more i).begin ≡ true) × Ahead P n (span_at more i).begin (span_at more i).len)
            (λ i l. rw (at_old i l) (h.each i l)) (rw at_new (inside, here, to));
        first = λ k. split 1 count (λ l. rw (at_old 0 l) (h.first l)) (λ l. let z : count ≡ 0 = omega arith in subst (λ i. (span_at more i).begin ≡ f) z (rw at_new (at_first z)));
        next = λ i k.
            split (i + 2) count
            (λ l. rw (at_old i (omega arith), at_old (i + 1) (omega arith)) (h.next i (omega arith)))
            (λ l. let z : i + 1 ≡ count = omega arith in
            let y : i ≡ count - 1 = omega arith in
            let x = h.last (omega arith) in
            subst (λ j. ((span_at more i).begin < (span_at more j).begin) × ((o : ℕ) → (span_at more i).begin < o → o < (span_at more j).begin → has m o ≡ false)) (sym z) (rw (at_new, at_old i (omega arith), y) x));
        last = λ k. let z : count + 1 - 1 ≡ count = omega arith in rw (z, at_new) (beyond, λ o i j. low.passed o (omega arith) j);
        all = λ o k t.
            split a o
            (λ i. split (a + 1) o
            (λ j. absurd (false≢true (sym (low.passed o j k) ∙ t)))
            (λ j. let z : a ≡ o = omega arith in (count, omega arith, rw at_new z)))
            (λ i. let (j, l, e) = h.all o i t in (j, omega arith, rw (at_old j l) e));
      }

-- ---- the number of the next

pub after_next : (n i : ℕ) → i + 1 < n → after n i ≡ i + 1
unfolding after
after_next n i l = rw (lt-ltb (i + 1) n l) refl

pub after_last : (n i : ℕ) → n ≤ i + 1 → after n i ≡ 0
unfolding after
after_last n i l = rw (le-ltb (i + 1) n l) refl

pub after_in : (n i : ℕ) → i < n → after n i < n
after_in n i l = split n (i + 1) (λ k. omega (arith, after_last n i k)) (λ k. omega (arith, after_next n i k))
