-- A set that is made by doubling has each duration of the range.
use mathlib.Core.Path.{◌≡◌, ◌∙◌, sym, ap}
use Prim.Native.Nat.{ℕ, zero, ◌*◌, ◌%◌, ◌^◌, ◌<◌}
use lib.Bits.{bit_or, or_lt}
use Rattle.offsets.specs.declared.Set.{Set}
use Rattle.offsets.specs.Sets.{value, turned_by, turned_range, Raised}
use Rattle.offsets.specs.Doubles.{Doubled, one, more}
use Rattle.offsets.proofs.Turns.{turned_lt, range_one, range_double}
use Rattle.offsets.proofs.Raises.{raised_one, raised_double}

module _ (Moved : Set → ℕ → Set → Type 0) (first : Set) where
  -- by turns within the period p
  pub doubled_turns : (p lo n : ℕ) → zero < p → ((a m : Set) (d : ℕ) → value a < 2 ^ p → Moved a d m → value m ≡ turned_by p d (value a))
      → value first ≡ turned_by p lo n → (k : ℕ) (r : Set) → Doubled Moved first k r → (value r < 2 ^ p) × (value r ≡ turned_range p lo k n)
  doubled_turns p lo n pos by e _ _ one = (rw e (turned_lt p lo n pos), e ∙ sym (range_one p lo n))
  doubled_turns p lo n pos by e _ _ (more {k = k} {d = d} {a = a} {m = m} {r = r} x l y f) =
      let (lt, is) = doubled_turns p lo n pos by e k a x in
      let g : value r ≡ bit_or (value a) (turned_by p d (value a)) = f ∙ ap (bit_or (value a)) (by a m d lt y) in (
        rw g (or_lt p (value a) (turned_by p d (value a)) lt (turned_lt p d (value a) pos)),
        g ∙ ap (λ (x : ℕ). bit_or x (turned_by p d x)) is ∙ sym (range_double p lo k d n pos l),
      )

  -- by moves up
  pub doubled_ups : (lo n : ℕ) → ((a m : Set) (d : ℕ) → Moved a d m → value m ≡ (value a * 2 ^ d) % 2 ^ 256)
      → value first ≡ (n * 2 ^ lo) % 2 ^ 256 → (k : ℕ) (r : Set) → Doubled Moved first k r → Raised n lo k (value r)
  doubled_ups lo n by e _ _ one = rw e (raised_one n lo)
  doubled_ups lo n by e _ _ (more {k = k} {d = d} {a = a} {m = m} {r = r} x l y f) =
      rw (f ∙ ap (bit_or (value a)) (by a m d y)) (raised_double n lo k d (value a) l (doubled_ups lo n by e k a x))
