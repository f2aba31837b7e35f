-- The start offsets as a part of the image, and one start more.
use mathlib.Core.Path.{◌≡◌, refl, sym, ◌∙◌, ap}
use mathlib.Core.Bool.{Bool, true, false, ◌||◌, or-false}
use mathlib.Core.List.{List, [], ◌∷◌}
use lib.ListN.{length, get_or, take}
use lib.Dec.{eqb}
use lib.Seq.{ext_get_or}
use native.Mathlib.Nat.{add-zero, not-suc-le-zero}
use native.Mathlib.Omega.{arith}
use Prim.Native.Nat.{ℕ, zero, suc, ◌+◌, ◌≤◌, ◌<◌}
use Rattle.std.specs.Prelude.{slice_range}
use Rattle.std.proofs.lemmas.List.Edits.{length-between, get_or-between}
use Rattle.runs.specs.Runs.{is_start}
use Rattle.image_bytes.specs.Bytes.{byte_at, bytes}

pub bytes_length : (s : List ℕ) (p n : ℕ) → length (bytes s p n) ≡ n
unfolding bytes
bytes_length s p zero = refl
bytes_length s p (suc n) = ap suc (bytes_length s (p + 1) n)

pub bytes_number : (s : List ℕ) (p n j : ℕ) → j < n → get_or (bytes s p n) j 0 ≡ byte_at s (p + j)
unfolding bytes
bytes_number s p zero j h = absurd (not-suc-le-zero h)
bytes_number s p (suc n) zero h = ap (byte_at s) (sym (add-zero p))
bytes_number s p (suc n) (suc j) h =
    let e : p + 1 + j ≡ p + suc j = omega arith in
    bytes_number s (p + 1) n j (omega arith) ∙ ap (byte_at s) e

-- a part of the image is the bytes there
pub part_is : (s : List ℕ) (p n : ℕ) → p + n ≤ length s → slice_range s p (p + n) ≡ bytes s p n
part_is s p n h =
    let long : length (slice_range s p (p + n)) ≡ n = omega (arith, length-between s p (p + n) h) in
    ext_get_or 0 (slice_range s p (p + n)) (bytes s p n) (long ∙ sym (bytes_length s p n))
    (λ j l. let few : j < n = omega (arith, long, l) in get_or-between s p (p + n) j 0 (omega arith) ∙ sym (bytes_number s p n j few))

pub one_more : (l : List ℕ) (i o : ℕ) → i < length l → is_start (take (i + 1) l) o ≡ (is_start (take i l) o || eqb (get_or l i 0) o)
unfolding is_start
one_more [] i o h = absurd (not-suc-le-zero h)
one_more (x ∷ l) zero o h = or-false (eqb x o)
one_more (x ∷ l) (suc i) o h =
    let e : suc i + 1 ≡ suc (i + 1) = omega arith in
    rw e (ap (λ (b : Bool). eqb x o || b) (one_more l i o (omega arith)) ∙ or_assoc (eqb x o) (is_start (take i l) o) (eqb (get_or l i 0) o))
  where
    or_assoc : (a b c : Bool) → (a || (b || c)) ≡ ((a || b) || c)
    or_assoc true b c = refl
    or_assoc false b c = refl
