use borrow.Rule.Slice.PartMut.{put_mid}
use mathlib.Core.Path.{◌≡◌, ◌∙◌, ap, ap₂}
use mathlib.Core.List.{List, [], ◌∷◌}
use lib.ListN.{set, length, length-set}
use native.Mathlib.Omega.{arith}
use Prim.Native.Nat.{ℕ, ◌+◌, ◌-◌, ◌/◌, ◌%◌, ◌≤◌}
use Rattle.edits.specs.Edits.{with_durations}
use Rattle.edits.proofs.Written.{two, three, pair_set}
use Rattle.edits.proofs.set_durations.Goals as goal

-- Each number is copied as its two bytes, and that is as two bytes set.
pub returns : goal.returns
unfolding with_durations
returns c =
    let a = c.args in
    let s = a.image.now in
    let lo = a.lowest in
    let hi = a.highest in
    let b = a.at + 3 in
    let e : b + 2 - b ≡ 2 = omega arith in
    let f : b + 4 - (b + 2) ≡ 2 = omega arith in
    let g : b + 2 + 1 ≡ b + 3 = omega arith in
    let low : c.copy_from_slice.new.self ≡ lo / 256 ∷ lo % 256 ∷ [] = c.copy_from_slice.ensures.after ∙ c.to_be_bytes.ensures ∙ ap₂ (λ (x y : ℕ). x ∷ y ∷ []) (omega arith) (omega arith) in
    let high : c.copy_from_slice-2.new.self ≡ hi / 256 ∷ hi % 256 ∷ [] = c.copy_from_slice-2.ensures.after ∙ c.to_be_bytes-2.ensures ∙ ap₂ (λ (x y : ℕ). x ∷ y ∷ []) (omega arith) (omega arith) in
    let long : b + 2 + 2 ≤ length (two s b lo) = simp length-set (omega arith) in
    rw (e, f, low, high)
    (ap (λ (l : List ℕ). put_mid (b + 2) 2 l (hi / 256 ∷ hi % 256 ∷ [])) (pair_set s b (lo / 256) (lo % 256) (omega arith))
    ∙ pair_set (two s b lo) (b + 2) (hi / 256) (hi % 256) long
    ∙ ap (λ (k : ℕ). set (three s b lo hi) k (hi % 256)) g)
