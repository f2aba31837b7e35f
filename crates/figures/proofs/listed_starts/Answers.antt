use mathlib.Core.Path.{◌≡◌}
use native.Mathlib.Omega.{arith}
use Prim.Native.Nat.{◌+◌}
use Rattle.rows.specs.Fields.{length_at, body_at}
use Rattle.rows.proofs.Kept.{first_end}
use Rattle.figures.proofs.Listed.{part_is}
use Rattle.figures.proofs.listed_starts.Goals as goal

pub slice_bounds-result-end : goal.slice_bounds-result-end
slice_bounds-result-end c = omega (arith, c.word-place.ensures.0, first_end c.args.image.now)

pub returns : goal.returns
returns c =
    let s = c.args.image.now in
    let place : 6 + c.word-place.result ≡ body_at s 1 = omega (arith, c.word-place.ensures.0, first_end s) in
    let count : c.args.n ≡ length_at s 1 = c.requires.0 in
    rw (place, count) (part_is s (body_at s 1) (length_at s 1) (omega arith))
