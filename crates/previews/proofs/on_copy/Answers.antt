use borrow.Author.Rules.{rules}
use mathlib.Core.Path.{◌≡◌, ◌∙◌, ap}
use mathlib.Core.List.{List, ◌++◌}
use lib.ListN.{length, take}
use Rattle.std.proofs.lemmas.List.{length-append, length-drop}
use native.Mathlib.Omega.{arith}
use Prim.Native.Nat.{ℕ, ◌+◌, ◌≤◌}
use Rattle.image.specs.Conditions.{longest_image}
use Rattle.edits.specs.Edits.{with_durations}
use Rattle.edits.proofs.Written.{written_copy}
use Rattle.previews.proofs.on_copy.Goals as goal

-- an image at the front of a copy, and the durations set there
copied : (s front rest copy : List ℕ) (b lo hi : ℕ) → b + 4 ≤ length s → front ≡ s → copy ≡ with_durations (front ++ rest) b lo hi
    → take (length s) copy ≡ with_durations s b lo hi
copied s front rest copy b lo hi inside f e =
    ap (take (length s)) (e ∙ ap (λ (l : List ℕ). with_durations (l ++ rest) b lo hi) f) ∙ written_copy s b lo hi inside rest

pub set_durations-requires : goal.set_durations-requires
set_durations-requires c =
    let r = c.requires.0 in
    let near : c.args.at + 7 ≤ longest_image = omega arith in
    record { inside = search (rules, length-append, length-drop); low = omega (arith, r.low, r.high); high = omega (arith, r.high) }

pub returns : goal.returns
returns c =
    let a = c.args in
    let s = a.image.now in
    let f = c.copy_from_slice in
    let p = c.set_durations in
    let g = c.figures in
    let e = copied s f.new.self _ p.new.image (a.at + 3) a.lowest a.highest (omega (arith, c.requires.0.inside)) f.ensures.after p.ensures in
    rw e at g.ensures
