use mathlib.Core.Path.{refl, ◌∙◌, ap}
use native.Mathlib.Omega.{arith}
use native.Mathlib.Numerals.{add-one}
use Prim.Native.Nat.{ℕ, ◌+◌}
use Rattle.runs.specs.Nodes.{node_lines, lines_to}
use Rattle.nodes.specs.Nodes.{meant, node_of, node_at}
use Rattle.rows.proofs.Standing.{unclosed_few, unclosed_fewer}
use Rattle.nodes.proofs.fetched.lines.Goals as goal

pub loop-n-init : goal.loop-n-init
unfolding lines_to
loop-n-init c = refl

pub offset_bounds-places-n : goal.offset_bounds-places-n
offset_bounds-places-n c = omega (arith, unclosed_few _ _ c.requires.0)

pub bounds-places-n : goal.bounds-places-n
bounds-places-n c = omega (arith, unclosed_few _ _ c.requires.0)

pub line_at-requires : goal.line_at-requires
line_at-requires c =
    let l = c.loop-n in
    (l.n, record { passed = unclosed_fewer _ (l.n + 3) (c.args.nodes + 2) (omega arith) c.requires.0; place = c.requires.1 l.n (omega arith) })

pub loop-n-preserved : goal.loop-n-preserved
unfolding lines_to node_at
loop-n-preserved c =
    let s = c.args.image.now in
    let l = c.loop-n in
    let line = c.line_at.ensures ∙ ap (λ (at : ℕ). node_lines (meant s (node_of s at))) (c.requires.1 l.n (omega arith)) in
    rw (add-one l.n) (omega (arith, line, l.invariant))
