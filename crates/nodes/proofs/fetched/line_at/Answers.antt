use mathlib.Core.Path.{◌≡◌, refl, sym}
use mathlib.Core.List.{List}
use native.Mathlib.Omega.{arith}
use Prim.Native.Nat.{ℕ}
use Rattle.runs.specs.Nodes.{node_lines}
use Rattle.nodes.specs.Nodes.{meant}
use Rattle.nodes.specs.Fine.{Fine}
use Rattle.nodes.specs.declared.Node.{Node}
use Rattle.nodes.specs.declared.Node.TheVariants.{Plain, Bus as Block, Once, Sequence, Branch, Loop}
use Rattle.nodes.specs.declared.Once.{Once as OnceNumbers}
use Rattle.nodes.proofs.Levels.{fine_here}
use Rattle.nodes.proofs.fetched.line_at.Goals as goal

-- Only a block fetched once has a line.
no_line : (s : List ℕ) (x : Node) → ((y : OnceNumbers) → x ≡ Once y → ⊥) → 0 ≡ node_lines (meant s x)
unfolding meant
no_line s (Plain p) h = refl
no_line s (Block b) h = refl
no_line s (Once y) h = absurd (h y refl)
no_line s (Sequence c) h = refl
no_line s (Branch c) h = refl
no_line s (Loop l) h = refl

pub overflow_add-result : goal.overflow_add-result
unfolding Fine
overflow_add-result c =
    let (n, here) = c.requires in
    let f = fine_here _ n _ here _ (sym c.in-Once.ensures) in
    omega (arith, f.line_most)

pub returns-in-Once : goal.returns-in-Once
unfolding meant
returns-in-Once c = rw (sym c.in-Once.ensures)

pub returns-in_default : goal.returns-in_default
returns-in_default c = rw (← c.node_at.ensures) (no_line _ _ c.in_default.not-Once)
