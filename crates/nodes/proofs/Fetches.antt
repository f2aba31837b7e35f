-- The number of lines: every node's line is below it, and it is at most 4.
use mathlib.Core.Path.{◌≡◌, refl, ap₂}
use mathlib.Core.List.{List}
use Prim.Native.Nat.{ℕ, zero, suc, ◌+◌, ◌≤◌, ◌<◌, max}
use native.Mathlib.Nat.{not-suc-le-zero, le_of_suc-le-suc}
use native.Mathlib.Omega.{arith}
use Rattle.runs.proofs.Cases.{split}
use Rattle.runs.specs.Lines.{power}
use Rattle.runs.specs.Nodes.{Node as RunNode, node_lines, lines_to}
use Rattle.nodes.specs.Nodes.{meant, node_at, lines_of}
use Rattle.rows.specs.Unclosed.{Unclosed}
use Rattle.nodes.specs.Fine.{Fine}
use Rattle.nodes.specs.declared.Node.{Node}
use Rattle.nodes.specs.declared.Node.TheVariants.{Plain, Bus as Block, Once, Sequence, Branch, Loop}
use Rattle.rows.proofs.Standing.{unclosed_fewer}
use Rattle.nodes.proofs.Kept.{node_fine}

-- a good field's line
pub line_few : (s : List ℕ) (own : ℕ) (x : Node) → Fine s own x → node_lines (meant s x) ≤ 4
unfolding Fine meant
line_few s own (Plain p) f = omega arith
line_few s own (Block b) f = omega arith
line_few s own (Once x) f = omega (arith, f.line_most)
line_few s own (Sequence c) f = omega arith
line_few s own (Branch c) f = omega arith
line_few s own (Loop l) f = omega arith

pub lines_few : (s : List ℕ) (n : ℕ) → Unclosed s (n + 2) → lines_of s n ≤ 4
unfolding lines_to node_at
lines_few s zero p = omega arith
lines_few s (suc n) p = omega (arith, lines_few s n (unclosed_fewer s (n + 2) (suc n + 2) (omega arith) p), line_few s n _ (node_fine s n (p (n + 2) (omega arith))))

pub line_below : (s : List ℕ) (k n : ℕ) → k < n → node_lines (node_at s k) ≤ lines_of s n
unfolding lines_to
line_below s k zero h = absurd (not-suc-le-zero h)
line_below s k (suc n) h =
    split n k
    (λ l. let e : k ≡ n = omega arith in rw e (omega arith))
    (λ l. omega (arith, line_below s k n l))

-- an image of no lines has no block fetched once
pub no_lines : (s : List ℕ) (n : ℕ) → lines_of s n ≡ 0 → (k : ℕ) → k < n → node_lines (node_at s k) ≡ 0
no_lines s n e k h = omega (arith, line_below s k n h)

-- nodes that have the same lines one by one have as many together
pub lines_alike : (a b : ℕ → RunNode) (n : ℕ) → ((k : ℕ) → k < n → node_lines (a k) ≡ node_lines (b k)) → lines_to a n ≡ lines_to b n
unfolding lines_to
lines_alike a b zero h = refl
lines_alike a b (suc n) h = ap₂ max (lines_alike a b n (λ k l. h k (omega arith))) (h n (omega arith))

-- there are at most 16 sets
pub few_sets : (x : ℕ) → x ≤ 4 → power x ≤ 16
unfolding power
few_sets zero h = omega arith
few_sets (suc zero) h = omega arith
few_sets (suc (suc zero)) h = omega arith
few_sets (suc (suc (suc zero))) h = omega arith
few_sets (suc (suc (suc (suc zero)))) h = omega arith
few_sets (suc (suc (suc (suc (suc x))))) h = absurd (not-suc-le-zero (le_of_suc-le-suc (le_of_suc-le-suc (le_of_suc-le-suc (le_of_suc-le-suc h)))))
