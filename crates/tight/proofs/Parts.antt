-- A node's table from its children's: a sequence, a branch, a loop.
use mathlib.Core.Path.{◌≡◌, ◌∙◌}
use mathlib.Core.List.{List}
use Prim.Native.Nat.{ℕ}
use Rattle.runs.specs.Clock.{with_lines}
use Rattle.runs.specs.Nodes.{Tree, Trees, none, more}
use Rattle.runs.specs.Carried.{carried}
use Rattle.image.specs.declared.Walk.{Walk}
use Rattle.tight.specs.Steps.{table, Stepped, after_all, Walked, Branched, Repeated}
use Rattle.tight.proofs.Tables.{table_is}

module _ (k : Walk) (x : Tree) (t : List ℕ) where
  pub as_all : (xs : Trees) (r : List ℕ) → x ≡ Tree.sequence xs → table k r ≡ after_all k xs (table k t) → Stepped k x t r
  unfolding carried with_lines
  as_all xs r e h = rw e h

  pub as_any : (xs : Trees) (r : List ℕ) → x ≡ Tree.branch xs → Branched k xs t r → Stepped k x t r
  unfolding carried with_lines
  as_any xs r e h = rw e (table_is k r _ h)

  -- the test, and then the iterations, a test after each
  pub as_loop : (body test : Tree) (least greatest : ℕ) (t₁ r : List ℕ) → x ≡ Tree.loop least greatest body test → Walked k test t t₁
      → Repeated k (more body (more test none)) least greatest t₁ r → Walked k x t r
  unfolding carried with_lines
  as_loop body test least greatest t₁ r e first u = record {
    size = u.size ∙ first.size;
    steps = rw e (rw first.steps at (table_is k r _ u.joins));
  }
