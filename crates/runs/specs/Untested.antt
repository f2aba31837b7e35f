-- The loop without a test, as document 01 has it; W3 puts the loop tested at the head in its place. What the laws of proofs/Untested.antt compare with: no
-- promise cites this. Definitions only.
use Rattle.std.specs.Prelude.{List, Bool, get_or, ℕ, zero, suc, ◌≤◌}
use Rattle.runs.specs.Bus.{Bus}
use Rattle.runs.specs.Clock.{Places, State}
use Rattle.runs.specs.Nodes.{Node, Tree}
use Rattle.runs.specs.Runs.{Does}
use Rattle.runs.specs.Carried.{row, iterate, join_from, carried}
use Rattle.runs.specs.Figures.{exits, cost, sum}

-- "a loop its body as often as any permitted count says"
module _ (b : Bus) (q : Places) (node_at : ℕ → Node) where
  pub data Iterates (body : ℕ) : ℕ → State → State → Type 0 where
    none : {s : State} → Iterates body zero s s
    again : {k : ℕ} {s m s' : State} → Iterates body k s m → Does b q node_at body m s' → Iterates body (suc k) s s'

  abbrev pub Untested : ℕ → ℕ → ℕ → State → State → Type 0
  Untested least greatest body s s' = (k : ℕ) × (least ≤ k) × (k ≤ greatest) × Iterates body k s s'

-- "iteration i + 1 starts from the whole exit set of iteration i"; "the exit set joins those after k iterations for every permitted k"
abbrev pub untested : Bus → (q : Places) → {X : Type 0} → X → (X → X → X) → (ℕ → X → X) → ℕ → ℕ → Tree → List X → List X
untested b q empty join later least greatest body T =
    row q.size (λ p. join_from empty join least greatest (λ k. get_or (iterate (carried b q empty join later body) k T) p empty))

-- "the cost is the sum over the greatest count"
abbrev pub untested_cost : Bus → ℕ → Tree → List Bool → ℕ
untested_cost b greatest body X = sum greatest (λ i. cost b body (iterate (exits b body) i X))
