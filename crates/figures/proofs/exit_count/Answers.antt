use mathlib.Core.Path.{◌≡◌, refl, ◌∙◌, ap}
use mathlib.Core.Bool.{Bool, true, false, cond, not}
use mathlib.Core.List.{List}
use lib.Dec.{eqb}
use lib.ListN.{get_or}
use Prim.Native.Nat.{ℕ, ◌+◌, ◌≤◌}
use Rattle.runs.specs.Figures.{no_time, sum}
use Rattle.offsets.specs.declared.Set.{Set}
use Rattle.offsets.specs.Sets.{value, members}
use Rattle.offsets.proofs.Counts.{members_within, members_count}
use Rattle.figures.specs.Steps.{Holding, holding}
use Rattle.figures.proofs.exit_count.Goals as goal

-- The set has just the places below n that hold a time, so its ones are counted there; it has none from n on.
counted : (t : List ℕ) (n : ℕ) (r : Set) → n ≤ 256 → Holding t n r → members (value r) 256 ≡ holding t n
unfolding sum
counted t n r h k =
    members_within (value r) n 256 k.within h
    ∙ members_count (value r) (λ o. not (eqb (get_or t o 0) no_time)) (holding t) refl
    (λ o. ap (λ (x : ℕ). holding t o + x) (swap (eqb (get_or t o 0) no_time))) n k.members
  where
    swap : (b : Bool) → ◌≡◌ {A = ℕ} (cond b 0 1) (cond (not b) 1 0)
    swap true = refl
    swap false = refl

pub returns : goal.returns
returns c = c.count.ensures ∙ counted c.args.t.now c.args.n c.exit_set.result c.requires c.exit_set.ensures
