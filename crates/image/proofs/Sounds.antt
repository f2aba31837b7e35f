-- What the layers above need of an accepted image: it is sound, and the task that its bytes say is one of which crate `runs` proves both figures.
use mathlib.Core.Path.{◌≡◌, sym, ◌∙◌}
use mathlib.Core.Bool.{true, false}
use mathlib.Core.Option.{none}
use mathlib.Core.List.{List}
use Prim.Native.Nat.{ℕ, ◌+◌, ◌≤◌, ◌<◌}
use native.Mathlib.Omega.{arith}
use lib.ListN.{get_or}
use Rattle.runs.specs.Runs.{is_start}
use Rattle.runs.specs.Figures.{held, exit_times, exit_set}
use Rattle.runs.specs.Exact.{InRange, ValidTask}
use Rattle.runs.proofs.Unlined.{exit_exact}
use Rattle.image_bytes.specs.Bytes.{byte_at}
use Rattle.schedule.specs.Said.{said, Ranged}
use Rattle.rows.specs.Fields.{field_at, length_at, body_at, GoodField}
use Rattle.rows.specs.Unclosed.{Unclosed}
use Rattle.nodes.specs.Nodes.{node_of, meant, node_at}
use Rattle.image.specs.Tasks.{starts_of, task_of}
use Rattle.image.specs.Judged.{judged}
use Rattle.rows.specs.Rules.{Starts}
use Rattle.image.specs.Conditions.{Accepting}
use Rattle.nodes.specs.Fine.{Fine, Standing}
use Rattle.image.specs.Walks.{Sound}
use Rattle.nodes.specs.declared.Node.{Node}
use Rattle.nodes.specs.declared.Node.TheVariants.{Plain, Bus as Block, Once, Sequence, Branch, Loop}
use Rattle.image.specs.declared.Outline.{Outline}
use Rattle.std.specs.Prelude.{Ok}
use Rattle.nodes.proofs.Lists.{words_some, is_listed_lem}
use Rattle.rows.proofs.Standing.{inside, unclosed_few, unclosed_fewer, unclosed_passed}
use Rattle.nodes.proofs.Kept.{node_fine}
use Rattle.rows.proofs.Kept.{first_fine, starts_count, starts_fine}
use Rattle.schedule.proofs.Sayings.{said_lawful, said_small}
use Rattle.nodes.proofs.Levels.{falls}
use Rattle.nodes.proofs.Fetches.{lines_few, no_lines}
use Rattle.image.proofs.Endings.{nodes_stand, entry_low}
use Rattle.image.proofs.Reasons.{when_accepted}

module _ (s : List ℕ) (t : Outline) (a : Accepting s t) where
  pub stand : Unclosed s (t.nodes + 2)
  stand = nodes_stand s t.nodes t.entry a.ending

  pub entry_below : t.entry < t.nodes
  entry_below = entry_low s t.nodes t.entry a.ending

  good : (k : ℕ) → k < t.nodes + 2 → GoodField s k
  good k l = (stand k l).0

  pub ranged_kept : Ranged s
  ranged_kept = first_fine s (good 0 (omega arith))

  pub starts_kept : Starts s (body_at s 1) t.starts (said s).period
  starts_kept = rw a.starts (starts_fine s (good 1 (omega arith)))

  pub count_kept : (1 ≤ t.starts) × (t.starts ≤ 256)
  count_kept = rw a.starts (starts_count s (good 1 (omega arith)))

  pub node_kept : (k : ℕ) → k < t.nodes → Fine s k (node_of s (field_at s (k + 2)))
  node_kept k l = node_fine s k (stand (k + 2) (omega arith))

  pub sound : (places : List ℕ) → ((k : ℕ) → k < t.nodes → get_or places k 0 ≡ field_at s (k + 2)) → Sound s t places
  sound places p =
      record {
        accepting = a;
        ranged = ranged_kept;
        starts_some = count_kept.0;
        starts_few = count_kept.1;
        starts = starts_kept;
        entry = entry_below;
        few = omega (arith, unclosed_few s (t.nodes + 2) stand);
        placed = p;
        inside = λ k l. inside s (k + 2) (unclosed_passed s (k + 2) (unclosed_fewer s (k + 2) (t.nodes + 2) (omega arith) stand));
        fine = node_kept;
        lines_few = rw a.lines (lines_few s t.nodes stand);
      }

-- the ranges of a node's row are those that the theorem asks for
in_range : (s : List ℕ) (own : ℕ) (x : Node) → Fine s own x → InRange (said s) (meant s x)
unfolding meant Fine
in_range s own (Plain p) f = (f.order, f.most)
in_range s own (Block k) f = (f.some, f.order, f.most)
in_range s own (Once x) f = (f.access.some, f.access.order, f.access.most, f.hit_most)
in_range s own (Sequence c) f = tt
in_range s own (Branch c) f = words_some s c.place c.count (omega (arith, f.0))
in_range s own (Loop l) f = f.0.order

range_at : (s : List ℕ) (n : ℕ) → Fine s n (node_of s (field_at s (n + 2))) → InRange (said s) (node_at s n)
unfolding node_at
range_at s n f = in_range s n (node_of s (field_at s (n + 2))) f

-- the first start offset is one
first : (s : List ℕ) (n : ℕ) → n ≡ length_at s 1 → 1 ≤ n → Starts s (body_at s 1) n (said s).period → (o : ℕ) × (o < (said s).period) × (is_start (starts_of s) o ≡ true)
first s n e some u = (byte_at s (body_at s 1 + 0), u.low 0 (omega arith), is_listed_lem s (body_at s 1) (length_at s 1) 0 (omega arith))

-- the task that an accepted image says is one of the theorem's
pub accepted : (s : List ℕ) (t : Outline) → judged s ≡ Ok t → ValidTask (task_of s t)
accepted s t e =
    let a = when_accepted s t e in
    let r = ranged_kept s t a in
    let low = entry_below s t a in
    let p = unclosed_fewer s (t.entry + 3) (t.nodes + 2) (omega arith) (stand s t a) in
    record {
      lawful = said_lawful s r;
      small = let (period, most) = said_small s r in omega arith;
      start = first s t.starts a.starts (count_kept s t a).0 (starts_kept s t a);
      falls = falls s t.entry p;
      ranges = λ n l. range_at s n (node_kept s t a n (omega arith));
    }

-- node k of a sound task stands at its place, so `tree_here` and `fine_here` of crate nodes say what it is
pub standing : (s : List ℕ) (t : Outline) (places : List ℕ) → Sound s t places → (k : ℕ) → k < t.nodes → Standing s k (get_or places k 0)
standing s t places h k l = record { passed = unclosed_fewer s (k + 3) (t.nodes + 2) (omega arith) (stand s t h.accepting); place = h.placed k l }

-- of an image of no lines the published exit set has exactly the offsets at which runs end
pub unlined_exits : (s : List ℕ) (t : Outline) → judged s ≡ Ok t → t.lines ≡ 0
    → (o : ℕ) → o < (task_of s t).bus.period → get_or (exit_set (task_of s t)) o false ≡ held (get_or (exit_times (task_of s t)) o none)
unlined_exits s t e z =
    let a = when_accepted s t e in
    exit_exact (task_of s t) (accepted s t e) (λ n l. no_lines s t.nodes (sym a.lines ∙ z) n (omega (arith, entry_below s t a)))
