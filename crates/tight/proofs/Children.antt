-- One child of a sequence or a branch: the walk may be asked of it, and the rest goes on from it.
use mathlib.Core.Path.{◌≡◌, sym, ◌∙◌, ap}
use mathlib.Core.Option.{none}
use mathlib.Core.List.{List}
use lib.ListN.{length, get_or}
use native.Mathlib.Omega.{arith}
use Prim.Native.Nat.{ℕ, ◌+◌, ◌-◌, ◌*◌, ◌≤◌, ◌<◌}
use Rattle.runs.specs.Nodes.{Tree, visits, visits_all}
use Rattle.runs.specs.Figures.{Time, longer, later}
use Rattle.runs.proofs.Joins.{longer_joins}
use Rattle.image_bytes.specs.Bytes.{word_at}
use Rattle.nodes.specs.Nodes.{tree_at, child_trees}
use Rattle.image.specs.Walks.{Walkable, NamedChildren}
use Rattle.image.proofs.Walks.{all_more, any_more, valid_at}
use Rattle.nodes.proofs.Levels.{visits_step}
use Rattle.image.specs.declared.Walk.{Walk}
use Rattle.times.specs.Arrays.{table_of, Joined}
use Rattle.tight.specs.Steps.{size_of, table, Stepped, after, after_all, after_any, Roomy, Ready}
use Rattle.iterations.proofs.Exits.{joined_at}
use Rattle.tight.proofs.Rooms.{room_less, room_after}

module _ (s : List ℕ) (k : Walk) (places : List ℕ) (w : Walkable s k places) (node : ℕ) (low : node ≤ k.outline.entry)
    (p n : ℕ) (named : NamedChildren s p n node) (i : ℕ) (h : i < n) (child : ℕ) (is : child ≡ word_at s (p + 2 * i)) where
  -- the visits of the children from i on
  abbrev ahead : ℕ → ℕ
  ahead j = 65535 * visits_all (child_trees s (p + 2 * j) (n - j))

  pub child_low : child < node
  child_low = rw is (named.below i h)

  visits_split : ahead i ≡ 65535 * visits (tree_at s child) + ahead (i + 1)
  visits_split = rw is (let e = visits_step s p n i h in omega (arith, ap (λ (m : ℕ). 65535 * m) e))

  pub child_ready : (t : List ℕ) → size_of k ≤ length t → Roomy k (ahead i) (table k t) → Ready s k places child t
  child_ready t size r = record {
    walkable = w;
    low = omega (arith, child_low);
    size = size;
    room = room_less k _ (ahead i) _ (omega (arith, visits_split)) r;
  }

  -- an arm starts from a copy of the entry
  pub copied_ready : (t arm₀ arm : List ℕ) (m : ℕ) → m ≡ size_of k → size_of k ≤ length arm₀ → length arm ≡ length arm₀ → table_of m arm ≡ table_of m t
      → Roomy k (ahead i) (table k t) → Ready s k places child arm
  copied_ready t arm₀ arm m e size same copied r =
      let z : table k arm ≡ table k t = rw e at copied in
      child_ready arm (omega arith) (rw z r)

  pub copied_step : (x : Tree) (t arm₀ arm : List ℕ) (m : ℕ) → m ≡ size_of k → table_of m arm₀ ≡ table_of m t → Stepped k x arm₀ arm → Stepped k x t arm
  copied_step x t arm₀ arm m e copied h = h ∙ ap (after k x) (rw e at copied)

  pub rest_room : (t r : List ℕ) → Roomy k (ahead i) (table k t) → Stepped k (tree_at s child) t r
      → Roomy k (ahead (i + 1)) (table k r)
  rest_room t r room e =
      rw e
      (room_after s k places w (tree_at s child) (valid_at s k places w child (omega (arith, child_low))) (ahead (i + 1)) (table k t)
      (room_less k _ (ahead i) _ (omega (arith, visits_split)) room))

  pub rest_same_room : (t : List ℕ) → Roomy k (ahead i) (table k t) → Roomy k (ahead (i + 1)) (table k t)
  rest_same_room t room = room_less k _ (ahead i) _ (omega (arith, visits_split)) room

  -- a sequence goes on from what the child left
  pub next_in_order : (t r : List ℕ) → Stepped k (tree_at s child) t r
      → after_all k (child_trees s (p + 2 * (i + 1)) (n - (i + 1))) (table k r)
      ≡ after_all k (child_trees s (p + 2 * i) (n - i)) (table k t)
  next_in_order t r e =
      ap (λ (T : List Time). after_all k (child_trees s (p + 2 * (i + 1)) (n - (i + 1))) T)
      (rw is at e) ∙ sym (all_more _ _ none longer later s p n i h (table k t))

  -- a branch has one arm more joined
  pub next_arm : (t arm out both : List ℕ) → Stepped k (tree_at s child) t arm → Joined (size_of k) out arm both
      → (o : ℕ) → o < size_of k
      → longer (get_or (table k both) o none) (after_any k (child_trees s (p + 2 * (i + 1)) (n - (i + 1))) (table k t) o)
      ≡ longer (get_or (table k out) o none) (after_any k (child_trees s (p + 2 * i) (n - i)) (table k t) o)
  next_arm t arm out both e j o l =
      ap (λ (z : Time). longer z (after_any k (child_trees s (p + 2 * (i + 1)) (n - (i + 1))) (table k t) o))
      (joined_at (size_of k) out arm both j o l)
      ∙ longer_joins.assoc _ _ _
      ∙ ap (longer (get_or (table k out) o none))
      (ap (λ (T : List Time). longer (get_or T o none) (after_any k (child_trees s (p + 2 * (i + 1)) (n - (i + 1))) (table k t) o)) (rw is at e)
      ∙ sym (any_more _ _ none longer later s p n i h (table k t) o))
