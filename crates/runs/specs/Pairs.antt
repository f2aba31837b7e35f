-- How much work the tight figure took (document 02, W6), beside the figures. Definitions only.
use Rattle.std.proofs.Math.Option.{none}
use Rattle.std.specs.Prelude.{List, ℕ, suc, ◌+◌, ◌-◌, ◌*◌}
use Rattle.runs.specs.Bus.{Bus}
use Rattle.runs.specs.Clock.{Places}
use Rattle.runs.specs.Nodes.{Kind, may, always, Tree, Trees, plain, bus, once, sequence, branch, loop, none as done, more}
use Rattle.runs.specs.Carried.{iterate, keep, carried}
use Rattle.runs.specs.Runs.{Task, places_of}
use Rattle.runs.specs.Figures.{Time, held, start_times, times, sum, reached, tree_of}

-- how many pairs a reached place and a duration count: "a may-access block counts two"
abbrev pub ways : Kind → ℕ
ways may = 2
ways always = 1

module _ (b : Bus) (q : Places) where
  -- "each reached entry offset", with W9 "each reached combination of offset and fetched lines": the places of T that hold a time
  abbrev pub entered : List Time → ℕ
  entered T = reached q.size T

  unfoldable mutual
    unfolding held sum iterate keep carried

    -- the pairs of a node, T being the table before it
    pub pairs : Tree → List Time → ℕ
    -- "A visit to a plain block counts one pair for each reached entry offset and duration; an always-access block likewise;"
    pairs (plain lo hi) T = entered T * (suc hi - lo)
    pairs (bus kind lo hi) T = ways kind * (entered T * (suc hi - lo))
    -- W9: "a hit as one duration", and a miss one for each
    pairs (once x lo hi hit) T = entered (keep none q.size (q.hits x) T) + entered (keep none q.size (q.misses x) T) * (suc hi - lo)
    -- "Other nodes count none, and all arms and iterations up to the greatest are visited"; of a loop its tests too
    pairs (sequence ts) T = pairs_all ts T
    pairs (branch ts) T = pairs_any ts T
    pairs (loop least greatest body test) T =
        pairs test T
        + sum greatest (λ i. let U : List Time = iterate (λ U. times b q test (times b q body U)) i (times b q test T) in pairs body U + pairs test (times b q body U))

    -- the children of a sequence: each is entered with what the one before left
    pub pairs_all : Trees → List Time → ℕ
    pairs_all done T = 0
    pairs_all (more t ts) T = pairs t T + pairs_all ts (times b q t T)

    -- the arms of a branch: each is entered with T
    pub pairs_any : Trees → List Time → ℕ
    pairs_any done T = 0
    pairs_any (more t ts) T = pairs t T + pairs_any ts T

-- of a task
abbrev pub pairs_of : Task → ℕ
pairs_of t = pairs t.bus (places_of t) (tree_of t) (start_times t.bus (places_of t) t.starts)
