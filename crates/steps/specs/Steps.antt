-- One block's step over a table of offsets: what it asks and promises. Definitions only.
use Rattle.std.specs.Prelude.{◌≡◌, List, length, ℕ, ◌+◌, ◌≤◌}
use Rattle.runs.specs.Clock.{offsets}
use Rattle.runs.specs.Nodes.{Tree}
use Rattle.runs.specs.Figures.{times}
use Rattle.bus.specs.declared.Bus.{Bus}
use Rattle.bus.specs.Owning.{Fit, bus_meant}
use Rattle.times.specs.Arrays.{table_of, Fits}

-- r's table is t's after the node
abbrev pub Stepped : Bus → Tree → List ℕ → List ℕ → Type 0
Stepped b tree t r = table_of b.period r ≡ times (bus_meant b) (offsets b.period) tree (table_of b.period t)

-- what a plain block's step asks (document 01 permits a difference of 63; the step has room for 127)
pub record PlainReady (b : Bus) (lo hi : ℕ) (t : List ℕ) : Type 0 where
  pub fit : Fit b
  pub order : lo ≤ hi
  pub near : hi ≤ lo + 127
  pub short : hi ≤ 65535
  pub fits : Fits b.period t
  pub long : b.period ≤ length t

-- what a bus block's step asks
pub record BusReady (b : Bus) (lo hi : ℕ) (t : List ℕ) : Type 0 where
  pub fit : Fit b
  pub least : 1 ≤ lo
  pub order : lo ≤ hi
  pub short : hi ≤ 255
  pub most : hi ≤ b.most
  pub fits : Fits b.period t
  pub long : b.period ≤ length t
