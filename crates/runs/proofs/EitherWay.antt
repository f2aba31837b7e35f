-- Two tasks that differ in the bus alone, and in that only in how it is written, have the same times, figures and exits (document 02, W5; of images
-- crates/answers/proofs/EitherWay.antt says it).
use mathlib.Core.Path.{◌≡◌, ap₂}
use mathlib.Core.List.{List}
use mathlib.Core.Option.{none}
use mathlib.Core.Bool.{cond}
use lib.ListN.{get_or}
use Prim.Native.Nat.{ℕ}
use Rattle.runs.specs.Bus.{Bus, SameBus}
use Rattle.runs.specs.Clock.{with_lines}
use Rattle.runs.specs.Runs.{Task}
use Rattle.runs.specs.Figures.{Time, longest_of, sum, held, tree_of, end_times, at_offsets, exit_times, exit_count, tight, published, exit_set}
use Rattle.runs.specs.Exact.{ValidTask}
use Rattle.runs.proofs.Whole.{whole_valid}
use Rattle.runs.proofs.SameBuses.{times_same, published_same, set_same}

-- the same starts, lines, nodes and entry on another bus
abbrev pub on_bus : Bus → Task → Task
on_bus b t = record { bus = b; starts = t.starts; lines = t.lines; node_at = t.node_at; entry = t.entry }

pub record SameAnswers (t t' : Task) : Type 0 where
  pub periods : t.bus.period ≡ t'.bus.period
  pub table : exit_times t ≡ exit_times t'
  pub tights : tight t ≡ tight t'
  pub costs : published t ≡ published t'
  pub counts : exit_count t ≡ exit_count t'
  pub sets : exit_set t ≡ exit_set t'

pub same_answers : (t : Task) (b : Bus) → ValidTask t → SameBus t.bus b → SameAnswers t (on_bus b t)
same_answers t b ok same =
    let ends : end_times t ≡ end_times (on_bus b t) = times_same t.bus b same (tree_of t) (whole_valid t ok) t.starts t.lines ok.lawful.period_pos in
    let table : exit_times t ≡ exit_times (on_bus b t) = ap₂ (λ (P : ℕ) (T : List Time). at_offsets (with_lines P t.lines) P T) same.period ends in
    record {
      periods = same.period;
      table = table;
      tights = ap₂ longest_of same.period table;
      costs = published_same t.bus b same (tree_of t) (whole_valid t ok) t.starts;
      counts = ap₂ (λ (P : ℕ) (T : List Time). sum P (λ o. cond (held (get_or T o none)) 1 0)) same.period table;
      sets = set_same t.bus b same (tree_of t) (whole_valid t ok) t.starts;
    }
