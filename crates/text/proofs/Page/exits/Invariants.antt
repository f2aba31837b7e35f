use Rattle.std.proofs.Common.{◌+◌, ◌*◌, ◌≤◌}
use Rattle.text.specs.Text.{exit_lines}
use Rattle.text.specs.Pages.{Puts}
use Rattle.text.proofs.Page.exits.Given as goal

-- Before each turn the lines of the offsets below o are put, and take at most 25 bytes each.
abbrev pub invariant-loop-o : goal.invariant-loop-o
invariant-loop-o l = record {
  short : l.self.at ≤ l.initial.self.at + 25 * l.o;
  put : Puts l.initial.self l.self (exit_lines l.o l.table);
}
