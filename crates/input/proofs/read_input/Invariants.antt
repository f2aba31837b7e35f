use Rattle.std.proofs.Common.{◌≡◌, ◌≤◌, ◌-◌, length, take}
use Rattle.std.specs.Io.KnownBytes.{Consumes}
use Rattle.input.proofs.read_input.Given as goal

-- So far `done` bytes are read, no more than the buffer has, and they are the reader's first. The measure is the room that is left: an input
-- of which more may come has grown.
abbrev pub invariant-loop-n : goal.invariant-loop-n
invariant-loop-n g l = record {
  room : l.done ≤ length l.buffer;
  same_length : length l.buffer ≡ length l.initial.buffer;
  bytes : Consumes (g.R.Read.remaining l.initial.reader) (g.R.Read.remaining l.reader) (take l.done l.buffer);
}

abbrev pub decreases-loop-n : goal.decreases-loop-n
decreases-loop-n g l = length l.buffer - l.done
