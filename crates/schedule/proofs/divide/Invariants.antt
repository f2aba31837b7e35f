use Rattle.offsets.specs.Sets.{value}
use Rattle.schedule.proofs.Dividing.{Sofar}
use Rattle.schedule.proofs.divide.Given as goal

-- The invariant is `Sofar` of proofs/Dividing.antt.
abbrev pub invariant-loop-i : goal.invariant-loop-i
invariant-loop-i l = Sofar l.image (value l.own) (value l.rest) l.at l.i
