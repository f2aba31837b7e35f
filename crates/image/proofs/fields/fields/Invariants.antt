use Rattle.image.proofs.Scans.{Here}
use Prim.Native.Nat.{◌-◌}
use lib.ListN.{length}
use Rattle.image.proofs.fields.fields.Given as goal

-- The invariant, `Here` of proofs/Scans.antt: every field passed is good, and every node's place is stored. What is left of the image falls.
abbrev pub invariant-loop-at : goal.invariant-loop-at
invariant-loop-at l = Here l.image l.places l.index l.at l.closed

abbrev pub decreases-loop-at : goal.decreases-loop-at
decreases-loop-at l = length l.image - l.at
