use mathlib.Core.Path.{◌∙◌, ap}
use lib.Bits.{bit_and}
use Rattle.offsets.specs.Sets.{value}
use Rattle.bus.proofs.Aheads.{beginning}
use Rattle.bus.proofs.entered.Goals as goal

pub returns : goal.returns
returns c = beginning c.requires c.meet.result (c.meet.ensures ∙ ap (bit_and (value c.args.own)) c.turn.ensures)
