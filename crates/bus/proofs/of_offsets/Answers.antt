use mathlib.Core.Path.{refl}
use borrow.Author.Rules.{rules}
use Rattle.bus.proofs.OfOffsets.{begun_of, fit_whole, fit_either}
use Rattle.bus.proofs.of_offsets.Goals as goal

-- Every offset, several stretches or one: the bus of OfOffsets.
pub in_turn-stretches-requires : goal.in_turn-stretches-requires
in_turn-stretches-requires c =
    let begins = c.entered-s in
    begun_of c.requires.0 begins.result begins.ensures c.lowest-lowest.result c.lowest-lowest.ensures c.requires.1

pub returns-then-stretches-eq0 : goal.returns-then-stretches-eq0
returns-then-stretches-eq0 c =
    let begins = c.entered-s in
    let low = c.lowest-lowest in
    let list = c.in_turn-stretches in
    (fit_whole c.requires.0 begins.result begins.ensures low.result low.ensures list.result list.ensures c.if-stretches-eq0.true, refl, refl)

pub returns : goal.returns
returns c =
    let begins = c.entered-s in
    let low = c.lowest-lowest in
    let list = c.in_turn-stretches in
    let far = c.longest-longest in
    (fit_either c.requires.0 begins.result begins.ensures low.result low.ensures list.result list.ensures far.result far.ensures _ (search rules), refl, refl)
