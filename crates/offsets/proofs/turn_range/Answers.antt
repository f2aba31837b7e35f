use borrow.Author.Rules.{rules}
use Prim.Native.Nat.{◌^◌, ◌<◌}
use Rattle.offsets.specs.Sets.{value}
use Rattle.offsets.proofs.Doubling.{doubled_turns}
use Rattle.offsets.proofs.turn_range.Goals as goal

pub doubled-requires-clause-ready : goal.doubled-requires-clause-ready
doubled-requires-clause-ready c = λ k d a x.
    let a₀ = c.args in
    let lt : value a < 2 ^ a₀.p = (doubled_turns _ c.turn.result a₀.p a₀.lo (value a₀.s) c.requires.0 (λ a m d l y. search rules) c.turn.ensures k a x).0 in
    search rules

pub returns : goal.returns
returns c = (doubled_turns _ c.turn.result c.args.p c.args.lo (value c.args.s) c.requires.0 (λ a m d l y. search rules) c.turn.ensures _ _ c.doubled.ensures).1
