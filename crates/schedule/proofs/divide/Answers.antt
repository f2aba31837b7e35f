use mathlib.Core.Path.{◌≡◌, ◌∙◌, ap}
use mathlib.Core.Bool.{not, cond}
use Prim.Native.Nat.{◌+◌, ◌*◌}
use native.Mathlib.Omega.{arith}
use lib.Bits.{bit_or}
use lib.Dec.{eqb}
use Rattle.offsets.specs.Sets.{value}
use Rattle.image_bytes.specs.Bytes.{byte_at}
use Rattle.schedule.proofs.Dividing.{cycles, sofar_next, divides}
use Rattle.schedule.proofs.divide.Goals as goal

pub loop-i-preserved : goal.loop-i-preserved
loop-i-preserved c =
    let l = c.loop-i in
    let core = c.byte-core.ensures.0 in
    let word = c.word-pairs.ensures.0 in
    let owner = c.byte-owner.ensures.0 in
    let slot = c.byte-slot.ensures.0 in
    let now : value c.up-cycles.result ≡ cycles l.at (byte_at c.args.image.now (4 + 2 * l.i + 1)) =
    c.up-cycles.ensures ∙ rw (c.below.ensures, slot) in
    let image = c.args.image.now in
    let this = eqb (byte_at image (4 + 2 * l.i)) (byte_at image 3) in
    let all = cycles l.at (byte_at image (4 + 2 * l.i + 1)) in
    let mine : value c.only_if.result ≡ cond this all 0 = c.only_if.ensures ∙ simp (now, owner, core) in
    let others : value c.only_if-in-loop-i.result ≡ cond (not this) all 0 = c.only_if-in-loop-i.ensures ∙ simp (now, owner, core) in
    sofar_next image c.requires _ _ l.at l.i l.invariant (omega (arith, word)) _ _ _
    (c.join-own.ensures ∙ ap (bit_or (value l.own)) mine)
    (c.join-rest.ensures ∙ ap (bit_or (value l.rest)) others)
    (omega (arith, slot))

pub returns : goal.returns
returns c =
    let l = c.loop-i in
    divides c.args.image.now c.requires _ l.i (omega (arith, c.word-pairs.ensures.0)) l.invariant
