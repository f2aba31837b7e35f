use mathlib.Core.Path.{sym, ◌∙◌}
use lib.ListN.{get_or}
use native.Mathlib.Omega.{arith}
use Prim.Native.Nat.{◌<◌}
use Rattle.image.proofs.Promises.{judged_sound}
use Rattle.edits.proofs.Finds.{Tagged, refused_found, none_found, other_found, range_found, at_found}
use Rattle.std.proofs.lemmas.Result.{err_from_is_err_and}
use Rattle.edits.proofs.find.Goals as goal
use Rattle.edits.proofs.find.Goals.{After-byte}

-- The verdict is the definition's, and the place beside it is the node's; each return is one law of Finds.
-- where the tag is read
tagged : (c : After-byte) →
    let a = c.args in
    let j = c.judge-j in
    Tagged a.image.now a.node c.in_ok-k.k (get_or j.result.places a.node 0) c.byte.result
tagged c =
    let a = c.args in
    let j = c.judge-j in
    let l : a.node < c.in_ok-k.k.nodes = omega arith in
    record { judged_so = sym j.ensures.is ∙ c.in_ok-k.was; exists = l; place = (judged_sound _ _ _ c.in_ok-k.k j.ensures c.in_ok-k.was).placed a.node l; read = c.byte.ensures.0 }

pub returns-in_err-k : goal.returns-in_err-k
returns-in_err-k c =
    let a = c.args in
    let p = err_from_is_err_and c.from_residual.result c.from_residual.ensures.1 in
    rw (p.1, p.2) (refused_found a.image.now a.node a.lowest a.highest c.in_err-k.field-0.0 (sym c.judge-j.ensures.is ∙ c.in_err-k.was))

pub returns-then-k-node : goal.returns-then-k-node
returns-then-k-node c =
    let a = c.args in
    none_found a.image.now a.node a.lowest a.highest c.in_ok-k.k (sym c.judge-j.ensures.is ∙ c.in_ok-k.was) (omega arith)

pub offset_bounds-places-node : goal.offset_bounds-places-node
offset_bounds-places-node c =
    omega (arith, (judged_sound _ _ _ c.in_ok-k.k c.judge-j.ensures c.in_ok-k.was).few)

pub bounds-places-node : goal.bounds-places-node
bounds-places-node c =
    omega (arith, (judged_sound _ _ _ c.in_ok-k.k c.judge-j.ensures c.in_ok-k.was).few)

pub returns-then-byte-ne3 : goal.returns-then-byte-ne3
returns-then-byte-ne3 c =
    let a = c.args in
    other_found a.image.now a.node a.lowest a.highest _ _ _ (tagged (goal.at.returns-then-byte-ne3 c).After-byte) (λ q. omega arith)

pub returns-then-not-plain_ok : goal.returns-then-not-plain_ok
returns-then-not-plain_ok c =
    let a = c.args in
    range_found a.image.now a.node a.lowest a.highest _ _ _ (tagged (goal.at.returns-then-not-plain_ok c).After-byte) (omega arith)
    (sym c.plain_ok.ensures ∙ c.if-not-plain_ok.true)

pub returns : goal.returns
returns c =
    let a = c.args in
    at_found a.image.now a.node a.lowest a.highest _ _ _ (tagged (goal.at.returns c).After-byte) (omega arith)
    (sym c.plain_ok.ensures ∙ c.if-not-plain_ok.false)
