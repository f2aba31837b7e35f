use mathlib.Core.Path.{◌≡◌, sym, ◌∙◌, ap}
use mathlib.Core.Bool.{Bool, true, false}
use mathlib.Core.List.{List, ◌∷◌}
use Prim.Native.Nat.{ℕ, ◌+◌, ◌-◌, ◌*◌, ◌/◌, ◌≤◌, ◌<◌}
use native.Mathlib.Nat.{sub-zero}
use native.Mathlib.Omega.{arith}
use Rattle.runs.specs.Schedules.{Turn}
use Rattle.image_bytes.specs.Bytes.{byte_at}
use Rattle.schedule.specs.Said.{within, turns_at, schedule_of}
use Rattle.schedule.proofs.Pairs.{turns_step, turns_none, goes_on, goes_first, goes_last, core_above, length_wrong, sum_above, goes_found, goes_other}
use Rattle.schedule.proofs.schedule_ok.Goals as goal
use Rattle.schedule.proofs.schedule_ok.Goals.{then-owner-core, else-owner-core}
use Rattle.schedule.proofs.schedule_ok.Invariants.{from}

abbrev pair : List ℕ → ℕ → ℕ → Turn
pair s body i = record { core = byte_at s (body + 1 + 2 * i); length = byte_at s (body + 1 + 2 * i + 1) }

abbrev after : List ℕ → ℕ → ℕ → ℕ → List Turn
after s body len i = turns_at s (body + 1 + 2 * (i + 1)) (len / 2 - (i + 1))

-- what pair i and the rest say
at_pair : (s : List ℕ) (body len core : ℕ) (found : Bool) (sum i : ℕ) (v w : Bool) → i < len / 2 → from s body len core found sum i ≡ v
    → goes_on core found sum (pair s body i ∷ after s body len i) ≡ w → w ≡ v
at_pair s body len core found sum i v w l h e = sym (ap (goes_on core found sum) (turns_step s (body + 1) (len / 2) i l) ∙ e) ∙ h

pub loop-i-init : goal.loop-i-init
loop-i-init c =
    let a = c.args in
    let z : a.body + 1 + 2 * 0 ≡ a.body + 1 = omega arith in
    (omega arith, rw (z, sub-zero (a.len / 2), c.byte-core.ensures.0) (goes_first (schedule_of a.image.now a.body a.len)))

pub returns-then-not-between : goal.returns-then-not-between
returns-then-not-between c =
    let l = c.loop-i in
    let a = c.args in
    at_pair a.image.now a.body a.len _ _ _ l.i _ false (omega arith) l.invariant.1
    (length_wrong _ _ _ _ _ (omega (arith, c.byte-owner.ensures.0))
    (rw (sym c.byte-slot.ensures.0) (sym c.between.ensures ∙ c.if-not-between.true)))

pub loop-i-preserved : goal.loop-i-preserved
loop-i-preserved c =
    let l = c.loop-i in
    let a = c.args in
    let e = c.byte-owner.ensures.0 in
    let f = c.byte-slot.ensures.0 in
    let low : byte_at a.image.now (a.body + 1 + 2 * l.i) ≤ 15 = omega (arith, e) in
    let good : within 1 128 (byte_at a.image.now (a.body + 1 + 2 * l.i + 1)) ≡ true = rw (sym f) (sym c.between.ensures ∙ c.if-not-between.false) in (
      omega arith,
      elim c.if-owner-core.branch [
        | then-owner-core w ↦ rw (w.found-is, f) (at_pair a.image.now a.body a.len _ _ _ l.i _ _ (omega arith) l.invariant.1 (goes_found _ _ _ _ _ low good (sym e ∙ w.if-owner-core.true)))
        | else-owner-core w ↦ rw (w.found-is, f) (at_pair a.image.now a.body a.len _ _ _ l.i _ _ (omega arith) l.invariant.1 (goes_other _ _ _ _ _ low good (λ q. w.if-owner-core.false (e ∙ q))))
      ],
    )

pub returns : goal.returns
returns c =
    let l = c.loop-i in
    let a = c.args in
    sym (ap (goes_on _ l.found l.sum) (turns_none a.image.now (a.body + 1) (a.len / 2) l.i (omega arith)) ∙ goes_last _ l.found l.sum l.invariant.0) ∙ l.invariant.1

pub returns-then-owner-gt15 : goal.returns-then-owner-gt15
returns-then-owner-gt15 c =
    let l = c.loop-i in
    let a = c.args in
    at_pair a.image.now a.body a.len _ _ _ l.i _ false (omega arith) l.invariant.1
    (core_above _ _ _ _ _ (omega (arith, c.byte-owner.ensures.0)))

pub returns-then-sum-gt256 : goal.returns-then-sum-gt256
returns-then-sum-gt256 c =
    let l = c.loop-i in
    let a = c.args in
    at_pair a.image.now a.body a.len _ _ _ l.i _ false (omega arith) l.invariant.1
    (sum_above _ _ _ _ _ (omega (arith, c.byte-slot.ensures.0)))
