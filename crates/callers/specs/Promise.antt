-- What the five entries promise, over the lent state at entry and at exit and the answer. Definitions only.
use Rattle.std.specs.Prelude.{◌≡◌, ℕ}
use Rattle.arbiter.specs.declared.Call.{Call}
use Rattle.callers.specs.Callers.{after_by, answer_by}
use Rattle.callers.specs.Conditions.{RefusedBy}
use Rattle.device.specs.declared.Arbiter.{Arbiter}
use Rattle.arbiter.specs.Calls.{Reply, told, refused}

-- From every state, the answer and the state at exit are those of the caller's call. It is refused with a number if and only if the condition for
-- that holds, with place 0, and then the state is as it was.
pub record Answers (caller : ℕ) (c : Call) (entry exit : Arbiter) (reply : Reply) : Type 0 where
  pub answers : reply ≡ answer_by caller c entry
  pub leaves : exit ≡ after_by caller c entry
  pub because : (n place : ℕ) → told reply ≡ refused n place → RefusedBy caller entry c n × (place ≡ 0) × (exit ≡ entry)
  pub whenever : (n : ℕ) → RefusedBy caller entry c n → told reply ≡ refused n 0
