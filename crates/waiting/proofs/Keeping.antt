-- A time kept as one more, and none as 0: the longest is the largest.
use mathlib.Core.Path.{◌≡◌, refl, ◌∙◌, ap}
use mathlib.Core.Option.{none, some}
use native.Mathlib.Omega.{arith}
use Prim.Native.Nat.{ℕ, zero, suc, ◌+◌, ◌-◌, ◌<◌, max}
use Rattle.runs.specs.Figures.{longer, later}
use Rattle.times.specs.Arrays.{no_time, time_of}
use Rattle.times.proofs.Tables.{time_none, time_some}
use Rattle.waiting.specs.Waiting.{kept_time}

pub kept_none : kept_time 0 ≡ none
unfolding kept_time
kept_none = refl

pub kept_some : (v : ℕ) → 0 < v → kept_time v ≡ some (v - 1)
unfolding kept_time
kept_some zero l = absurd (omega arith)
kept_some (suc v) l = ap some (let z : v ≡ suc v - 1 = omega arith in z)

pub kept_inv : (v c : ℕ) → kept_time v ≡ some c → v ≡ c + 1
unfolding kept_time
kept_inv zero c e = absurd (let z : ◌≡◌ {A = ℕ} 0 1 = cc in omega arith)
kept_inv (suc v) c e = let z : v ≡ c = cc in omega arith

pub kept_max : (a b r : ℕ) → r ≡ max a b → kept_time r ≡ longer (kept_time a) (kept_time b)
unfolding kept_time longer
kept_max zero b r e = let z : r ≡ b = omega arith in rw z refl
kept_max (suc a) zero r e = let z : r ≡ suc a = omega arith in rw z refl
kept_max (suc a) (suc b) r e = let z : r ≡ suc (max a b) = omega arith in rw z refl

-- a time d cycles later
pub kept_later_none : (t d : ℕ) → t ≡ no_time → kept_time 0 ≡ later d (time_of t)
unfolding later
kept_later_none t d e = rw (time_none t e) kept_none

pub kept_later : (t d r : ℕ) → ¬ (t ≡ no_time) → r ≡ t + d + 1 → kept_time r ≡ later d (time_of t)
unfolding later
kept_later t d r n e = rw (time_some t n) (kept_some r (omega arith) ∙ ap some (let z : r - 1 ≡ t + d = omega arith in z))
