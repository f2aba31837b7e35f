-- How many places of a table hold a time. The highest bit of a place's number tells: what stands for none has it, and no time below 2^63 has.
use mathlib.Core.Path.{◌≡◌, refl, sym, ◌∙◌, ap}
use mathlib.Core.Option.{none, some}
use mathlib.Core.List.{List}
use mathlib.Core.Bool.{cond}
use lib.ListN.{get_or}
use native.Mathlib.Omega.{arith}
use native.Mathlib.Decide.{ℕ_discrete}
use Prim.Native.Nat.{ℕ, suc, ◌+◌, ◌/◌, ◌≤◌, ◌<◌, max}
use Rattle.runs.specs.Figures.{Time, longer, held, sum, reached}
use Rattle.runs.proofs.Joins.{sum_none, sum_has}
use Rattle.runs.proofs.Meanings.{row_at_lem}
use Rattle.times.specs.Arrays.{no_time, time_of, table_of, Fits, Low, Joined}
use Rattle.times.proofs.Tables.{time_none, time_some, time_inv, table_of_at}

-- times of at most 2^60 are low
pub fits_low : (P : ℕ) (t : List ℕ) → Fits P t → Low P t
unfolding Fits Low
fits_low P t h = λ o l n. omega (arith, h o l n)

-- 1 where there is a time, and else 0
abbrev pub one : Time → ℕ
one v = cond (held v) 1 0

-- a place's number has the highest bit, or is a time
pub top_bit : (x : ℕ) → (¬ (x ≡ no_time) → x < 9223372036854775808) → x / 9223372036854775808 + one (time_of x) ≡ 1
unfolding held
top_bit x h =
    elim (ℕ_discrete x no_time) [
      | yes e ↦ rw (time_none x e) (omega (arith, e))
      | no n ↦ rw (time_some x n) (omega (arith, h n))
    ]

pub bit_le : (n : ℕ) (t : List ℕ) → Low n t → (o : ℕ) → o < n → get_or t o 0 / 9223372036854775808 ≤ 1
unfolding Low
bit_le n t low o l = omega (arith, top_bit (get_or t o 0) (low o l))

pub reached_none : (T : List Time) → reached 0 T ≡ 0
unfolding sum
reached_none T = refl

-- one place more
pub reached_more : (n : ℕ) (t : List ℕ) (o w : ℕ) → o < n → Low n t → w + reached o (table_of n t) ≡ o
    → w + get_or t o 0 / 9223372036854775808 + reached (suc o) (table_of n t) ≡ suc o
unfolding Low sum
reached_more n t o w l low h =
    omega (arith, h, top_bit (get_or t o 0) (low o l), ap one (table_of_at n t o l))

-- ---- none, and some

pub nothing_reached : (n : ℕ) (T : List Time) → ((o : ℕ) → o < n → get_or T o none ≡ none) → reached n T ≡ 0
unfolding held
nothing_reached n T h = sum_none n (λ p. one (get_or T p none)) (λ o l. ap one (h o l))

pub unreached : (n : ℕ) (t : List ℕ) → reached n (table_of n t) ≡ 0 → (o : ℕ) → o < n → get_or t o 0 ≡ no_time
unfolding held
unreached n t h o l =
    elim (ℕ_discrete (get_or t o 0) no_time) [
      | yes e ↦ e
      | no ne ↦
          (let has : one (get_or (table_of n t) o none) ≡ 1 = ap one (table_of_at n t o l ∙ time_some _ ne) in
          absurd (omega (arith, sum_has n (λ p. one (get_or (table_of n t) p none)) o l, has, h)))
    ]

-- ---- what is low

pub low_times : (n : ℕ) (t : List ℕ) → ((o c : ℕ) → o < n → get_or (table_of n t) o none ≡ some c → c < 9223372036854775808) → Low n t
unfolding Low
low_times n t h = λ o l ne. h o (get_or t o 0) l (table_of_at n t o l ∙ time_some _ ne)

longer_below : (m : ℕ) (v w : Time) → ((c : ℕ) → v ≡ some c → c < m) → ((c : ℕ) → w ≡ some c → c < m) → (c : ℕ) → longer v w ≡ some c → c < m
unfolding longer
longer_below m none w f g c e = g c e
longer_below m (some t) none f g c e = f c e
longer_below m (some t) (some u) f g c e = let z : max t u ≡ c = cc in omega (arith, f t refl, g u refl)

times_low : (n : ℕ) (t : List ℕ) → Low n t → (o : ℕ) → o < n → (c : ℕ) → get_or (table_of n t) o none ≡ some c → c < 9223372036854775808
unfolding Low
times_low n t low o l c e = let v = time_inv (get_or t o 0) c (sym (table_of_at n t o l) ∙ e) in omega (arith, v.0, low o l v.1)

-- of two low tables the longer times are low
pub joined_low : (n : ℕ) (a b r : List ℕ) → Low n a → Low n b → Joined n a b r → Low n r
joined_low n a b r f g j =
    low_times n r (λ o c l e.
    longer_below _ (get_or (table_of n a) o none) (get_or (table_of n b) o none) (times_low n a f o l) (times_low n b g o l) c
    (sym (ap (λ (T : List Time). get_or T o none) j ∙ row_at_lem n _ o none l) ∙ e))
