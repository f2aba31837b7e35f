-- A core that owns some offsets of a period is a lawful bus: the first number of cycles after which it owns e more is the wait.
use mathlib.Core.Path.{◌≡◌, refl, sym, ◌∙◌, ap, subst}
use mathlib.Core.Bool.{Bool, true, false, cond, ◌&&◌, ◌||◌, false≢true}
use native.Mathlib.Nat.{mod-eq_of_lt, mod-lt, add-mod_right, add-mod-mod, not-suc-le-zero, le_of_suc-le-suc}
use native.Mathlib.Omega.{arith}
use Prim.Native.Nat.{ℕ, zero, suc, ◌+◌, ◌-◌, ◌%◌, ◌≤◌, ◌<◌}
use Rattle.runs.specs.Bus.{Lawful, First}
use Rattle.runs.specs.Schedules.{every, any, owns_next, first_of, last_of, owning}
use Rattle.runs.proofs.Cases.{split}
use Rattle.runs.proofs.Waits.{first_more}

pub and_both : (s t : Bool) → (s && t) ≡ true → (s ≡ true) × (t ≡ true)
and_both true t h = (refl, h)
and_both false t h = absurd (false≢true h)

both_and : (s t : Bool) → s ≡ true → t ≡ true → (s && t) ≡ true
both_and true t h k = k
both_and false t h k = absurd (false≢true h)

or_either : (s t : Bool) {Z : Type 0} → (s || t) ≡ true → (s ≡ true → Z) → (t ≡ true → Z) → Z
or_either true t h f g = f refl
or_either false t h f g = g h

left_or : (s t : Bool) → s ≡ true → (s || t) ≡ true
left_or true t h = refl
left_or false t h = absurd (false≢true h)

right_or : (s t : Bool) → t ≡ true → (s || t) ≡ true
right_or true t h = refl
right_or false t h = h

pub every_at : (n : ℕ) (f : ℕ → Bool) → every n f ≡ true → (i : ℕ) → i < n → f i ≡ true
unfolding every
every_at zero f h i l = absurd (not-suc-le-zero l)
every_at (suc n) f h i l =
    let (a, c) = and_both (every n f) (f n) h in
    split n i (λ m. subst (λ (i : ℕ). f i ≡ true) (omega arith) c) (λ m. every_at n f a i m)

pub every_of : (n : ℕ) (f : ℕ → Bool) → ((i : ℕ) → i < n → f i ≡ true) → every n f ≡ true
unfolding every
every_of zero f h = refl
every_of (suc n) f h = both_and (every n f) (f n) (every_of n f (λ i l. h i (omega arith))) (h n (omega arith))

pub any_at : (n : ℕ) (f : ℕ → Bool) → any n f ≡ true → (i : ℕ) × (i < n) × (f i ≡ true)
unfolding any
any_at zero f h = absurd (false≢true h)
any_at (suc n) f h =
    or_either (any n f) (f n) h
    (λ a. let (i, l, e) = any_at n f a in (i, omega arith, e))
    (λ e. (n, omega arith, e))

pub any_of : (n : ℕ) (f : ℕ → Bool) (i : ℕ) → i < n → f i ≡ true → any n f ≡ true
unfolding any
any_of zero f i l e = absurd (not-suc-le-zero l)
any_of (suc n) f i l e =
    split n i
    (λ m. right_or (any n f) (f n) (subst (λ (j : ℕ). f j ≡ true) (omega arith) e))
    (λ m. left_or (any n f) (f n) (any_of n f i m e))

-- what last_of finds, unless it finds 0; nothing that holds lies beyond; and it is at most n
pub last_at : (n : ℕ) (f : ℕ → Bool) → 0 < last_of n f → f (last_of n f) ≡ true
unfolding last_of
last_at zero f h = absurd (not-suc-le-zero h)
last_at (suc n) f h = go (f (suc n)) refl (λ k. last_at n f k) h
  where
    go : (t : Bool) → f (suc n) ≡ t → (0 < last_of n f → f (last_of n f) ≡ true) → 0 < cond t (suc n) (last_of n f) → f (cond t (suc n) (last_of n f)) ≡ true
    go true e r l = e
    go false e r l = r l

pub last_le : (n : ℕ) (f : ℕ → Bool) → last_of n f ≤ n
unfolding last_of
last_le zero f = omega arith
last_le (suc n) f = go (f (suc n)) (last_le n f)
  where
    go : (t : Bool) → last_of n f ≤ n → cond t (suc n) (last_of n f) ≤ suc n
    go true h = omega arith
    go false h = omega arith

pub last_least : (n : ℕ) (f : ℕ → Bool) (e : ℕ) → e ≤ n → f e ≡ true → e ≤ last_of n f
unfolding last_of
last_least zero f e l h = l
last_least (suc n) f e l h =
    go (f (suc n)) refl (λ m. last_least n f e m h)
  where
    go : (t : Bool) → f (suc n) ≡ t → (e ≤ n → e ≤ last_of n f) → e ≤ cond t (suc n) (last_of n f)
    go true g r = l
    go false g r =
        split e n r
        (λ m. let z : e ≡ suc n = omega arith in absurd (false≢true (sym g ∙ subst (λ (x : ℕ). f x ≡ true) z h)))

first_step : (n : ℕ) (f : ℕ → Bool) (t : Bool) → f 0 ≡ t → (t ≡ false → First (λ i. f (suc i)) (first_of n (λ i. f (suc i))))
    → First f (cond t 0 (suc (first_of n (λ i. f (suc i)))))
first_step n f true z r = (z, λ i l. absurd (not-suc-le-zero l))
first_step n f false z r = first_more f _ z (r refl)

pub first_of_first : (n : ℕ) (f : ℕ → Bool) (w : ℕ) → w < n → f w ≡ true → First f (first_of n f)
unfolding first_of
first_of_first zero f w h e = absurd (not-suc-le-zero h)
first_of_first (suc n) f zero h e = first_step n f (f 0) refl (λ z. absurd (false≢true (sym z ∙ e)))
first_of_first (suc n) f (suc w) h e = first_step n f (f 0) refl (λ z. first_of_first n (λ i. f (suc i)) w (le_of_suc-le-suc h) e)

-- From o it is (o' + P - o) % P cycles to o'.
pub cycles_to : (P o o' : ℕ) → o < P → o' < P → (o + (o' + P - o) % P) % P ≡ o'
cycles_to P o o' h k =
    let z : o + (o' + P - o) ≡ o' + P = omega arith in
    rw (add-mod-mod, z, add-mod_right) (mod-eq_of_lt k)

module _ (P : ℕ) (own : ℕ → Bool) where
  pub next_at : (e o : ℕ) → owns_next P own e o ≡ true → (i : ℕ) → i < e → own ((o + i) % P) ≡ true
  unfolding owns_next
  next_at e o h = every_at e (λ i. own ((o + i) % P)) h

  pub next_of : (e o : ℕ) → ((i : ℕ) → i < e → own ((o + i) % P) ≡ true) → owns_next P own e o ≡ true
  unfolding owns_next
  next_of e o h = every_of e (λ i. own ((o + i) % P)) h

  -- A shorter access may start where a longer one may.
  pub next_fewer : (e d o : ℕ) → e ≤ d → owns_next P own d o ≡ true → owns_next P own e o ≡ true
  next_fewer e d o h k = next_of e o (λ i l. next_at d o k i (omega arith))

  -- A length that fits somewhere and is no longer than the period is permitted, and a permitted one fits somewhere.
  pub most_least : (e o : ℕ) → e ≤ P → o < P → owns_next P own e o ≡ true → e ≤ (owning P own).most
  unfolding owning
  most_least e o l m h = last_least P (λ e. any P (λ o. owns_next P own e o)) e l (any_of P (λ o. owns_next P own e o) o m h)

  pub most_fits : (e : ℕ) → 1 ≤ e → e ≤ (owning P own).most → (o : ℕ) × (o < P) × (owns_next P own e o ≡ true)
  unfolding owning
  most_fits e p l =
      let m : ℕ = last_of P (λ e. any P (λ o. owns_next P own e o)) in
      let (o, k, h) = any_at P (λ o. owns_next P own m o) (last_at P (λ e. any P (λ o. owns_next P own e o)) (omega arith)) in
      (o, k, next_fewer e m o l h)

  pub most_le : (owning P own).most ≤ P
  unfolding owning
  most_le = last_le P (λ e. any P (λ o. owns_next P own e o))

  -- Where an access may be as long as the period, the core owns every offset.
  pub most_whole : 0 < P → P ≤ (owning P own).most → (o : ℕ) → o < P → own o ≡ true
  most_whole pos h o l =
      let (o', k, t) = most_fits P pos h in
      sym (ap own (cycles_to P o' o k l)) ∙ next_at P o' t ((o + P - o') % P) (mod-lt _ pos)

  pub owning_lawful : 0 < P → Lawful (owning P own)
  unfolding owning
  owning_lawful pos = record {
    period_pos = pos;
    least = λ e o p le lt.
        let (o', l, k) = most_fits e p le in
        first_of_first P (λ w. owns_next P own e ((o + w) % P)) ((o' + P - o) % P)
        (mod-lt _ pos) (ap (owns_next P own e) (cycles_to P o o' lt l) ∙ k);
  }
