-- The longest time with which an entry comes to an offset, from so many offsets before it.
use mathlib.Core.Path.{◌≡◌, refl, sym, ◌∙◌, ap}
use mathlib.Core.Logic.{◌⊎◌, inl, inr}
use mathlib.Core.Option.{none, some}
use mathlib.Core.List.{List}
use lib.ListN.{get_or}
use native.Mathlib.Omega.{arith}
use native.Mathlib.Nat.{mod-lt, mod-eq_of_lt, add-mod_right, mod-add-mod}
use Prim.Native.Nat.{ℕ, ◌+◌, ◌-◌, ◌%◌, ◌≤◌, ◌<◌, max}
use Rattle.runs.specs.Figures.{Time, later}
use Rattle.runs.proofs.Cases.{split}
use Rattle.runs.proofs.TimesExact.{longest_same, longest_some, times_mean}
use Rattle.times.specs.Arrays.{no_time, time_of, table_of, Fits, LongerOf}
use Rattle.times.proofs.Tables.{time_some, time_inv, table_of_at}
use Rattle.times.proofs.Ends.{self}
use Rattle.waiting.specs.Waiting.{Reach, Comes, Come, Later, kept_time, ComeLater}
use Rattle.waiting.proofs.Keeping.{kept_max}

module _ (P y n : ℕ) (low : y < P) where
  -- i cycles before y, within the period and round it
  near : (i : ℕ) → i ≤ y → (y + P - i) % P ≡ y - i
  near i l = ap (λ (k : ℕ). k % P) (let z : y + P - i ≡ (y - i) + P = omega arith in z) ∙ add-mod_right (y - i) P ∙ mod-eq_of_lt (omega arith)

  far : (i : ℕ) → y < i → (y + P - i) % P ≡ y + P - i
  far i l = mod-eq_of_lt (omega arith)

  -- an entry at o, and where it stands counted back
  back_near : (T : List Time) (o c : ℕ) → o ≤ y → get_or T o none ≡ some c → get_or T ((y + P - (y - o)) % P) none ≡ some c
  back_near T o c l g = let z : y - (y - o) ≡ o = omega arith in ap (λ (k : ℕ). get_or T k none) (near (y - o) (omega arith) ∙ z) ∙ g

  back_far : (T : List Time) (o c : ℕ) → y < P + y - o → o ≤ P + y → get_or T o none ≡ some c → get_or T ((y + P - (P + y - o)) % P) none ≡ some c
  back_far T o c l m g = let z : y + P - (P + y - o) ≡ o = omega arith in ap (λ (k : ℕ). get_or T k none) (far (P + y - o) l ∙ z) ∙ g

  pub come_near : (t : List ℕ) (r : ℕ) → n ≤ y → Reach P t (y - n) (y + 1) y r → Come P t y n r
  come_near t r l h =
      longest_same _ _ _
      (λ c (o, i, j, (c₀, g, x)). (y - o, omega arith, (c₀, back_near (table_of P t) o c₀ (omega arith) g, x)))
      (λ c (i, j, (c₀, g, x)). let z : y - (y - i) ≡ i = omega arith in (y - i, omega arith, omega arith, (c₀, ap (λ (k : ℕ). get_or (table_of P t) k none) (sym (near i (omega arith))) ∙ g, omega arith)))
      h

  pub come_far : (t : List ℕ) (x z r : ℕ) → y < n → n ≤ P → Reach P t 0 (y + 1) y x → Reach P t (P + y - n) P (P + y) z → LongerOf x z r → Come P t y n r
  unfolding LongerOf
  come_far t x z r l m h k f =
      rw f
      (longest_same _ _ _
      (λ c. elim [
        | inl (o, i, j, (c₀, g, u)) ↦ (y - o, omega arith, (c₀, back_near (table_of P t) o c₀ (omega arith) g, u))
        | inr (o, i, j, (c₀, g, u)) ↦ (P + y - o, omega arith, (c₀, back_far (table_of P t) o c₀ (omega arith) (omega arith) g, u))
      ])
      (λ c (i, j, (c₀, g, u)).
      split i y
      (λ a. inl (y - i, omega arith, omega arith, (c₀, ap (λ (k : ℕ). get_or (table_of P t) k none) (sym (near i a)) ∙ g, omega arith)))
      (λ a. inr (y + P - i, omega arith, omega arith, (c₀, ap (λ (k : ℕ). get_or (table_of P t) k none) (sym (far i a)) ∙ g, omega arith))))
      (times_mean.is_join _ _ _ _ h k))

-- one offset further back
pub back_one : (P y w at at' : ℕ) → w + 1 ≤ P → at ≡ (y + P - w) % P → at' ≡ (at + P - 1) % P → at' ≡ (y + P - (w + 1)) % P
back_one P y w at at' l e f =
    let a : at + P - 1 ≡ at + (P - 1) = omega arith in
    let b : y + P - w + (P - 1) ≡ (y + P - (w + 1)) + P = omega arith in
    f ∙ ap (λ (k : ℕ). k % P) a ∙ ap (λ (k : ℕ). (k + (P - 1)) % P) e ∙ mod-add-mod (y + P - w) P (P - 1) ∙ ap (λ (k : ℕ). k % P) b ∙ add-mod_right (y + P - (w + 1)) P

pub come_more : (P : ℕ) (t : List ℕ) (y w w' rest at d v best best' : ℕ) → 0 < P → w' ≡ w + 1 → at ≡ (y + P - w') % P → d ≡ w' + rest → kept_time v ≡ later d (time_of (get_or t at 0))
    → best' ≡ max best v → ComeLater P t y w rest best → ComeLater P t y w' rest best'
come_more P t y w w' rest at d v best best' pos ew ea ed k f h =
    let lt : at < P = omega (arith, ea, mod-lt (y + P - w') pos) in
    rw (kept_max best v best' f, k)
    (longest_same (λ n. Later rest (Comes P (table_of P t) y w) n ⊎ ((c : ℕ) × (time_of (get_or t at 0) ≡ some c) × (n ≡ c + d))) _ _
    (λ c. elim [
      | inl (m, (i, l, x), z) ↦ (m, (i, omega arith, x), z)
      | inr (c₀, g, x) ↦ (c₀ + w', (w', omega arith, (c₀, ap (λ (j : ℕ). get_or (table_of P t) j none) (sym ea) ∙ table_of_at P t at lt ∙ g, refl)), omega arith)
    ])
    (λ c (m, (i, l, (c₀, g, x)), z).
    split i w
    (λ n. inl (m, (i, n, (c₀, g, x)), z))
    (λ n. let is : i ≡ w' = omega arith in
    inr (c₀, sym (table_of_at P t at lt) ∙ ap (λ (j : ℕ). get_or (table_of P t) j none) (ea ∙ ap (λ (i : ℕ). (y + P - i) % P) (sym is)) ∙ g, omega arith)))
    (times_mean.is_join _ _ _ _ h (times_mean.is_later _ d _ (self (time_of (get_or t at 0))))))

-- what has come, some cycles later
pub come_later : (P : ℕ) (t : List ℕ) (y w rest r v : ℕ) → Come P t y w r → kept_time v ≡ later rest (time_of r) → ComeLater P t y w rest v
come_later P t y w rest r v h k = rw k (times_mean.is_later _ rest _ h)

-- the times that come are far below 2^64
pub entry_small : (P : ℕ) (t : List ℕ) (o i c₀ r : ℕ) → Fits P t → 0 < P → get_or (table_of P t) (o % P) none ≡ some c₀ → r ≡ c₀ + i → r ≤ 1152921504606846976 + i
unfolding Fits
entry_small P t o i c₀ r fits pos g e =
    let lt : o % P < P = mod-lt o pos in
    let v = time_inv (get_or t (o % P) 0) c₀ (sym (table_of_at P t (o % P) lt) ∙ g) in
    omega (arith, fits (o % P) lt v.1, v.0)

pub come_small : (P : ℕ) (t : List ℕ) (y w r : ℕ) → Fits P t → 0 < P → Come P t y w r → ¬ (r ≡ no_time) → r ≤ 1152921504606846976 + w
come_small P t y w r fits pos h n =
    let ((i, l, (c₀, g, x)), u) = longest_some h r (time_some r n) in
    omega (arith, entry_small P t (y + P - i) i c₀ r fits pos g x, l)
