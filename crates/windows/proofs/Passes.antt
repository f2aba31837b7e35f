-- A plain block's step by windows: the largest key of a window is that of the longest time which ends where the window ends. No entry that
-- ends there is longer (`above`), and the time is reached (`found`); there is only one longest.
use mathlib.Core.Path.{◌≡◌, refl, sym, ◌∙◌, ap, subst}
use mathlib.Core.Logic.{inl, inr}
use mathlib.Core.Option.{none, some}
use mathlib.Core.List.{List}
use lib.ListN.{get_or}
use borrow.Author.Tests.{eqb-true, eq-eqb, ne_eqb}
use native.Mathlib.Omega.{arith}
use native.Mathlib.Decide.{ℕ_discrete}
use native.Mathlib.Nat.{mod-lt, mod-eq_of_lt, mod-add-mod}
use Prim.Native.Nat.{ℕ, suc, ◌+◌, ◌-◌, ◌%◌, ◌≤◌, ◌<◌}
use Rattle.runs.specs.Exact.{Longest, nothing, reached}
use Rattle.runs.proofs.Joins.{row_same}
use Rattle.runs.proofs.TimesExact.{longest_one, longest_same, times_mean}
use Rattle.times.specs.Arrays.{no_time, time_of, table_of, Fits, LaterOf}
use Rattle.windows.specs.Windows.{Passed, top, Windowed, key_of, Keyed, time_at, start, Unkeyed, Room}
use Rattle.times.proofs.Tables.{time_none, time_some, time_inv, table_of_at}
use Rattle.times.proofs.Ends.{Ends, self, moved_ends}
use Rattle.windows.proofs.Tops.{top_has, top_is}
use Rattle.windows.proofs.Round.{back_and_there, cancel}

pub key_some : (t m : ℕ) → ¬ (t ≡ no_time) → key_of t m ≡ t + (384 - m)
unfolding key_of
key_some t m h = rw (ne_eqb t no_time h)

pub key_none : (t m : ℕ) → t ≡ no_time → key_of t m ≡ 0
unfolding key_of
key_none t m h = rw (eq-eqb t no_time h)

pub at_none : (x e : ℕ) → x ≡ 0 → time_at x e ≡ no_time
unfolding time_at
at_none x e h = rw (eq-eqb x 0 h)

pub at_some : (x e : ℕ) → ¬ (x ≡ 0) → time_at x e ≡ x + e - 384
unfolding time_at
at_some x e h = rw (ne_eqb x 0 h)

module _ (t k w : List ℕ) (P lo hi : ℕ) (pos : 1 ≤ P) (small : P ≤ 256) (order : lo ≤ hi) (near : hi ≤ lo + 127) (short : hi ≤ 65535) (fits : Fits P t)
    (keyed : Keyed t P (P + (hi - lo)) k) (windowed : Windowed k (P + (hi - lo)) (suc (hi - lo)) w) where
  module _ (j : ℕ) (in' : j < P) where
    -- the window at j begins at j and has a key for each duration
    is_top : get_or w j 0 ≡ top k j (suc (hi - lo))
    unfolding Windowed
    is_top = windowed j (omega arith)

    -- an entry that ends where the window ends is no longer than it says
    above : (o d c : ℕ) → o < P → lo ≤ d → d ≤ hi → (o + d) % P ≡ (j + hi) % P → get_or (table_of P t) o none ≡ some c
        → (1 ≤ get_or w j 0) × (c + d + 384 ≤ get_or w j 0 + (j + hi))
    unfolding Keyed
    above o d c l m n e g =
        let i = hi - d in
        let f : j + hi ≡ j + i + d = omega arith in
        let at : (j + i) % P ≡ o = cancel (j + i) o P d pos (sym (e ∙ ap (λ (x : ℕ). x % P) f)) ∙ mod-eq_of_lt l in
        let v = time_inv (get_or t o 0) c (sym (table_of_at P t o l) ∙ g) in
        let key : get_or k (j + i) 0 ≡ get_or t o 0 + (384 - (j + i)) =
        keyed (j + i) (omega arith) ∙ ap (λ (x : ℕ). key_of (get_or t x 0) (j + i)) at ∙ key_some _ _ v.1 in
        omega (arith, top_has k j (suc (hi - lo)) i (omega arith), is_top, key, v.0)

    -- and what it says is reached
    found : ¬ (get_or w j 0 ≡ 0) → (o : ℕ) × (d : ℕ) × (c : ℕ) × (o < P) × (lo ≤ d) × (d ≤ hi) × ((o + d) % P ≡ (j + hi) % P)
        × (get_or (table_of P t) o none ≡ some c) × (c ≤ 1152921504606846976) × (get_or w j 0 + (j + hi) ≡ c + d + 384)
    unfolding Keyed Fits
    found h =
        elim (top_is k j (suc (hi - lo))) [
          | inl e ↦ absurd (h (is_top ∙ e))
          | inr (i, m, e) ↦
              (let o = (j + i) % P in
              let l : o < P = mod-lt (j + i) pos in
              let key : get_or k (j + i) 0 ≡ key_of (get_or t o 0) (j + i) = keyed (j + i) (omega arith) in
              let some' : ¬ (get_or t o 0 ≡ no_time) = (λ z. h (is_top ∙ e ∙ key ∙ key_none _ (j + i) z)) in
              let key' = key ∙ key_some (get_or t o 0) (j + i) some' in
              let f : j + i + (hi - i) ≡ j + hi = omega arith in (
                o,
                hi - i,
                get_or t o 0,
                l,
                omega arith,
                omega arith,
                mod-add-mod (j + i) P (hi - i) ∙ ap (λ (x : ℕ). x % P) f,
                table_of_at P t o l ∙ time_some _ some',
                fits o l some',
                omega (arith, key', is_top, e),
              ))
        ]

  pub room : Room w P hi
  unfolding Room
  room j l =
      elim (ℕ_discrete (get_or w j 0) 0) [
        | yes e ↦ inl e
        | no n ↦ (let (o, d, c, l1, m, n1, f, g, le, v) = found j l n in inr (omega arith, omega arith))
      ]

  longest : (q : ℕ) → q < P → (r : ℕ) → r ≡ time_at (get_or w (start P hi q) 0) (start P hi q + hi)
      → Longest (Ends P lo hi (λ d o. d) (table_of P t) q) (time_of r)
  longest q l r e =
      let j = start P hi q in
      let in' : j < P = mod-lt (q + (P - hi % P)) pos in
      let to : (j + hi) % P ≡ q = back_and_there q P hi l in
      elim (ℕ_discrete (get_or w j 0) 0) [
        | yes z ↦ rw (time_none r (e ∙ at_none _ _ z))
            (nothing (λ c' (o, l, (d, m, n, (f, (c, g, h)))). omega (arith, above j in' o d c l m n (eqb-true _ _ f ∙ sym to) g, z)))
        | no z ↦
            (let (o, d, c, l, m, n, f, g, b, v) = found j in' z in
            let is : r ≡ c + d = e ∙ at_some _ _ z ∙ omega arith in
            rw (is, time_some (c + d) (λ k. omega arith))
            (reached (o, l, (d, m, n, (eq-eqb _ _ (f ∙ to), (c, g, refl))))
            (λ c' (o, l, (d, m, n, (f, (c, g, h)))). omega (arith, above j in' o d c l m n (eqb-true _ _ f ∙ sym to) g))))
      ]

  -- The largest keys, made times again, are the step.
  pub passed : (r : List ℕ) → Unkeyed w P hi r → Passed t P lo hi r
  unfolding Passed Unkeyed table_of
  passed r h = row_same P _ _ (λ q l. longest_one (longest q l (get_or r q 0) (h q l)) (moved_ends P lo hi (λ d o. d) (table_of P t) q))

-- one duration: each place takes what stood that many cycles before it
pub one_passed : (t r : List ℕ) (P d : ℕ) → 1 ≤ P → ((q : ℕ) → q < P → LaterOf (get_or t (start P d q) 0) d (get_or r q 0)) → Passed t P d d r
unfolding Passed LaterOf table_of
one_passed t r P d pos h = row_same P (λ q. time_of (get_or r q 0)) _ (λ q l. longest_one (at q l) (moved_ends P d d (λ d o. d) (table_of P t) q))
  where
    at : (q : ℕ) → q < P → Longest (Ends P d d (λ d o. d) (table_of P t) q) (time_of (get_or r q 0))
    at q l =
        let j = start P d q in
        let in' : j < P = mod-lt (q + (P - d % P)) pos in
        let to : (j + d) % P ≡ q = back_and_there q P d l in
        rw (h q l)
        (longest_same _ _ _
        (λ c (c', g, e). (j, in', (d, omega arith, omega arith, (eq-eqb _ _ to, (c', table_of_at P t j in' ∙ g, e)))))
        (λ c (o, m, (d', a, b, (f, (c', g, e)))).
        let same : d' ≡ d = omega arith in
        let f' : (o + d) % P ≡ (j + d) % P = ap (λ (x : ℕ). (o + x) % P) (sym same) ∙ eqb-true _ _ f ∙ sym to in
        let is : o ≡ j = sym (mod-eq_of_lt m) ∙ cancel o j P d pos f' ∙ mod-eq_of_lt in' in
        (c', sym (table_of_at P t j in') ∙ subst (λ (x : ℕ). get_or (table_of P t) x none ≡ some c') is g, omega arith))
        (times_mean.is_later _ d _ (self (time_of (get_or t j 0)))))
