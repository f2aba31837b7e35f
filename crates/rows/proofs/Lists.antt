-- The start offsets of row 2 and the child numbers of rows 5 to 7, one by one: what their tests say of each.
use mathlib.Core.Path.{◌≡◌, refl}
use mathlib.Core.Bool.{true, ◌&&◌}
use mathlib.Core.List.{List}
use Prim.Native.Nat.{ℕ, zero, suc, ◌+◌, ◌-◌, ◌*◌, ◌≤◌, ◌<◌}
use native.Mathlib.Nat.{add-zero, not-suc-le-zero}
use native.Mathlib.Omega.{arith}
use lib.Dec.{ltb, leb}
use borrow.Author.Tests.{ltb-true, leb-true, lt-ltb, le-leb}
use Rattle.image_bytes.specs.Bytes.{byte_at, word_at}
use Rattle.rows.specs.Tests.{starts_ok, below}
use Rattle.rows.specs.Rules.{Starts, NamesBelow}
use Rattle.schedule.proofs.Numbers.{both}

-- rule 6 says of each child number that it is below the node's own, which has `index` fields before it
pub names_below : (s : List ℕ) (p n index : ℕ) → below s p n index ≡ true → NamesBelow s p n (index - 2)
unfolding below
names_below s p zero index h i l = absurd (not-suc-le-zero l)
names_below s p (suc n) index h zero l =
    let r = both (ltb (word_at s p + 2) index) (below s (p + 2) n index) h in
    let z : p + 2 * 0 ≡ p = omega arith in
    rw z (omega (arith, ltb-true (word_at s p + 2) index r.0))
names_below s p (suc n) index h (suc i) l =
    let r = both (ltb (word_at s p + 2) index) (below s (p + 2) n index) h in
    let e : p + 2 * suc i ≡ p + 2 + 2 * i = omega arith in
    rw e (names_below s (p + 2) n index r.1 i (omega arith))

pub below_names : (s : List ℕ) (p n index : ℕ) → NamesBelow s p n (index - 2) → below s p n index ≡ true
unfolding below
below_names s p zero index h = refl
below_names s p (suc n) index h =
    let z : p + 2 * 0 ≡ p = omega arith in
    let l : word_at s p < index - 2 = rw z at (h 0 (omega arith)) in
    simp (
      lt-ltb (word_at s p + 2) index (omega arith),
      below_names s (p + 2) n index (λ i m. let e : p + 2 * suc i ≡ p + 2 + 2 * i = omega arith in rw e at (h (suc i) (omega arith))),
    )

-- the rule of row 2: each start is below the period, and they ascend strictly
module _ (s : List ℕ) (period : ℕ) where
  first : (p n least : ℕ) → starts_ok s p (suc n) least period ≡ true
      → (least ≤ byte_at s p) × (byte_at s p < period) × (starts_ok s (p + 1) n (byte_at s p + 1) period ≡ true)
  unfolding starts_ok
  first p n least e =
      let a = both (leb least (byte_at s p)) (ltb (byte_at s p) period && starts_ok s (p + 1) n (byte_at s p + 1) period) e in
      let b = both (ltb (byte_at s p) period) (starts_ok s (p + 1) n (byte_at s p + 1) period) a.1 in
      (leb-true _ _ a.0, ltb-true _ _ b.0, b.1)

  start_range : (p n least i : ℕ) → starts_ok s p n least period ≡ true → i < n → (least ≤ byte_at s (p + i)) × (byte_at s (p + i) < period)
  start_range p zero least i e h = absurd (not-suc-le-zero h)
  start_range p (suc n) least zero e h = let f = first p n least e in rw (add-zero p) (f.0, f.1)
  start_range p (suc n) least (suc i) e h =
      let f = first p n least e in
      let q : p + 1 + i ≡ p + suc i = omega arith in
      let r = rw q at (start_range (p + 1) n (byte_at s p + 1) i f.2 (omega arith)) in
      (omega (arith, r.0, f.0), r.1)

  starts_ascend : (p n least i j : ℕ) → starts_ok s p n least period ≡ true → i < j → j < n → byte_at s (p + i) < byte_at s (p + j)
  starts_ascend p zero least i j e l h = absurd (not-suc-le-zero h)
  starts_ascend p (suc n) least i zero e l h = absurd (not-suc-le-zero l)
  starts_ascend p (suc n) least zero (suc j) e l h =
      let f = first p n least e in
      let q : p + 1 + j ≡ p + suc j = omega arith in
      let r = rw q at (start_range (p + 1) n (byte_at s p + 1) j f.2 (omega arith)) in
      rw (add-zero p) (omega (arith, r.0))
  starts_ascend p (suc n) least (suc i) (suc j) e l h =
      let f = first p n least e in
      let q : p + 1 + i ≡ p + suc i = omega arith in
      let w : p + 1 + j ≡ p + suc j = omega arith in
      rw (q, w) at (starts_ascend (p + 1) n (byte_at s p + 1) i j f.2 (omega arith) (omega arith))

  pub starts_kept : (p n least : ℕ) → starts_ok s p n least period ≡ true → Starts s p n period
  starts_kept p n least e = record { low = λ i l. (start_range p n least i e l).1; ascend = λ i j l m. starts_ascend p n least i j e l m }

  pub kept_starts : (p n least : ℕ) → Starts s p n period → (1 ≤ n → least ≤ byte_at s p) → starts_ok s p n least period ≡ true
  unfolding starts_ok
  kept_starts p zero least h l = refl
  kept_starts p (suc n) least h l =
      let low : byte_at s p < period = rw (add-zero p) at (h.low 0 (omega arith)) in
      simp (
        le-leb least (byte_at s p) (l (omega arith)),
        lt-ltb (byte_at s p) period low,
        kept_starts (p + 1) n (byte_at s p + 1)
            (record {
              low = λ i m. let q : p + suc i ≡ p + 1 + i = omega arith in rw q at (h.low (suc i) (omega arith));
              ascend = λ i j m k.
                  let q : p + suc i ≡ p + 1 + i = omega arith in
                  let r : p + suc j ≡ p + 1 + j = omega arith in
                  rw (q, r) at (h.ascend (suc i) (suc j) (omega arith) (omega arith));
            })
            (λ m. omega (arith, rw (add-zero p) at (h.ascend 0 1 (omega arith) (omega arith)))),
      )
