-- What a finish is worth: the equation that a reader expects, no task ends after its finish, and the finish is reached.
use mathlib.Core.Path.{◌≡◌, refl, ap, ap₂, subst}
use mathlib.Core.Logic.{◌⊎◌, inl, inr, ⊎_elim}
use mathlib.Core.Option.{Option, none, some}
use lib.Dec.{eqb}
use borrow.Author.Tests.{eqb-true, eqb-false, eq-eqb, ne_eqb}
use native.Mathlib.Nat.{not-suc-le-zero}
use native.Mathlib.Omega.{arith}
use Prim.Native.Nat.{ℕ, zero, suc, ◌+◌, ◌*◌, ◌≤◌, ◌<◌, max}
use Rattle.runs.specs.Figures.{largest}
use Rattle.runs.proofs.Cases.{split, either}
use Rattle.runs.proofs.Largest.{largest_has, largest_reached, largest_same}
use Rattle.graph.specs.Graph.{Graph, Permitted, last_on, or_zero, latest, in_order, finish, Awaits, waits_for, previous, AsSoon, InTime, OnTime}

-- ---- the last task on a core

module _ (g : Graph) (c : ℕ) where
  last_is : (n j : ℕ) → j < n → (g j).core ≡ c → ((k : ℕ) → j < k → k < n → (g k).core ≡ c → ⊥) → last_on g c n ≡ some j
  unfolding last_on
  last_is zero j l e nil = absurd (not-suc-le-zero l)
  last_is (suc n) j l e nil =
      split n j
      (λ h. let q : n ≡ j = omega arith in rw (q, eq-eqb (g j).core c e))
      (λ h. rw (ne_eqb (g n).core c (λ z. nil n h (omega arith) z)) (last_is n j h e (λ k a b z. nil k a (omega arith) z)))

  -- a last task there is below n and on the core, and no later one is
  record IsLast (n j : ℕ) : Type 0 where
    pub below : j < n
    pub on : (g j).core ≡ c
    pub none_later : (k : ℕ) → j < k → k < n → (g k).core ≡ c → ⊥

  last_on_lem : (n j : ℕ) → last_on g c n ≡ some j → IsLast n j
  unfolding last_on
  last_on_lem zero j e = absurd (let z : ◌≡◌ {A = ℕ} 0 1 = cc in omega arith)
  last_on_lem (suc n) j e =
      either (eqb (g n).core c)
      (λ t. let q : n ≡ j = some_same (rw t at e) in
      record { below = omega arith; on = subst (λ (x : ℕ). (g x).core ≡ c) q (eqb-true (g n).core c t); none_later = λ k a b z. absurd (omega arith) })
      (λ t. let r = last_on_lem n j (rw t at e) in
      record { below = omega (arith, r.below); on = r.on; none_later = λ k a b z. split n k (λ h. let q : k ≡ n = omega arith in eqb-false (g n).core c t (subst (λ (x : ℕ). (g x).core ≡ c) q z)) (λ h. r.none_later k a h z) })
    where
      some_same : {a b : ℕ} → some a ≡ some b → a ≡ b
      some_same e = cc

-- ---- the latest of those before

module _ (g : Graph) where
  -- each of those before counts
  pub awaited_latest : (f : ℕ → ℕ) (i j : ℕ) → Awaits g i j → f j ≤ latest g f i
  unfolding latest
  awaited_latest f i j (waits_for k l e) =
      let m = largest_has (g i).count (λ k. f ((g i).waits k)) k l in
      let q : f ((g i).waits k) ≡ f j = ap f e in
      omega arith
  awaited_latest f i j (previous l e nil) =
      let q : or_zero f (last_on g (g i).core i) ≡ f j = ap (or_zero f) (last_is g (g i).core i j l e nil) in
      omega arith

  -- it is 0, or that of one of them
  pub latest_reached : (f : ℕ → ℕ) (i : ℕ) → (latest g f i ≡ 0) ⊎ ((j : ℕ) × Awaits g i j × (latest g f i ≡ f j))
  unfolding latest
  latest_reached f i = go (last_on g (g i).core i) refl
    where
      W : ℕ
      W = largest (g i).count (λ k. f ((g i).waits k))

      waited : (b : ℕ) → b ≤ W → (max W b ≡ 0) ⊎ ((j : ℕ) × Awaits g i j × (max W b ≡ f j))
      waited b h =
          ⊎_elim (λ z. inl (omega arith)) (λ (k, l, e). inr ((g i).waits k, waits_for k l refl, omega arith))
          (largest_reached (g i).count (λ k. f ((g i).waits k)))

      go : (v : Option ℕ) → last_on g (g i).core i ≡ v → (max W (or_zero f v) ≡ 0) ⊎ ((j : ℕ) × Awaits g i j × (max W (or_zero f v) ≡ f j))
      go none e = waited 0 (omega arith)
      go (some j) e =
          let r = last_on_lem g (g i).core i j e in
          split (f j) W (λ h. waited (f j) h) (λ h. inr (j, previous r.below r.on r.none_later, omega arith))

module _ (g : Graph) (n : ℕ) (ok : (i : ℕ) → i < n → Permitted i (g i)) where
  pub awaited_earlier : (i j : ℕ) → i < n → Awaits g i j → j < i
  awaited_earlier i j l (waits_for k h e) = omega (arith, e, (ok i l).earlier k h)
  awaited_earlier i j l (previous h e nil) = h

  pub latest_same : (f h : ℕ → ℕ) (i : ℕ) → i < n → ((j : ℕ) → j < i → f j ≡ h j) → latest g f i ≡ latest g h i
  unfolding latest
  latest_same f h i l e =
      ap₂ max (largest_same (g i).count _ _ (λ k m. e ((g i).waits k) ((ok i l).earlier k m))) (go (last_on g (g i).core i) refl)
    where
      go : (v : Option ℕ) → last_on g (g i).core i ≡ v → or_zero f v ≡ or_zero h v
      go none q = refl
      go (some j) q = e j (last_on_lem g (g i).core i j q).below

  -- what is worked out in table order is what its rule says, where the rule asks only the latest of those before
  module _ (rule : ℕ → ℕ → ℕ) where
    abbrev F : (ℕ → ℕ) → ℕ → ℕ
    F f i = rule i (latest g f i)

    same : (k j i : ℕ) → i < k → i < j → i < n → in_order F k i ≡ in_order F j i
    unfolding in_order
    same zero j i h m l = absurd (not-suc-le-zero h)
    same (suc k) zero i h m l = absurd (not-suc-le-zero m)
    same (suc k) (suc j) i h m l =
        ap (rule i)
        (latest_same (λ x. in_order F k x) (λ x. in_order F j x) i l (λ x b. same k j x (omega arith) (omega arith) (omega arith)))

    pub in_order_is : (i : ℕ) → i < n → in_order F (suc i) i ≡ rule i (latest g (λ j. in_order F (suc j) j) i)
    unfolding in_order
    in_order_is i l =
        ap (rule i)
        (latest_same (λ x. in_order F i x) (λ x. in_order F (suc x) x) i l (λ x b. same i (suc x) x b (omega arith) (omega arith)))

  -- "A task's finish is its time plus the largest finish among those it waits for and the previous task on its core, or 0."
  pub finish_is : (i : ℕ) → i < n → finish g i ≡ (g i).time + latest g (λ j. finish g j) i
  unfolding finish
  finish_is i l = in_order_is (λ i x. (g i).time + x) i l

  -- no sum wraps: a finish is at most 6,553,500,000 for each task up to it
  pub finish_most : (i : ℕ) → i < n → finish g i ≤ 6553500000 * (i + 1)
  finish_most i l = go (suc i) i (omega arith) l
    where
      go : (k i : ℕ) → i < k → i < n → finish g i ≤ 6553500000 * (i + 1)
      go zero i h l = absurd (not-suc-le-zero h)
      go (suc k) i h l =
          let t = (ok i l).time_most in
          let e = finish_is i l in
          ⊎_elim (λ z. omega arith) (λ (j, b, q). let m = awaited_earlier i j l b in let r = go k j (omega arith) (omega arith) in omega arith)
          (latest_reached g (λ j. finish g j) i)

  module _ (start end : ℕ → ℕ) (h : InTime g n start end) where
    -- a task starts by its finish less its time, since those it awaits end by theirs
    pub starts_by : (i : ℕ) → i < n → start i + (g i).time ≤ finish g i
    starts_by i l = go (suc i) i (omega arith) l
      where
        go : (k i : ℕ) → i < k → i < n → start i + (g i).time ≤ finish g i
        go zero i m l = absurd (not-suc-le-zero m)
        go (suc k) i m l =
            let e = finish_is i l in
            ⊎_elim (λ z. omega arith)
            (λ (j, b, q). let x = awaited_earlier i j l b in let r = go k j (omega arith) (omega arith) in let t = h.takes j (omega arith) in let s = awaited_latest g (λ j. finish g j) i j b in omega arith)
            (h.starts i l).at_once

    -- "If every task starts as soon as those have ended and takes no longer than its time, none ends after its finish."
    pub none_late : (i : ℕ) → i < n → end i ≤ finish g i
    none_late i l = omega (arith, starts_by i l, h.takes i l)

  -- where each takes exactly its time, each ends at its finish
  pub reached : (start end : ℕ → ℕ) → OnTime g n start end → (i : ℕ) → i < n → end i ≡ finish g i
  reached start end h i l = go (suc i) i (omega arith) l
    where
      go : (k i : ℕ) → i < k → i < n → end i ≡ finish g i
      go zero i m l = absurd (not-suc-le-zero m)
      go (suc k) i m l =
          let e = finish_is i l in
          let t = h.takes i l in
          let late = none_late start end (record { starts = h.starts; takes = λ i l. omega (arith, h.takes i l) }) i l in
          ⊎_elim (λ z. omega arith)
          (λ (j, b, q). let x = awaited_earlier i j l b in let r = go k j (omega arith) (omega arith) in let s = (h.starts i l).ended j b in omega arith)
          (latest_reached g (λ j. finish g j) i)

  -- There are starts and ends for all times that the tasks may take, even where those depend on the start: `took i x` is the time of task i
  -- begun at x.
  pub some_schedule : (took : ℕ → ℕ → ℕ)
      → (start end : ℕ → ℕ) × ((i : ℕ) → i < n → AsSoon g start end i) × ((i : ℕ) → i < n → end i ≡ start i + took i (start i))
  some_schedule took = (
    start,
    end,
    (λ i l. record { ended = λ j b. awaited_latest g end i j b; at_once = latest_reached g end i }),
    (λ i l. in_order_is (λ i x. x + took i x) i l),
  )
    where
      end : ℕ → ℕ
      end i = in_order (λ f i. latest g f i + took i (latest g f i)) (suc i) i

      start : ℕ → ℕ
      start i = latest g end i
