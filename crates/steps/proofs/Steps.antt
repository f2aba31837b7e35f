-- What the inner functions give is the step of the definition: a plain block's is `Passed`, a bus block's by the two cases of an access.
use mathlib.Core.Path.{◌≡◌, sym, ◌∙◌, ap}
use mathlib.Core.Logic.{inl, inr}
use mathlib.Core.List.{List}
use mathlib.Core.Bool.{true, false≢true}
use lib.ListN.{get_or}
use borrow.Author.Tests.{eqb-true, eq-eqb}
use native.Mathlib.Omega.{arith}
use native.Mathlib.Nat.{mod-lt}
use Prim.Native.Nat.{ℕ, ◌+◌, ◌-◌, ◌%◌, ◌≤◌, ◌<◌}
use Rattle.runs.specs.Schedules.{owning}
use Rattle.runs.specs.Stretches.{Begins}
use Rattle.runs.specs.Nodes.{may, always, Tree}
use Rattle.runs.specs.Carried.{blocked, carried}
use Rattle.runs.specs.Exact.{Longest}
use Rattle.runs.proofs.Joins.{row_same}
use Rattle.runs.proofs.SchedulesLaws.{next_of, next_at, most_fits, cycles_to}
use Rattle.runs.proofs.TimesExact.{longest_one, longest_same}
use Rattle.bus.specs.declared.Bus.{Bus}
use Rattle.bus.specs.Owning.{owns, bus_meant}
use Rattle.times.specs.Arrays.{time_of, table_of}
use Rattle.steps.specs.Steps.{Stepped, BusReady}
use Rattle.windows.specs.Windows.{Passed}
use Rattle.starting.specs.Starting.{Now}
use Rattle.waiting.specs.Waiting.{LeftAll}
use Rattle.times.proofs.Ends.{self, left_means}
use Rattle.windows.proofs.Parted.{passed_ends}
use Rattle.steps.proofs.Landing.{access_collapses, may_collapses}

pub plain_stepped : (b : Bus) (lo hi : ℕ) (t r : List ℕ) → Passed t b.period lo hi r → Stepped b (Tree.plain lo hi) t r
unfolding Passed carried
plain_stepped b lo hi t r h = h

module _ (b : Bus) (lo hi : ℕ) (t : List ℕ) (ready : BusReady b lo hi t) where
  abbrev P : ℕ
  P = b.period

  -- every duration is one that the bus permits
  most : hi ≤ (bus_meant b).most
  most = omega (arith, ready.most, ready.fit.longest)

  -- ---- with what waits

  pub may_on : (a r : List ℕ) → Passed t P lo hi a → LeftAll P (owns b) t lo hi a r → Stepped b (Tree.bus may lo hi) t r
  unfolding table_of LeftAll carried owning
  may_on a r passed left =
      row_same P (λ q. time_of (get_or r q 0)) _ (λ q l.
      longest_one
      (left_means _ _ _ _ (passed_ends t a P lo hi passed q l) (left q l))
      (may_collapses P ready.fit.least (owns b) lo hi ready.least most (table_of P t) q))

  pub always_on : (a r : List ℕ) → ((q : ℕ) → q < P → Longest (Now P (owns b) (table_of P t) lo hi q) (time_of (get_or a q 0))) → LeftAll P (owns b) t lo hi a r
      → Stepped b (Tree.bus always lo hi) t r
  unfolding table_of LeftAll carried blocked owning
  always_on a r now left =
      row_same P (λ q. time_of (get_or r q 0)) _ (λ q l.
      longest_one
      (left_means _ _ _ _ (now q l) (left q l))
      (access_collapses P ready.fit.least (owns b) lo hi ready.least most (table_of P t) q))

  -- ---- where all is owned

  module _ (whole : P ≤ b.most) where
    all : (o : ℕ) → o < P → owns b o ≡ true
    all o l =
        let (x, k, h) = most_fits P (owns b) P ready.fit.least (omega (arith, whole, ready.fit.longest)) in
        ap (owns b) (sym (cycles_to P x o k l)) ∙ next_at P (owns b) P x h ((o + P - x) % P) (mod-lt _ ready.fit.least)

    no_begin : (a : ℕ) → Begins P (owns b) a → ⊥
    no_begin a x = false≢true (sym x.before ∙ all ((a + P - 1) % P) (mod-lt _ ready.fit.least))

    pub whole_may : (r : List ℕ) → Passed t P lo hi r → Stepped b (Tree.bus may lo hi) t r
    unfolding LeftAll
    whole_may r passed =
        may_on r r passed (λ q l. longest_same _ _ _ (λ c x. inl x) (λ c. elim [ inl x ↦ x | inr (a, x, y) ↦ absurd (no_begin a x) ]) (self (time_of (get_or r q 0))))

    pub whole_always : (r : List ℕ) → Passed t P lo hi r → Stepped b (Tree.bus always lo hi) t r
    unfolding LeftAll
    whole_always r passed =
        always_on r r
        (λ q l. longest_same _ _ _
        (λ c (o, i, (d, u, v, (e, x))). (o, i, (d, u, v, next_of P (owns b) d o (λ i k. all ((o + i) % P) (mod-lt _ ready.fit.least)), eqb-true _ _ e, x)))
        (λ c (o, i, (d, u, v, s, e, x)). (o, i, (d, u, v, (eq-eqb _ _ e, x))))
        (passed_ends t r P lo hi passed q l))
        (λ q l. longest_same _ _ _ (λ c x. inl x) (λ c. elim [ inl x ↦ x | inr (a, x, y) ↦ absurd (no_begin a x) ]) (self (time_of (get_or r q 0))))
