-- Sets as bits: the empty set, a join, and what the unroller starts from.
use mathlib.Core.Path.{◌≡◌, refl, sym, ◌∙◌, ap}
use mathlib.Core.Bool.{Bool, false, cond, ◌||◌}
use mathlib.Core.List.{List}
use lib.ListN.{get_or}
use lib.Bits.{bit_or, or_lt}
use lib.Pow.{pow_pos}
use borrow.Author.Tests.{le-leb, lt-leb}
use native.Mathlib.Omega.{arith}
use Prim.Native.Nat.{ℕ, ◌+◌, ◌≤◌, ◌<◌}
use Rattle.runs.proofs.Meanings.{row_at_lem}
use Rattle.runs.proofs.Joins.{or_joins}
use Rattle.bus.specs.declared.Bus.{Bus}
use Rattle.offsets.specs.declared.Set.{Set}
use Rattle.offsets.specs.Sets.{value}
use Rattle.exits.specs.Exits.{Within}
use Rattle.exits.proofs.Bits.{bits_empty, bits_join}
use Rattle.published.specs.Steps.{bits, BegunAt, TurnedAt}
use Rattle.published.specs.declared.Outcome.{Outcome}
use Rattle.published.specs.declared.Pass.{Pass}

module _ (b : Bus) where
  pub empty_at : (r : Set) → value r ≡ 0 → (o : ℕ) → o < b.period → get_or (bits b r) o false ≡ false
  empty_at r e o h = ap (λ (T : List Bool). get_or T o false) (bits_empty b.period r e) ∙ row_at_lem b.period (λ i. false) o false h

  pub empty_within : (r : Set) → value r ≡ 0 → Within b.period r
  empty_within r e = rw e (pow_pos b.period)

  pub join_at : (x y r : Set) → value r ≡ bit_or (value x) (value y) → (o : ℕ) → o < b.period
      → get_or (bits b r) o false ≡ (get_or (bits b x) o false || get_or (bits b y) o false)
  join_at x y r e o h = ap (λ (T : List Bool). get_or T o false) (bits_join b.period x y r e) ∙ row_at_lem b.period _ o false h

  pub join_within : (x y r : Set) → value r ≡ bit_or (value x) (value y) → Within b.period x → Within b.period y → Within b.period r
  join_within x y r e h g = rw e (or_lt b.period (value x) (value y) h g)

  -- ---- what the unroller starts from, and one iteration

  pub begun_entry : (least : ℕ) (s : Set) → least ≡ 0 → BegunAt b least s (record { cur = s; out = s; cost = 0 })
  begun_entry least s e = record {
    begun = record {
      cur = refl;
      out = λ o h. ap (λ (z : Bool). cond z (get_or (bits b s) o false) false) (sym (le-leb least 0 (omega arith)));
    };
    within = λ h. h;
    within_out = λ h. h;
    costs = refl;
  }

  pub begun_nothing : (least : ℕ) (s none : Set) → 0 < least → value none ≡ 0 → BegunAt b least s (record { cur = s; out = none; cost = 0 })
  begun_nothing least s none l e = record {
    begun = record {
      cur = refl;
      out = λ o h. empty_at none e o h ∙ ap (λ (z : Bool). cond z (get_or (bits b s) o false) false) (sym (lt-leb least 0 l));
    };
    within = λ h. h;
    within_out = λ h. empty_within none e;
    costs = refl;
  }

  module _ (least done : ℕ) (p : Pass) (n : Outcome) where
    pub turned_joined : (both : Set) → least ≤ done + 1 → value both ≡ bit_or (value p.out) (value n.exits)
        → TurnedAt b least done p n (record { cur = n.exits; out = both; cost = p.cost + n.cost })
    turned_joined both l e = record {
      turned = record {
        cur = refl;
        out = λ o h.
            join_at p.out n.exits both e o h
            ∙ ap (λ (z : Bool). get_or (bits b p.out) o false || cond z (get_or (bits b n.exits) o false) false) (sym (le-leb least (done + 1) l));
      };
      within = λ h. h;
      within_out = λ h g. join_within p.out n.exits both e g h;
      costs = refl;
    }

    pub turned_only : done + 1 < least → TurnedAt b least done p n (record { cur = n.exits; out = p.out; cost = p.cost + n.cost })
    turned_only l = record {
      turned = record {
        cur = refl;
        out = λ o h.
            sym (or_joins.right _)
            ∙ ap (λ (z : Bool). get_or (bits b p.out) o false || cond z (get_or (bits b n.exits) o false) false) (sym (lt-leb least (done + 1) l));
      };
      within = λ h. h;
      within_out = λ h g. g;
      costs = refl;
    }
