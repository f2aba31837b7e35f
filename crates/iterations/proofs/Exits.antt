-- The exits before the first iteration, and those after one more.
use mathlib.Core.Path.{◌≡◌, refl, sym, ◌∙◌, ap}
use mathlib.Core.Bool.{Bool, cond}
use mathlib.Core.Option.{none}
use mathlib.Core.List.{List}
use lib.ListN.{get_or, replicate, get_or-replicate, length-replicate}
use borrow.Author.Tests.{le-leb, lt-leb}
use native.Mathlib.Omega.{arith}
use Prim.Native.Nat.{ℕ, ◌+◌, ◌≤◌, ◌<◌}
use Rattle.runs.specs.Figures.{Time, longer}
use Rattle.runs.proofs.Meanings.{row_at_lem}
use Rattle.runs.proofs.Joins.{longer_joins}
use Rattle.times.specs.Arrays.{no_time, time_of, table_of, Joined}
use Rattle.iterations.specs.Iterations.{Empty, BegunBy, TurnedBy}

-- ---- the array of no times, and joins

pub nothing : (n m : ℕ) → n ≤ m → Empty n (replicate m no_time)
unfolding table_of time_of
nothing n m h = record {
  size = omega (arith, length-replicate m no_time);
  none_at = λ o l.
      row_at_lem n (λ o. time_of (get_or (replicate m no_time) o 0)) o none l ∙ ap time_of (get_or-replicate m o no_time 0 (omega arith));
}

pub joined_at : (n : ℕ) (a b r : List ℕ) → Joined n a b r → (o : ℕ) → o < n
    → get_or (table_of n r) o none ≡ longer (get_or (table_of n a) o none) (get_or (table_of n b) o none)
joined_at n a b r j o h = ap (λ (T : List Time). get_or T o none) j ∙ row_at_lem n _ o none h

-- ---- what the unroller starts from, and one iteration

module _ (n : ℕ) where
  pub begun_entry : (least : ℕ) (t out : List ℕ) → least ≡ 0 → table_of n out ≡ table_of n t → BegunBy n least t out
  begun_entry least t out e j = record {
    cur = refl;
    out = λ o h.
        ap (λ (T : List Time). get_or T o none) j
        ∙ ap (λ (z : Bool). cond z (get_or (table_of n t) o none) none) (sym (le-leb least 0 (omega arith)));
  }

  pub begun_nothing : (least : ℕ) (t out : List ℕ) → 0 < least → Empty n out → BegunBy n least t out
  begun_nothing least t out l e = record {
    cur = refl;
    out = λ o h. e.none_at o h ∙ ap (λ (z : Bool). cond z (get_or (table_of n t) o none) none) (sym (lt-leb least 0 l));
  }

  module _ (least done : ℕ) (out next : List ℕ) where
    pub turned_joined : (both : List ℕ) → least ≤ done + 1 → Joined n out next both → TurnedBy n least done out next both
    turned_joined both l j = record {
      cur = refl;
      out = λ o h.
          joined_at n out next both j o h
          ∙ ap (λ (z : Bool). longer (get_or (table_of n out) o none) (cond z (get_or (table_of n next) o none) none)) (sym (le-leb least (done + 1) l));
    }

    pub turned_only : done + 1 < least → TurnedBy n least done out next out
    turned_only l = record {
      cur = refl;
      out = λ o h.
          sym (longer_joins.right _)
          ∙ ap (λ (z : Bool). longer (get_or (table_of n out) o none) (cond z (get_or (table_of n next) o none) none)) (sym (lt-leb least (done + 1) l));
    }
