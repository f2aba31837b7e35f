-- The third part of the promise follows from the first: what the definition answers of an accepted table are such finishes.
use mathlib.Core.Path.{◌≡◌, refl, sym, ◌∙◌, ap}
use mathlib.Core.List.{List}
use lib.ListN.{get_or}
use native.Mathlib.Omega.{arith}
use Prim.Native.Nat.{ℕ, ◌+◌, ◌<◌}
use Rattle.std.specs.Prelude.{Result, Ok, Err}
use Rattle.graph.specs.declared.Answer.{Answer}
use Rattle.graph.specs.Graph.{finish, InTime}
use Rattle.graph.specs.Table.{graph_of, finished, result_by, finishes_of}
use Rattle.graph.specs.Conditions.{AcceptedTable}
use Rattle.graph.specs.Promise.{Equal, Meets, Finishing, Waiting}
use Rattle.graph.proofs.Schedules.{latest_same, finish_is, starts_by, none_late, reached, some_schedule}
use Rattle.graph.proofs.Tables.{finish_at, answer_given}
use Rattle.graph.proofs.OnTheBus.{in_time, some_ran}

-- who gives finishes has accepted
accepts : (v : Result (Unit {0}) ℕ) (f x : List ℕ) → result_by v f ≡ finished x → (v ≡ Ok tt) × (f ≡ x)
accepts (Ok tt) f x e = (refl, cc)
accepts (Err place) f x e = absurd (cc)

module _ (s : List ℕ) where
  module _ (n : ℕ) (ok : AcceptedTable s n) (f : List ℕ) (same : (i : ℕ) → i < n → get_or f i 0 ≡ get_or (finishes_of s) i 0) where
    at : (i : ℕ) → i < n → get_or f i 0 ≡ finish (graph_of s) i
    at i l = same i l ∙ finish_at s n ok i l

    meets : (start end : ℕ → ℕ) → InTime (graph_of s) n start end → (i : ℕ) → i < n → Meets (graph_of s) f start end i
    meets start end h i l = record {
      starts_by = omega (arith, at i l, starts_by (graph_of s) n ok.entries start end h i l);
      ends_by = omega (arith, at i l, none_late (graph_of s) n ok.entries start end h i l);
    }

    -- numbers that begin with the definition's are such finishes
    pub finishing : Finishing s n f
    finishing = record {
      each = λ i l.
          at i l ∙ finish_is (graph_of s) n ok.entries i l
          ∙ ap (λ (x : ℕ). (graph_of s i).time + x) (latest_same (graph_of s) n ok.entries _ _ i l (λ j m. sym (at j (omega arith))));
      none_late = meets;
      reached = λ start end h i l. reached (graph_of s) n ok.entries start end h i l ∙ sym (at i l);
      some_schedule =
          let (start, end, starts, ends) = some_schedule (graph_of s) n ok.entries (λ i x. (graph_of s i).time) in
          (start, end, record { starts = starts; takes = ends });
      whole_runs = λ image kept quoted origin start end r. meets start end (in_time (graph_of s) n image kept quoted origin start end r);
      some_runs = λ image kept quoted origin. some_ran (graph_of s) n image kept quoted origin ok.entries;
    }

  pub waiting : (r : Answer) → Equal s r → Waiting s r
  waiting r e n ok =
      let (v, f) = accepts r.verdict r.finishes (finishes_of s) (e ∙ answer_given s n ok) in
      (v, finishing n ok r.finishes (λ i l. ap (λ (x : List ℕ). get_or x i 0) f))
