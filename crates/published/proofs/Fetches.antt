-- A block fetched once, over offsets alone: each may hit and may miss, so its exits are those of the access and those of the hit time.
use mathlib.Core.Path.{◌≡◌, sym, ◌∙◌, ap, ap₂}
use mathlib.Core.Bool.{Bool, true, false, ◌||◌}
use mathlib.Core.List.{List}
use lib.ListN.{get_or}
use lib.Bits.{bit_or}
use Prim.Native.Nat.{ℕ, ◌+◌, ◌%◌, ◌<◌}
use Rattle.runs.specs.Schedules.{owning}
use Rattle.runs.specs.Nodes.{Tree, always}
use Rattle.runs.specs.Carried.{moved, keep, carried}
use Rattle.runs.proofs.Meanings.{row_at_lem}
use Rattle.runs.proofs.Joins.{row_same}
use Rattle.bus.specs.declared.Bus.{Bus}
use Rattle.bus.specs.Owning.{bus_meant}
use Rattle.offsets.specs.declared.Set.{Set}
use Rattle.offsets.specs.Sets.{value, has}
use Rattle.exits.specs.Exits.{bits_of, Exited}
use Rattle.exits.proofs.Bits.{bits_join}
use Rattle.published.specs.Steps.{bits}
use Rattle.published.proofs.Joins.{join_within}

module _ (b : Bus) (x lo hi hit : ℕ) (s : Set) where
  abbrev P : ℕ
  P = b.period

  -- what stands at o after durations lo to hi, from the bits U
  abbrev away : (ℕ → ℕ → ℕ) → ℕ → ℕ → List Bool → ℕ → Bool
  away dur lo hi U o = moved false ◌||◌ (λ d v. v) P lo hi dur (λ d o. (o + d) % P) U o

  abbrev access : ℕ → ℕ → ℕ
  access d o = (bus_meant b).wait d o + d

  abbrev pass : ℕ → ℕ → ℕ
  pass d o = d

  all_kept : keep false P (λ p. true) (bits b s) ≡ bits b s
  unfolding keep bits_of
  all_kept = row_same P _ _ (λ o l. row_at_lem P (λ o. has (value s) o) o false l)

  missed_at : (m : Set) → Exited b (Tree.bus always lo hi) s m → (o : ℕ) → o < P → get_or (bits b m) o false ≡ away access lo hi (keep false P (λ p. true) (bits b s)) o
  unfolding carried owning
  missed_at m h o l =
      ap (λ (T : List Bool). get_or T o false) h.bits ∙ row_at_lem P (λ p. away access lo hi (bits b s) p) o false l
      ∙ ap (λ (U : List Bool). away access lo hi U o) (sym all_kept)

  hit_at : (m : Set) → Exited b (Tree.plain hit hit) s m → (o : ℕ) → o < P → get_or (bits b m) o false ≡ away pass hit hit (keep false P (λ p. true) (bits b s)) o
  unfolding carried owning
  hit_at m h o l =
      ap (λ (T : List Bool). get_or T o false) h.bits ∙ row_at_lem P (λ p. away pass hit hit (bits b s) p) o false l
      ∙ ap (λ (U : List Bool). away pass hit hit U o) (sym all_kept)

  pub once_exited : (m h r : Set) → Exited b (Tree.bus always lo hi) s m → Exited b (Tree.plain hit hit) s h → value r ≡ bit_or (value m) (value h)
      → Exited b (Tree.once x lo hi hit) s r
  unfolding carried owning
  once_exited m h r miss pass e = record {
    bits = bits_join P m h r e ∙ row_same P _ _ (λ o l. ap₂ ◌||◌ (missed_at m miss o l) (hit_at h pass o l));
    within = join_within b m h r e miss.within pass.within;
  }
