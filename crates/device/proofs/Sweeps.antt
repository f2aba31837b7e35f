-- One more core in a tick.
use mathlib.Core.Path.{◌≡◌}
use mathlib.Core.List.{List, [], ◌∷◌, ◌++◌, append_assoc, append-nil}
use native.Mathlib.Numerals.{add-one}
use native.Mathlib.Omega.{arith}
use lib.ListN.{length, get_or, set, take, drop, drop_of_length-le}
use lib.Seq.{drop-cons, take-suc-set, drop-set-lt, take_all}
use Prim.Native.Nat.{ℕ, suc, ◌+◌, ◌≤◌, ◌<◌}
use Rattle.device.specs.declared.Arbiter.{Arbiter}
use Rattle.device.specs.declared.Registers.{Registers}
use Rattle.device.specs.Device.{clear, slots_of_core, stepped, stepped_from}

module _ (a : Arbiter) where
  -- cores below i stepped, the others still to be
  abbrev pub swept : ℕ → List Registers → List Registers
  swept i rs = take i rs ++ stepped_from a i (drop i rs)

  pub swept_more : (rs : List Registers) (i : ℕ) → i < length rs → swept (i + 1) (set rs i (stepped (slots_of_core a i) a.offset (get_or rs i clear))) ≡ swept i rs
  unfolding stepped_from
  swept_more rs i h =
      let x = stepped (slots_of_core a i) a.offset (get_or rs i clear) in
      let t : take (suc i) (set rs i x) ≡ take i rs ++ (x ∷ []) = take-suc-set rs i x h in
      let d : drop (suc i) (set rs i x) ≡ drop (suc i) rs = drop-set-lt (suc i) rs i x (omega arith) in
      rw (add-one, t, d, append_assoc (take i rs) (x ∷ []) (stepped_from a (suc i) (drop (suc i) rs)), drop-cons rs i clear h)

  pub swept_all : (rs : List Registers) (i : ℕ) → length rs ≤ i → swept i rs ≡ rs
  unfolding stepped_from
  swept_all rs i h = rw (drop_of_length-le rs h, take_all i rs h) (append-nil rs)
