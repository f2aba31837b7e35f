-- Good fields are passed by the scan one after the other, so that it goes on as the rest of the image does.
use mathlib.Core.Path.{◌≡◌, sym, ◌∙◌}
use mathlib.Core.List.{List}
use mathlib.Core.Bool.{Bool}
use Prim.Native.Nat.{ℕ, zero, suc, ◌+◌, ◌-◌, ◌≤◌, ◌<◌}
use native.Mathlib.Numerals.{add-one}
use native.Mathlib.Omega.{arith}
use lib.ListN.{length}
use lib.Dec.{eqb}
use borrow.Author.Tests.{le-leb, lt-leb, le-ltb}
use Rattle.image_bytes.specs.Bytes.{byte_at}
use Rattle.image.specs.Judged.{field_of, end_of, scan_from, scan}
use Rattle.rows.specs.Fields.{field_at, length_at, closed_at, GoodField, Passed}
use Rattle.image.specs.Conditions.{Complete}
use Rattle.refusals.specs.declared.Refusal.{Refusal}
use Rattle.std.specs.Prelude.{Ok, Err}
use Rattle.refusals.specs.Refusals.{refused_at}
use Rattle.rows.proofs.Rules.{tested}
use Rattle.rows.proofs.Standing.{next_at, first_at, few, fewer}

module _ (s : List ℕ) where
  pub good_is : (k : ℕ) → GoodField s k → field_of s (field_at s k) k (closed_at s k) ≡ Ok (field_at s (suc k))
  unfolding field_of
  good_is k g =
      let t = tested s k g in
      rw (next_at s k)
      (simp (
        le-ltb (length s - field_at s k) 3 (omega (arith, t.head)),
        t.tag,
        t.room,
        t.len,
        le-ltb (length s - field_at s k - 3) (length_at s k) (omega (arith, t.body)),
        t.value,
        t.children,
        t.entry,
      ))

  -- the scan at the place of the field with `index` fields before it
  module _ (at index : ℕ) (closed : Bool) (room : index ≤ 259) where
    more : 260 - index ≡ suc (260 - (index + 1))
    more = omega arith

    pub on_good : (next : ℕ) → at < length s → field_of s at index closed ≡ Ok next
        → scan_from (260 - index) s at index closed ≡ scan_from (260 - (index + 1)) s next (index + 1) (eqb (byte_at s at) 8)
    unfolding scan_from
    on_good next h e = rw (more, lt-leb (length s) at h, e)

    pub on_bad : (r : Refusal) → at < length s → field_of s at index closed ≡ Err r → scan_from (260 - index) s at index closed ≡ Err (refused_at r at)
    unfolding scan_from
    on_bad r h e = rw (more, lt-leb (length s) at h, e)

    pub at_end : length s ≤ at → scan_from (260 - index) s at index closed ≡ end_of s index closed
    unfolding scan_from
    at_end h = rw (more, le-leb (length s) at h)

  -- the scan from the front goes on where the passed fields end
  pub rest : (n : ℕ) → Passed s n → scan_from (260 - n) s (field_at s n) n (closed_at s n) ≡ scan s
  unfolding scan
  rest zero p = rw (first_at s)
  rest (suc n) p =
      let g = p n (omega arith) in
      let t = tested s n g in
      sym (rw (add-one n) at (on_good (field_at s n) n (closed_at s n) (omega (arith, few s (suc n) p)) (field_at s (suc n)) (omega (arith, t.head)) (good_is n g)))
      ∙ rest n (fewer s n (suc n) (omega arith) p)

  pub stops : (k : ℕ) (r : Refusal) → Passed s k → field_at s k < length s → field_of s (field_at s k) k (closed_at s k) ≡ Err r → scan s ≡ Err (refused_at r (field_at s k))
  stops k r p l e = sym (rest k p) ∙ on_bad (field_at s k) k (closed_at s k) (few s k p) r l e

  pub ends : (n : ℕ) → Complete s n → scan s ≡ end_of s n (closed_at s n)
  ends n c = sym (rest n c.passed) ∙ at_end (field_at s n) n (closed_at s n) (few s n c.passed) (omega (arith, c.ends))
