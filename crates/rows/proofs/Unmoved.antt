-- Two images whose first n fields have the same heads: these stand where they stood, and one is still good where its numbers keep its row's rules.
use mathlib.Core.Path.{◌≡◌, refl, sym, ◌∙◌, ap}
use mathlib.Core.Bool.{true}
use mathlib.Core.List.{List}
use lib.ListN.{length}
use native.Mathlib.Omega.{arith}
use Prim.Native.Nat.{ℕ, zero, suc, ◌+◌, ◌≤◌, ◌<◌}
use Rattle.runs.specs.Bus.{Bus}
use Rattle.image_bytes.specs.Bytes.{byte_at, word_at}
use Rattle.image_bytes.proofs.Agreeing.{Agree, agree_here, agree_word}
use Rattle.schedule.specs.Said.{said}
use Rattle.rows.specs.Tests.{value_ok, children_ok, entry_ok}
use Rattle.rows.specs.Fields.{field_at, tag_at, length_at, body_at, closed_at, GoodField}
use Rattle.rows.proofs.Rules.{tested, good}
use Rattle.rows.proofs.Standing.{next_at, first_at}
use Rattle.rows.proofs.Reading.{covers_row, agree_value, agree_children, agree_entry}

module _ (s e : List ℕ) (n : ℕ) (heads : (k : ℕ) → k < n → Agree s e (field_at s k) (field_at s k) 3) where
  pub length_same : (k : ℕ) → k < n → word_at e (field_at s k + 1) ≡ length_at s k
  length_same k l = agree_word s e (field_at s k) (field_at s k) 3 1 (heads k l) (omega arith)

  pub tag_same : (k : ℕ) → k < n → byte_at e (field_at s k) ≡ tag_at s k
  tag_same k l = agree_here s e (field_at s k) (field_at s k) 3 (heads k l) (omega arith)

  pub place_same : (k : ℕ) → k ≤ n → field_at e k ≡ field_at s k
  place_same zero l = first_at e ∙ sym (first_at s)
  place_same (suc k) l = rw (next_at e k, place_same k (omega arith), length_same k (omega arith), next_at s k)

  closed_same : (k : ℕ) → k ≤ n → closed_at e k ≡ closed_at s k
  closed_same zero l = refl
  closed_same (suc k) l = rw (place_same k (omega arith), tag_same k (omega arith))

  module _ (long : length s ≤ length e) (j : ℕ) (l : j < n) (g : GoodField s j) where
    pub still_good : value_ok e (tag_at s j) (body_at s j) (length_at s j) ≡ true → children_ok e (tag_at s j) (body_at s j) (length_at s j) j ≡ true
        → entry_ok e (tag_at s j) (body_at s j) j ≡ true → GoodField e j
    still_good v c x =
        let t = tested s j g in
        let place = place_same j (omega arith) in
        let tag = tag_same j l in
        let len = length_same j l in
        good e j
        (record {
          head = rw place (omega (arith, t.head));
          tag = rw (closed_same j (omega arith), place, tag) t.tag;
          room = rw (place, tag) t.room;
          len = rw (place, tag, len) t.len;
          body = rw (place, len) (omega (arith, t.body));
          value = rw (place, tag, len) v;
          children = rw (place, tag, len) c;
          entry = rw (place, tag) x;
        })

    -- such as one with the same body, where the images say the same bus
    pub body_good : said e ≡ said s → Agree s e (body_at s j) (body_at s j) (length_at s j) → GoodField e j
    body_good bus h =
        let t = tested s j g in
        let tag = tag_at s j in
        let p = body_at s j in
        let m = length_at s j in
        let c = covers_row tag m t.len in
        still_good
        (agree_value s e tag p p m m c h (ap (λ (b : Bus). b.period) bus) (ap (λ (b : Bus). b.most) bus) ∙ t.value)
        (agree_children s e tag p p m m c h j ∙ t.children)
        (agree_entry s e tag p p m m c h j ∙ t.entry)
