-- Equal slots written either way: field 1 is good with tag 1 and with tag 9, and says the same bus.
use mathlib.Core.Path.{◌≡◌, refl, ◌∙◌, ap}
use mathlib.Core.List.{List, ◌++◌}
use native.Mathlib.Omega.{arith}
use Prim.Native.Nat.{ℕ, ◌+◌, ◌-◌, ◌*◌, ◌%◌}
use lib.ListN.{length, length-append}
use borrow.Author.Tests.{le-leb, eq-eqb}
use Rattle.runs.specs.Bus.{SameBus}
use Rattle.runs.specs.Slots.{equal_slots}
use Rattle.runs.specs.Schedules.{unequal_slots}
use Rattle.bus.specs.Waits.{slots_of, Ranges}
use Rattle.bus.specs.declared.Slots.{Slots}
use Rattle.image_bytes.specs.Bytes.{word_at}
use Rattle.schedule.specs.Said.{said}
use Rattle.schedule.specs.Written.{slots_field, turns_field}
use Rattle.schedule.proofs.Sayings.{kept_ranges, said_slots, said_turns}
use Rattle.schedule.proofs.Writings.{pairs_long, written_length, written_read, evenly, even_count, even_ok, even_same}
use Rattle.rows.specs.Tests.{tag_ok, room_ok, length_ok, value_ok, children_ok, entry_ok}
use Rattle.rows.specs.Fields.{field_at, GoodField}
use Rattle.rows.proofs.Rules.{good}
use Rattle.image.proofs.SameRest.{Instead}

module _ (v : Slots) (h : Ranges v) (rest : List ℕ) where
  abbrev one : List ℕ
  one = slots_field (slots_of v)

  abbrev nine : List ℕ
  nine = turns_field (evenly v h)

  few : length (evenly v h).turns ≡ v.cores
  few = even_count v h

  long : length nine ≡ 4 + 2 * v.cores
  long = omega (arith, pairs_long (evenly v h).turns, few)

  body : word_at (nine ++ rest) 1 ≡ 1 + 2 * v.cores
  body = written_length (evenly v h) (omega (arith, few, h.cores_most)) rest ∙ ap (λ (n : ℕ). 1 + 2 * n) few

  one_good : GoodField (one ++ rest) 0
  unfolding field_at word_at tag_ok room_ok length_ok value_ok children_ok entry_ok
  one_good = good (one ++ rest) 0 (record {
    head = omega arith;
    tag = refl;
    room = refl;
    len = refl;
    body = omega arith;
    value = kept_ranges v h;
    children = refl;
    entry = refl;
  })

  nine_good : GoodField (nine ++ rest) 0
  unfolding field_at tag_ok room_ok length_ok value_ok children_ok entry_ok
  nine_good =
      let odd : (1 + 2 * v.cores) % 2 ≡ 1 = omega arith in
      good (nine ++ rest) 0
      (record {
        head = omega arith;
        tag = refl;
        room = refl;
        len = rw body (simp (le-leb 3 (1 + 2 * v.cores) (omega (arith, h.cores_least)), le-leb (1 + 2 * v.cores) 65 (omega (arith, h.cores_most)), eq-eqb ((1 + 2 * v.cores) % 2) 1 odd));
        body = omega (arith, body, long, length-append nine rest);
        value = rw (written_read (evenly v h) (omega (arith, few, h.cores_most)) rest) (even_ok v h);
        children = refl;
        entry = refl;
      })

  one_ends : field_at (one ++ rest) 1 ≡ length one
  unfolding field_at word_at
  one_ends = refl

  nine_ends : field_at (nine ++ rest) 1 ≡ length nine
  unfolding field_at
  nine_ends = omega (arith, body, long)

  said_one : said (one ++ rest) ≡ equal_slots (slots_of v)
  said_one = said_slots (one ++ rest) refl

  said_nine : said (nine ++ rest) ≡ unequal_slots (evenly v h)
  said_nine = said_turns (nine ++ rest) refl ∙ ap unequal_slots (written_read (evenly v h) (omega (arith, few, h.cores_most)) rest)

  pub same_said : SameBus (said (nine ++ rest)) (said (one ++ rest))
  same_said = rw (said_one, said_nine) (even_same v h)

  pub instead : Instead one nine rest (2 * v.cores - 2)
  instead = record {
    longer = omega (arith, long, h.cores_least);
    good = one_good;
    good' = nine_good;
    ends = one_ends;
    ends' = nine_ends;
    period = same_said.period;
    most = same_said.most;
  }
