-- The period of a schedule, divided slot by slot into the offsets that the analysed core owns and the others.
use mathlib.Core.Path.{◌≡◌, refl, sym, ◌∙◌, ap, subst}
use mathlib.Core.Bool.{Bool, true, false, not, cond, ◌||◌}
use mathlib.Core.List.{List}
use Prim.Native.Nat.{ℕ, suc, ◌+◌, ◌-◌, ◌*◌, ◌/◌, ◌%◌, ◌^◌, ◌≤◌, ◌<◌}
use native.Mathlib.Nat.{zero-add, sub-zero, not-suc-le-zero, mod-eq_of_lt, mul_comm, suc-mul, lt_of_lt_of_le}
use native.Mathlib.Omega.{arith}
use lib.Pow.{pow_pos, pow_mono, pow-add}
use lib.Bits.{bit_or, or_lt}
use lib.Dec.{eqb, ltb}
use borrow.Author.Tests.{lt-ltb, le-ltb}
use Rattle.runs.specs.Bus.{Bus as RunBus, SameBus}
use Rattle.runs.specs.Schedules.{Turn, total, owns, unequal_slots}
use Rattle.runs.proofs.OwningSame.{owning_same}
use Rattle.runs.proofs.Cases.{split, either}
use Rattle.offsets.specs.declared.Set.{Set}
use Rattle.offsets.specs.Sets.{value, has}
use Rattle.offsets.proofs.Members.{has_none, has_above, has_ones, has_or}
use Rattle.offsets.proofs.Raises.{in_up, from_up}
use Rattle.bus.specs.declared.Bus.{Bus}
use Rattle.bus.specs.Stretches.{begun}
use Rattle.bus.specs.Owning.{bus_meant, owns as owns_of}
use Rattle.image_bytes.specs.Bytes.{byte_at, word_at}
use Rattle.schedule.specs.Said.{turns_at, schedule_at, Scheduled}
use Rattle.schedule.specs.Inner.{Divides}
use Rattle.schedule.specs.declared.Divided.{Divided}
use Rattle.schedule.proofs.Sayings.{named_owns}
use Rattle.schedule.proofs.Few.{begun_same, few_begun}
use Rattle.schedule.proofs.Pairs.{turns_step, total_step, total_none}

-- ---- len offsets from `at` on

abbrev pub cycles : ℕ → ℕ → ℕ
cycles at len = ((2 ^ len - 1) * 2 ^ at) % 2 ^ 256

module _ (at len : ℕ) (fits : at + len ≤ 256) where
  in_cycles : (o : ℕ) → at ≤ o → o < at + len → has (cycles at len) o ≡ true
  in_cycles o l m =
      let z : o - at + at ≡ o = omega arith in
      subst (λ (j : ℕ). has (cycles at len) j ≡ true) z (in_up (2 ^ len - 1) at (o - at) (omega arith) (has_ones len (o - at) (omega arith)))

  not_before : (o : ℕ) → o < at → has (cycles at len) o ≡ false
  not_before o l =
      either (has (cycles at len) o)
      (λ h. let (i, k, e) = from_up (2 ^ len - 1) at o h in absurd (let z : 1 ≤ 0 = omega arith in not-suc-le-zero z))
      (λ h. h)

  small : (2 ^ len - 1) * 2 ^ at < 2 ^ (at + len)
  small =
      let p : 2 ^ (at + len) ≡ 2 ^ at * 2 ^ len = pow-add 2 at len in
      let q : 2 ^ at * 2 ^ len ≡ 2 ^ len * 2 ^ at = mul_comm (2 ^ at) (2 ^ len) in
      let r : suc (2 ^ len - 1) * 2 ^ at ≡ (2 ^ len - 1) * 2 ^ at + 2 ^ at = suc-mul (2 ^ len - 1) (2 ^ at) in
      let u : suc (2 ^ len - 1) ≡ 2 ^ len = omega (arith, pow_pos len) in
      let v = rw u at r in
      omega (arith, p, q, v, pow_pos at)

  cycles_lt : cycles at len < 2 ^ (at + len)
  cycles_lt = rw (mod-eq_of_lt (lt_of_lt_of_le small (pow_mono fits))) small

  -- where a test holds
  module _ (t : Bool) where
    when_in : (o : ℕ) → at ≤ o → o < at + len → has (cond t (cycles at len) 0) o ≡ t
    when_in o l m = go t
      where
        go : (t : Bool) → has (cond t (cycles at len) 0) o ≡ t
        go true = in_cycles o l m
        go false = has_none o

    when_before : (o : ℕ) → o < at → has (cond t (cycles at len) 0) o ≡ false
    when_before o l = go t
      where
        go : (t : Bool) → has (cond t (cycles at len) 0) o ≡ false
        go true = not_before o l
        go false = has_none o

    when_lt : cond t (cycles at len) 0 < 2 ^ (at + len)
    when_lt = go t
      where
        go : (t : Bool) → cond t (cycles at len) 0 < 2 ^ (at + len)
        go true = cycles_lt
        go false = pow_pos (at + len)

or_false : (a : Bool) → (a || false) ≡ a
or_false true = refl
or_false false = refl

-- a set of offsets below `at` and those from there on, where a test holds: what f says
module _ (at len : ℕ) (fits : at + len ≤ 256) (t : Bool) (m : ℕ) (m-in : m < 2 ^ at) (f : ℕ → Bool)
    (low : (o : ℕ) → o < at → has m o ≡ f o) (high : (o : ℕ) → at ≤ o → o < at + len → f o ≡ t) where
  joined_in : bit_or m (cond t (cycles at len) 0) < 2 ^ (at + len)
  joined_in = or_lt (at + len) m (cond t (cycles at len) 0) (lt_of_lt_of_le m-in (pow_mono (let z : at ≤ at + len = omega arith in z))) (when_lt at len fits t)

  joined_is : (o : ℕ) → o < at + len → has (bit_or m (cond t (cycles at len) 0)) o ≡ f o
  joined_is o l =
      has_or m (cond t (cycles at len) 0) o
      ∙ split at o
      (λ k. rw (has_above m at o m-in k, when_in at len fits t o k l) (sym (high o k l)))
      (λ k. rw (when_before at len fits t o k, or_false (has m o)) (low o k))

-- ---- so far

abbrev pairs : List ℕ → ℕ
pairs s = word_at s 1 / 2

abbrev left : List ℕ → ℕ → List Turn
left s i = turns_at s (4 + 2 * i) (pairs s - i)

abbrev mine : List ℕ → ℕ → Bool
mine s o = owns (schedule_at s).core (schedule_at s).turns o

-- the slots of i pairs, up to the offset `at`, are divided into the sets `own` and `rest`
pub record Sofar (s : List ℕ) (own rest at i : ℕ) : Type 0 where
  pub few : i ≤ pairs s
  pub sum : at + total (left s i) ≡ total (schedule_at s).turns
  pub own_in : own < 2 ^ at
  pub rest_in : rest < 2 ^ at
  pub own_is : (o : ℕ) → o < at → has own o ≡ mine s o
  pub rest_is : (o : ℕ) → o < at → has rest o ≡ not (mine s o)
  pub on : (o : ℕ) → mine s (at + o) ≡ owns (schedule_at s).core (left s i) o

module _ (s : List ℕ) where
  all_left : left s 0 ≡ (schedule_at s).turns
  all_left = rw (sub-zero (pairs s))

  pub sofar_first : (own rest : ℕ) → own ≡ 0 → rest ≡ 0 → Sofar s own rest 0 0
  sofar_first own rest e f = record {
    few = omega arith;
    sum = rw (zero-add (total (left s 0))) (ap total all_left);
    own_in = omega (arith, e);
    rest_in = omega (arith, f);
    own_is = λ o l. absurd (not-suc-le-zero l);
    rest_is = λ o l. absurd (not-suc-le-zero l);
    on = λ o. rw (zero-add o) (ap (λ (xs : List Turn). owns (schedule_at s).core xs o) (sym all_left));
  }

  module _ (ok : Scheduled (schedule_at s)) (own rest at i : ℕ) (h : Sofar s own rest at i) where
    pub sofar_fits : at ≤ 256
    sofar_fits = omega (arith, h.sum, ok.period_most)

    module _ (l : i < pairs s) where
      abbrev len : ℕ
      len = byte_at s (4 + 2 * i + 1)

      abbrev this : Bool
      this = eqb (byte_at s (4 + 2 * i)) (schedule_at s).core

      pub sofar_more : at + len ≤ 256
      sofar_more = omega (arith, h.sum, ok.period_most, total_step s 4 (pairs s) i l)

      step : (o : ℕ) → mine s (at + o) ≡ cond (ltb o len) this (owns (schedule_at s).core (left s (i + 1)) (o - len))
      unfolding owns
      step o = h.on o ∙ ap (λ (xs : List Turn). owns (schedule_at s).core xs o) (turns_step s 4 (pairs s) i l)

      here : (o : ℕ) → at ≤ o → o < at + len → mine s o ≡ this
      here o k m =
          let z : at + (o - at) ≡ o = omega arith in
          subst (λ (j : ℕ). mine s j ≡ this) z (step (o - at) ∙ rw (lt-ltb (o - at) len (omega arith)))

      pub sofar_next : (own' rest' at' : ℕ) → own' ≡ bit_or own (cond this (cycles at len) 0) → rest' ≡ bit_or rest (cond (not this) (cycles at len) 0) → at' ≡ at + len
          → Sofar s own' rest' at' (i + 1)
      sofar_next own' rest' at' e f g =
          rw (e, f, g)
          (record {
            few = omega arith;
            sum = omega (arith, h.sum, total_step s 4 (pairs s) i l);
            own_in = joined_in at len sofar_more this own h.own_in (mine s) h.own_is here;
            rest_in = joined_in at len sofar_more (not this) rest h.rest_in (λ o. not (mine s o)) h.rest_is (λ o k m. ap not (here o k m));
            own_is = joined_is at len sofar_more this own h.own_in (mine s) h.own_is here;
            rest_is = joined_is at len sofar_more (not this) rest h.rest_in (λ o. not (mine s o)) h.rest_is (λ o k m. ap not (here o k m));
            on = λ o.
                let z : at + len + o ≡ at + (len + o) = omega arith in
                let y : len + o - len ≡ o = omega arith in
                ap (mine s) z ∙ step (len + o) ∙ rw (le-ltb (len + o) len (omega arith), y);
          })

-- ---- all of it

module _ (s : List ℕ) (ok : Scheduled (schedule_at s)) (r : Divided) (i : ℕ) (done : pairs s ≤ i) (h : Sofar s (value r.own) (value r.rest) r.period i) where
  whole : r.period ≡ total (schedule_at s).turns
  whole = omega (arith, h.sum, total_none s 4 (pairs s) i done)

  few : begun r.period (has (value r.own)) r.period ≤ 16
  few =
      let own = owns (schedule_at s).core (schedule_at s).turns in
      let (o, l, e) = named_owns (schedule_at s).core (schedule_at s).turns ok.turns ok.named in
      omega (
        arith,
        begun_same r.period (has (value r.own)) own h.own_is r.period (omega arith),
        subst (λ (P : ℕ). begun P own P ≤ 16) (sym whole) (few_begun (schedule_at s).core (schedule_at s).turns (omega (arith, l)) ok.few),
      )

  pub divides : Divides s r
  divides =
      let (o, l, e) = named_owns (schedule_at s).core (schedule_at s).turns ok.turns ok.named in
      record {
        parted =
            record {
              least = omega (arith, whole, l);
              most = omega (arith, whole, ok.period_most);
              own_in = h.own_in;
              rest_in = h.rest_in;
              apart = λ o l. rw (h.own_is o l) (h.rest_is o l);
              some = (o, omega (arith, whole, l), h.own_is o (omega (arith, whole, l)) ∙ e);
            };
        few = few;
        period = whole;
        own = h.own_is;
      }

-- the program's bus is then the schedule's
pub divided_same : (s : List ℕ) (r : Divided) (b : Bus) → Divides s r → b.period ≡ r.period → b.own ≡ r.own → bus_meant b ≡ unequal_slots (schedule_at s)
divided_same s r b d e f =
    let P = total (schedule_at s).turns in
    let g : b.period ≡ P = e ∙ d.period in
    rw g (owning_same P (omega (arith, d.parted.least, d.period)) (owns_of b) (mine s) (λ o l. ap (λ (x : Set). has (value x) o) f ∙ d.own o (omega (arith, d.period))))

pub same_bus : (a b : RunBus) → a ≡ b → SameBus a b
same_bus a b e = subst (λ (x : RunBus). SameBus a x) e (record { period = refl; most = refl; may = λ e o p l k. refl; wait = λ e o p l k. refl })
