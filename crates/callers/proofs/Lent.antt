-- Steps that the walks over a lent arbiter share: the borrow is opened, a function by value has replied, and the borrow is closed at the state that it returned.
use Prim.Native.Nat.{ℕ}
use mathlib.Core.Path.{◌≡◌, refl}
use mathlib.Core.List.{List, [], ◌∷◌}
use seplogic.Ra.Ura.{Ura}
use base.Fraction.{full_share}
use lib.Dec.{T as Holds}
use mir.Val.{Val, WT, has_ty}
use base.Logic.{SProp, ent}
use base.Stored.{Gv}
use base.Fml.{GName, Lft, Share, ftrue, flft, fobs, fauth, fbor, fobor, fat}
use types.Logic.{Logic}
use contract.Monad.{fact}
use types.Kit.{Goal, Soaks, ◌$◌, Step, step, Item, ‵, raw, some, later, ◌⊛◌, Seq, move, drop, split, pick, await, use1}
use types.SemTy.{Body}
use denote.Laws.{Is, Makes, shows}
use denote.Memory.{mem, cell_at}
use denote.Steps.{opens, closes, owned, peeks, heard, only}
use denote.Struct.Steps.{spelt}
use denote.Struct.Laws as LL
use denote.Enum.Laws as EL
use Rattle.device.specs.declared.Arbiter.{Arbiter}
use Rattle.arbiter.specs.declared.Outcome.{Outcome}
use Rattle.arbiter.specs.Calls.{Reply}
use Rattle.device.specs.contracts.Arbiter as T
use Rattle.device.proofs.Arbiter.TheLaws as T'
use Rattle.arbiter.specs.contracts.Outcome as O
use Rattle.arbiter.proofs.Outcome.TheLaws as O'
use denote.Builtin.{u8}
use denote.RattleType.{RattleType}
use denote.Param.{layout}
use denote.Param.Laws.{Laws, Told, of_field, field_told, struct_told}
use denote.Param.Plain.{enum_plain, struct_plain}
use denote.Param.Shared.{copy_shared}
use denote.Struct.Field.{u8-field}
use denote.Struct.Laws.{u8-laws, u8-copy, u8-plain}
use Rattle.refusals.specs.contracts.Refused as F
use Rattle.std.specs.contracts.option.Option as N
use Rattle.std.specs.contracts.result.Result as E
use Rattle.std.proofs.result.Result.TheLaws as E'
use Rattle.std.proofs.option.Option.TheLaws as N'
use Rattle.refusals.proofs.Refused.TheLaws as F'

-- machine values
abbrev pub state_vals : Arbiter → List Val
state_vals a = LL.vals T.the_type T'.the_laws a

-- the answer's type is std's: its laws from those of a byte, of an `Option` and of a refusal
abbrev byte_laws : Laws u8
byte_laws = of_field u8-field u8-laws refl (copy_shared u8-field u8-copy)

abbrev byte_told : Told u8
byte_told = field_told u8-field u8-laws

abbrev option : RattleType
option = N.the_row u8

abbrev option_laws : Laws option
option_laws = N'.the_row_laws u8 byte_laws

abbrev option_told : Told option
option_told = N'.the_told u8 byte_laws byte_told

abbrev pub reply_row : RattleType
reply_row = E.the_row option F.the_row

abbrev laws : EL.Laws (E.the_type option F.the_row)
laws = E'.the_laws option F.the_row option_laws F'.the_row_laws option_told (struct_told F.the_type F'.the_laws)

abbrev pub reply_val : Reply → Val
reply_val r = EL.val (E.the_type option F.the_row) laws r

-- the state and the reply within an outcome
module _ (r : Outcome) (v : Val) (is : Is O.the_row r (v ∷ [])) where
  pub is_state : Is T.the_row r.state (state_vals r.state)
  is_state = (LL.owed O.the_type O'.the_laws r (v ∷ []) is).0

  pub is_reply : Is reply_row r.reply (reply_val r.reply ∷ [])
  is_reply = (LL.owed O.the_type O'.the_laws r (v ∷ []) is).1.0

module _ {M : Type 1} {𝓤 : Ura M} {𝓛 : Logic 𝓤} {K : Type 0} {Γ : List (Item 𝓤)} {G : Goal 𝓤 𝓛.H} where
  pub opened : K → Soaks G → {κ : Lft} {q : Share} {γ : GName} (h : Arbiter) (b o : ℕ)
      → (Is T.the_row h (state_vals h)
      → Seq K 𝓛 (‵ (cell_at full_share (T.the_row).mir (state_vals h) b o) ∷ ‵ ((T.the_row).own_val h (state_vals h)) ∷ ‵ (fobor κ q (Body (mem T.the_row) b o γ)) ∷ ‵ (fobs γ ((T.the_row).coded.code h)) ∷ ‵ (fauth γ ((T.the_row).coded.code h)) ∷ Γ) G)
      → Seq K 𝓛 (‵ (fobs γ ((T.the_row).coded.code h)) ∷ ‵ (fbor κ (Body (mem T.the_row) b o γ)) ∷ ‵ (flft κ q) ∷ Γ) G
  opened t z h b o k =
      opens t z T.the_row {h = h} b o (λ vs. spelt t T.the_row (Is T.the_row) (shows 𝓛 T.the_row) state_vals (LL.tells T.the_type T'.the_laws) full_share h vs b o $
      move t (1 ∷ []) $ peeks t T.the_row (Is T.the_row) (shows 𝓛 T.the_row) h (state_vals h) (λ was. move t (1 ∷ 0 ∷ []) $ k was))

  -- what a callee by value hands back: an outcome, with what its clause says of it
  pub replied : K → Soaks G → (v : Val) (P : Outcome → SProp 𝓤) (φ : Outcome → Type 0) → ((r : Outcome) → ent 𝓤 (P r) (fact 𝓤 (φ r)))
      → ((r : Outcome) → φ r → Is O.the_row r (v ∷ []) → Seq K 𝓛 (‵ ((O.the_row).own_val r (v ∷ [])) ∷ Γ) G)
      → Seq K 𝓛 (later (some (λ (r : Outcome). (‵ ftrue ⊛ ‵ ((O.the_row).own_val r (v ∷ []))) ⊛ raw (P r))) ∷ Γ) G
  replied t z v P φ got k =
      await t z $ pick t (λ r. split t $ move t (1 ∷ []) $ use1 𝓛 (raw (fact 𝓤 (φ r))) (got r) $ heard t (φ r) (λ e. split t $ drop t $
      peeks t O.the_row (Is O.the_row) (shows 𝓛 O.the_row) r (v ∷ []) (λ is. k r e is)))

  pub closed : K → Soaks G → {κ : Lft} {q : Share} {u w : Gv} {γ : GName} (h : Arbiter) (r : Outcome) (v : Val) → Is O.the_row r (v ∷ []) → (b o : ℕ)
      → Step K 𝓛 (‵ (fobs γ ((T.the_row).coded.code r.state)) ∷ ‵ (fbor κ (Body (mem T.the_row) b o γ)) ∷ ‵ (flft κ q) ∷ Γ) G
      (‵ ((O.the_row).own_val r (v ∷ [])) ∷ ‵ (cell_at full_share (T.the_row).mir (state_vals r.state) b o) ∷ ‵ ((T.the_row).own_val h (state_vals h)) ∷ ‵ (fobor κ q (Body (mem T.the_row) b o γ)) ∷ ‵ (fobs γ u) ∷ ‵ (fauth γ w) ∷ Γ) G
  closed t z h r v is b o = step (λ s. drop t $ move t (1 ∷ []) $ drop t $
      owned t T.the_row (Is T.the_row) (LL.makes T.the_type T'.the_plain 𝓛) r.state _ (is_state r v is) $
      move t (1 ∷ 0 ∷ []) $ closes t z T.the_row r.state (state_vals r.state) b o $ s)

module _ {M : Type 1} {𝓤 : Ura M} (𝓛 : Logic 𝓤) where
  pub state_typed : (a : Arbiter) → Is T.the_row a (state_vals a) → Holds (has_ty T'.mir (LL.val T.the_type T'.the_laws a)) × WT (LL.val T.the_type T'.the_laws a)
  state_typed a is = ((LL.lawful T.the_type T'.the_laws 𝓛).typed a _ is).0

  pub outcome_typed : (r : Outcome) (v : Val) → Is O.the_row r (v ∷ []) → Holds (has_ty O'.mir v) × WT v
  outcome_typed r v is = ((LL.lawful O.the_type O'.the_laws 𝓛).typed r _ is).0

  pub reply_typed : (r : Reply) → Is reply_row r (reply_val r ∷ []) → Holds (has_ty (layout reply_row) (reply_val r)) × WT (reply_val r)
  reply_typed r is = ((EL.lawful (E.the_type option F.the_row) laws 𝓛 tt).typed r _ is).0

-- what a state and a reply own is had for nothing
pub state_makes : {M : Type 1} {𝓤 : Ura M} (𝓛 : Logic 𝓤) → Makes 𝓛 T.the_row (Is T.the_row)
state_makes 𝓛 = LL.makes T.the_type T'.the_plain 𝓛

pub reply_makes : {M : Type 1} {𝓤 : Ura M} (𝓛 : Logic 𝓤) → Makes 𝓛 reply_row (Is reply_row)
reply_makes 𝓛 = EL.makes (E.the_type option F.the_row) (E'.the_plain option F.the_row (enum_plain (N.the_type u8) (N'.the_plain u8 u8-plain)) (struct_plain F.the_type F'.the_plain)) 𝓛

-- the local that holds an outcome, and its machine value written out
abbrev pub outcome_cell : {M : Type 1} (𝓤 : Ura M) → ℕ → List Val → Item 𝓤
outcome_cell 𝓤 l us = ‵ (fat full_share O'.mir l 0 (only us))

pub outcome_tells : (r : Outcome) (v : Val) → Is O.the_row r (v ∷ []) → v ∷ [] ≡ LL.vals O.the_type O'.the_laws r
outcome_tells r v is = LL.tells O.the_type O'.the_laws r (v ∷ []) is
