-- A set turned so that an offset comes to 0, seen from there.
use mathlib.Core.Path.{◌≡◌, refl, sym, ◌∙◌, ap, subst}
use mathlib.Core.Bool.{Bool, true, false, not, false≢true}
use native.Mathlib.Nat.{mod-eq_of_lt, mod-lt, add-mod_right, mod-add-mod}
use native.Mathlib.Omega.{arith}
use Prim.Native.Nat.{ℕ, ◌+◌, ◌-◌, ◌%◌, ◌≤◌, ◌<◌}
use Rattle.offsets.specs.Sets.{has, turned_by}
use Rattle.offsets.proofs.Members.{same_truth}
use Rattle.offsets.proofs.Turns.{in_turned, from_turned}

-- a place past the period
pub wrapped : (P x : ℕ) → P ≤ x → x < P + P → x % P ≡ x - P
wrapped P x l m = ap (λ (n : ℕ). n % P) (let z : x ≡ (x - P) + P = omega arith in z) ∙ add-mod_right (x - P) P ∙ mod-eq_of_lt (omega arith)

-- place y of the turned set is the offset y cycles after at
pub turned_has : (P at n y : ℕ) → at < P → y < P → has (turned_by P (P - at) n) y ≡ has n ((at + y) % P)
turned_has P at n y l m =
    same_truth _ _
    (λ h. let (o, k, t, e) = from_turned P (P - at) n y h in
    let z : o + (P - at) + at ≡ o + P = omega arith in
    let w : (at + y) % P ≡ o =
    ap (λ (x : ℕ). x % P) (let s : at + y ≡ y + at = omega arith in s) ∙ ap (λ (x : ℕ). (x + at) % P) (sym e)
    ∙ mod-add-mod (o + (P - at)) P at ∙ ap (λ (x : ℕ). x % P) z ∙ add-mod_right o P ∙ mod-eq_of_lt k in
    ap (has n) w ∙ t)
    (λ h. let z : at + y + (P - at) ≡ y + P = omega arith in
    let w : ((at + y) % P + (P - at)) % P ≡ y =
    mod-add-mod (at + y) P (P - at) ∙ ap (λ (x : ℕ). x % P) z ∙ add-mod_right y P ∙ mod-eq_of_lt m in
    subst (λ (x : ℕ). has (turned_by P (P - at) n) x ≡ true) w (in_turned P (P - at) n ((at + y) % P) (mod-lt _ (omega arith)) h))

-- the others are those that are not owned
pub false_of : (t : Bool) → not t ≡ true → t ≡ false
false_of true h = absurd (false≢true h)
false_of false h = refl

pub true_of : (t : Bool) → not t ≡ false → t ≡ true
true_of true h = refl
true_of false h = absurd (false≢true (sym h))
