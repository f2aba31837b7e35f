-- The state and its 51 bytes say the same: from one to the other and back, and byte by byte.
use mathlib.Core.Path.{◌≡◌, refl, sym, ◌∙◌, ap, ap₂}
use mathlib.Core.List.{List, [], ◌∷◌, ◌++◌, append_assoc}
use native.Mathlib.Numerals.{add-one}
use native.Mathlib.Omega.{arith}
use lib.ListN.{length, get_or, set, take, drop, length-set}
use lib.Seq.{take-suc, take-suc-set, take_all}
use Prim.Native.Nat.{ℕ, zero, suc, ◌+◌, ◌*◌, ◌≤◌, ◌<◌}
use Rattle.device.specs.declared.Arbiter.{Arbiter}
use Rattle.device.specs.declared.Registers.{Registers}
use Rattle.device.specs.Device.{clear}
use Rattle.lent.specs.Bytes.{flat, bytes_of, registers_in, state_of}

-- ---- there and back

cut_flat : (rs : List Registers) → registers_in (flat rs) ≡ rs
unfolding flat registers_in
cut_flat [] = refl
cut_flat (r ∷ rs) = ap (λ (xs : List Registers). r ∷ xs) (cut_flat rs)

flat_cut : (n : ℕ) (s : List ℕ) → length s ≡ 3 * n → flat (registers_in s) ≡ s
unfolding flat registers_in
flat_cut n [] e = refl
flat_cut zero (l ∷ s) e = absurd (omega arith)
flat_cut (suc n) (l ∷ []) e = absurd (omega arith)
flat_cut (suc n) (l ∷ f ∷ []) e = absurd (omega arith)
flat_cut (suc n) (l ∷ f ∷ m ∷ s) e = ap (λ (xs : List ℕ). l ∷ f ∷ m ∷ xs) (flat_cut n s (omega arith))

-- the bytes of a state say that state
pub state_again : (a : Arbiter) → state_of (bytes_of a) ≡ a
unfolding state_of bytes_of
state_again a = rw (cut_flat a.registers)

-- a list by its first three
three_first : (s : List ℕ) → 3 ≤ length s → s ≡ get_or s 0 0 ∷ get_or s 1 0 ∷ get_or s 2 0 ∷ drop 3 s
three_first [] h = absurd (omega arith)
three_first (a ∷ []) h = absurd (omega arith)
three_first (a ∷ b ∷ []) h = absurd (omega arith)
three_first (a ∷ b ∷ c ∷ s) h = refl

rest_length : (s : List ℕ) → length s ≡ 51 → length (drop 3 s) ≡ 3 * 16
rest_length s e = omega (arith, ap (λ (t : List ℕ). length t) (three_first s (omega arith)))

-- 51 bytes are the bytes of the state that they say
pub there_and_back : (s : List ℕ) → length s ≡ 51 → bytes_of (state_of s) ≡ s
unfolding state_of bytes_of
there_and_back s e = rw (flat_cut 16 (drop 3 s) (rest_length s e)) (sym (three_first s (omega arith)))

flat_length : (rs : List Registers) → length (flat rs) ≡ 3 * length rs
unfolding flat
flat_length [] = refl
flat_length (r ∷ rs) = let e = flat_length rs in omega arith

-- the bytes of 16 cores are 51
pub bytes_length : (a : Arbiter) → length a.registers ≡ 16 → length (bytes_of a) ≡ 51
unfolding bytes_of
bytes_length a e = let f = flat_length a.registers in omega arith

-- ---- byte by byte

pub cut_length : (n : ℕ) (s : List ℕ) → length s ≡ 3 * n → length (registers_in s) ≡ n
unfolding registers_in
cut_length zero [] e = refl
cut_length zero (l ∷ s) e = absurd (omega arith)
cut_length (suc n) [] e = absurd (omega arith)
cut_length (suc n) (l ∷ []) e = absurd (omega arith)
cut_length (suc n) (l ∷ f ∷ []) e = absurd (omega arith)
cut_length (suc n) (l ∷ f ∷ m ∷ s) e = ap suc (cut_length n s (omega arith))

-- the registers that three bytes from a place on say
abbrev pub core_at : List ℕ → ℕ → Registers
core_at s k = record { length = get_or s k 0; flags = get_or s (suc k) 0; mask = get_or s (suc (suc k)) 0 }

cut_at : (n : ℕ) (s : List ℕ) → length s ≡ 3 * n → (i : ℕ) → i < n → get_or (registers_in s) i clear ≡ core_at s (3 * i)
unfolding registers_in
cut_at zero s e i h = absurd (omega arith)
cut_at (suc n) [] e i h = absurd (omega arith)
cut_at (suc n) (l ∷ []) e i h = absurd (omega arith)
cut_at (suc n) (l ∷ f ∷ []) e i h = absurd (omega arith)
cut_at (suc n) (l ∷ f ∷ m ∷ s) e zero h = refl
cut_at (suc n) (l ∷ f ∷ m ∷ s) e (suc i) h =
    cut_at n s (omega arith) i (omega arith) ∙ ap (core_at (l ∷ f ∷ m ∷ s)) (let z : suc (suc (suc (3 * i))) ≡ 3 * suc i = omega arith in z)

behind_three : (s : List ℕ) → 3 ≤ length s → (k : ℕ) → core_at (drop 3 s) k ≡ core_at s (suc (suc (suc k)))
behind_three [] h k = absurd (omega arith)
behind_three (a ∷ []) h k = absurd (omega arith)
behind_three (a ∷ b ∷ []) h k = absurd (omega arith)
behind_three (a ∷ b ∷ c ∷ s) h k = refl

-- the registers that 51 bytes say: 16 cores, and core i stands at 3 + 3 × i
pub cores_length : (s : List ℕ) → length s ≡ 51 → length (registers_in (drop 3 s)) ≡ 16
cores_length s e = cut_length 16 (drop 3 s) (rest_length s e)

pub core_said : (s : List ℕ) → length s ≡ 51 → (i : ℕ) → i < 16 → get_or (registers_in (drop 3 s)) i clear ≡ core_at s (3 + 3 * i)
core_said s e i h =
    cut_at 16 (drop 3 s) (rest_length s e) i h ∙ behind_three s (omega arith) (3 * i)
    ∙ ap (core_at s) (let z : suc (suc (suc (3 * i))) ≡ 3 + 3 * i = omega arith in z)

-- one more taken over from another list
pub taken_set : (xs ys : List Registers) (i : ℕ) → i < length xs → i < length ys → take i xs ≡ take i ys
    → take (i + 1) (set xs i (get_or ys i clear)) ≡ take (i + 1) ys
taken_set xs ys i h k e = rw (add-one, take-suc-set xs i (get_or ys i clear) h, e, take-suc ys i clear k)

-- three bytes set from a place on, as `put` sets them
abbrev pub three : List ℕ → ℕ → ℕ → ℕ → ℕ → List ℕ
three b k x y z = set (set (set b k x) (k + 1) y) (k + 2) z

pub length_three : (b : List ℕ) (k x y z : ℕ) → length (three b k x y z) ≡ length b
length_three b k x y z =
    length-set (set (set b k x) (k + 1) y) (k + 2) z ∙ length-set (set b k x) (k + 1) y ∙ length-set b k x

pub take_three : (b : List ℕ) (k x y z : ℕ) → k + 3 ≤ length b → take (k + 3) (three b k x y z) ≡ take k b ++ (x ∷ y ∷ z ∷ [])
take_three b k x y z h =
    let b₁ = set b k x in
    let b₂ = set b₁ (k + 1) y in
    let l₁ : length b₁ ≡ length b = length-set b k x in
    let l₂ : length b₂ ≡ length b₁ = length-set b₁ (k + 1) y in
    let e₁ : take (suc k) b₁ ≡ take k b ++ (x ∷ []) = take-suc-set b k x (omega arith) in
    let e₂ : take (suc (k + 1)) b₂ ≡ take (k + 1) b₁ ++ (y ∷ []) = take-suc-set b₁ (k + 1) y (omega arith) in
    let e₃ : take (suc (k + 2)) (set b₂ (k + 2) z) ≡ take (k + 2) b₂ ++ (z ∷ []) = take-suc-set b₂ (k + 2) z (omega arith) in
    let n₁ : k + 1 ≡ suc k = omega arith in
    let n₂ : k + 2 ≡ suc (k + 1) = omega arith in
    let n₃ : k + 3 ≡ suc (k + 2) = omega arith in
    ap (λ (n : ℕ). take n (set b₂ (k + 2) z)) n₃ ∙ e₃
    ∙ ap (λ (xs : List ℕ). xs ++ (z ∷ [])) (ap (λ (n : ℕ). take n b₂) n₂ ∙ e₂ ∙ ap (λ (xs : List ℕ). xs ++ (y ∷ [])) (ap (λ (n : ℕ). take n b₁) n₁ ∙ e₁))
    ∙ append_assoc (take k b ++ (x ∷ [])) (y ∷ []) (z ∷ []) ∙ append_assoc (take k b) (x ∷ []) (y ∷ z ∷ [])

flat_append : (rs ts : List Registers) → flat (rs ++ ts) ≡ flat rs ++ flat ts
unfolding flat
flat_append [] ts = refl
flat_append (r ∷ rs) ts = ap (λ (xs : List ℕ). r.length ∷ r.flags ∷ r.mask ∷ xs) (flat_append rs ts)

flat_more : (rs : List Registers) (i : ℕ) → i < length rs
    → flat (take (i + 1) rs) ≡ flat (take i rs) ++ ((get_or rs i clear).length ∷ (get_or rs i clear).flags ∷ (get_or rs i clear).mask ∷ [])
unfolding flat
flat_more rs i h = rw (add-one, take-suc rs i clear h) (flat_append (take i rs) (get_or rs i clear ∷ []))

-- the bytes of one core more, behind the first three
pub core_set : (start b : List ℕ) (rs : List Registers) (i : ℕ) → i < length rs → 3 + 3 * i + 3 ≤ length b
    → take (3 + 3 * i) b ≡ start ++ flat (take i rs)
    → take (3 + 3 * (i + 1)) (three b (3 + 3 * i) (get_or rs i clear).length (get_or rs i clear).flags (get_or rs i clear).mask) ≡ start ++ flat (take (i + 1) rs)
core_set start b rs i h k e =
    let r = get_or rs i clear in
    let one : List ℕ = r.length ∷ r.flags ∷ r.mask ∷ [] in
    let n : 3 + 3 * (i + 1) ≡ 3 + 3 * i + 3 = omega arith in
    ap (λ (m : ℕ). take m (three b (3 + 3 * i) r.length r.flags r.mask)) n
    ∙ take_three b (3 + 3 * i) r.length r.flags r.mask k
    ∙ ap (λ (xs : List ℕ). xs ++ one) e
    ∙ append_assoc start (flat (take i rs)) one
    ∙ ap (λ (xs : List ℕ). start ++ xs) (sym (flat_more rs i h))

-- all of them, behind the first three
pub all_set : (a : Arbiter) (b₀ b₁ b : List ℕ) (i : ℕ) → b₁ ≡ three b₀ 0 a.cores a.slot a.offset → 3 ≤ length b₀
    → length a.registers ≡ 16 → length b ≡ 51 → i ≡ 16 → take (3 + 3 * i) b ≡ take 3 b₁ ++ flat (take i a.registers) → b ≡ bytes_of a
unfolding bytes_of
all_set a b₀ b₁ b i e h l m k f =
    let first : take 3 b₁ ≡ a.cores ∷ a.slot ∷ a.offset ∷ [] = ap (take 3) e ∙ take_three b₀ 0 a.cores a.slot a.offset h in
    sym (take_all (3 + 3 * i) b (omega arith)) ∙ f ∙ ap₂ (λ (xs ys : List ℕ). xs ++ ys) first (ap flat (take_all i a.registers (omega arith)))
