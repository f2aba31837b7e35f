-- What a public function answers and leaves, by the tests it goes through; and what is read off the answer `Ok`.
use mathlib.Core.Path.{◌≡◌, refl, sym, ap}
use mathlib.Core.List.{List, ◌++◌}
use mathlib.Core.Bool.{Bool, true, false, cond, ◌&&◌}
use Prim.Native.Nat.{ℕ, ◌≤◌, ◌<◌}
use native.Mathlib.Omega.{arith}
use native.Mathlib.Nat.{zero-add}
use lib.Dec.{leb}
use lib.ListN.{length, take, drop, length-append}
use lib.Seq.{take-append_seam}
use borrow.Author.Tests.{le-leb, lt-leb}
use Rattle.std.specs.Prelude.{Result, Ok, Err}
use Rattle.text.specs.declared.Unlisted.{Unlisted}
use Rattle.text.specs.Text.{figure_lines}
use Rattle.text.specs.Buffer.{put, Wrote, Read, into_buffer, figures_listed}

-- ---- by the tests

pub listed_short : (text out : List ℕ) → length out < 8192 → into_buffer text out ≡ (Err Unlisted.Short, out)
unfolding into_buffer
listed_short text out h = rw (lt-leb 8192 (length out) h)

pub listed_bytes : {after : List ℕ} {n : ℕ} (text out : List ℕ) → 8192 ≤ length out → Wrote out 0 text after n → into_buffer text out ≡ (Ok n, after)
unfolding into_buffer put
listed_bytes {after} {n} text out h w = rw (le-leb 8192 (length out) h, w.bytes, w.ends, zero-add (length text))

module _ (tight published exits period : ℕ) (table out : List ℕ) where
  pub figures_long : 256 < period → figures_listed tight published exits period table out ≡ (Err Unlisted.NoTable, out)
  unfolding figures_listed
  figures_long h = rw (lt-leb period 256 h)

  pub figures_lacking : period ≤ 256 → length table < period → figures_listed tight published exits period table out ≡ (Err Unlisted.NoTable, out)
  unfolding figures_listed
  figures_lacking h g = rw (le-leb period 256 h, lt-leb period (length table) g)

  pub figures_listed_lem : period ≤ 256 → period ≤ length table
      → figures_listed tight published exits period table out ≡ into_buffer (figure_lines tight published exits period table) out
  unfolding figures_listed
  figures_listed_lem h g = rw (le-leb period 256 h, le-leb period (length table) g)

-- ---- by the answer

-- `Ok n`: the text is the first n bytes, and the rest is unchanged
read : (b : Bool) (text out after : List ℕ) (n : ℕ)
    → ◌≡◌ {A = Result ℕ Unlisted × List ℕ} (cond b (Ok (length text), text ++ drop (length text) out) (Err Unlisted.Short, out)) (Ok n, after)
    → Read text out after n
read true text out after n e =
    let p : Ok (length text) ≡ Ok n = ap (λ (x : Result ℕ Unlisted × List ℕ). x.0) e in
    record { count = cc; bytes = sym (ap (λ (x : Result ℕ Unlisted × List ℕ). x.1) e) }
read false text out after n e =
    let p : Err Unlisted.Short ≡ Ok n = ap (λ (x : Result ℕ Unlisted × List ℕ). x.0) e in
    absurd (cc)

pub listed_read : (text out after : List ℕ) (n : ℕ) (w : Result ℕ Unlisted) → into_buffer text out ≡ (w, after) → w ≡ Ok n → Read text out after n
unfolding into_buffer
listed_read text out after n w e h = read (leb 8192 (length out)) text out after n (rw h at e)

pub read_within : (text out after : List ℕ) (n : ℕ) → Read text out after n → n ≤ length after
read_within text out after n r = rw (r.count, r.bytes, length-append) (omega arith)

pub read_text : (text out after : List ℕ) (n : ℕ) → Read text out after n → take n after ≡ text
read_text text out after n r = rw (r.count, r.bytes) (take-append_seam text (drop (length text) out))

-- the figures were listed, so the period and the table fit
figured : (b : Bool) (text out after : List ℕ) (n : ℕ)
    → ◌≡◌ {A = Result ℕ Unlisted × List ℕ} (cond b (into_buffer text out) (Err Unlisted.NoTable, out)) (Ok n, after) → Read text out after n
figured true text out after n e = listed_read text out after n (Ok n) e refl
figured false text out after n e =
    let p : Err Unlisted.NoTable ≡ Ok n = ap (λ (x : Result ℕ Unlisted × List ℕ). x.0) e in
    absurd (cc)

pub figures_read : (tight published exits period : ℕ) (table out after : List ℕ) (n : ℕ) (w : Result ℕ Unlisted)
    → figures_listed tight published exits period table out ≡ (w, after) → w ≡ Ok n
    → Read (figure_lines tight published exits period table) out after n
unfolding figures_listed
figures_read tight published exits period table out after n w e h =
    figured (leb period 256 && leb period (length table)) (figure_lines tight published exits period table) out after n (rw h at e)
