-- Texts put one after the other into a buffer, or on a page of it: the second starts where the first ends, so what is kept before and behind is that of one text.
use mathlib.Core.Path.{◌≡◌, ◌∙◌, refl}
use mathlib.Core.List.{List, [], ◌++◌, append_assoc}
use Prim.Native.Nat.{ℕ, ◌+◌, ◌-◌, ◌≤◌}
use native.Mathlib.Nat.{add_assoc}
use native.Mathlib.Omega.{arith}
use lib.ListN.{length, take, drop, length-append}
use lib.Seq.{take_at, drop_at, length-take-le, drop-drop, paste-zero}
use borrow.Rule.Slice.PartMut.{put_mid}
use Rattle.text.specs.declared.Page.{Page}
use Rattle.text.specs.Buffer.{put, Wrote}
use Rattle.text.specs.Pages.{Puts}

-- the length up to the end of a text
head_length : (out : List ℕ) (at : ℕ) (s : List ℕ) → at ≤ length out → length (take at out ++ s) ≡ at + length s
head_length out at s h = rw (length-append, length-take-le at out h)

-- a text after a text
puts : (out : List ℕ) (at : ℕ) (s t : List ℕ) → at ≤ length out → put (put out at s) (at + length s) t ≡ put out at (s ++ t)
unfolding put
puts out at s t h =
    let e = head_length out at s h in
    let rest = drop (at + length s) out in
    rw (
      take_at (take at out ++ s) rest (at + length s) e,
      ← drop-drop (length t) (at + length s) (take at out ++ s ++ rest),
      drop_at (take at out ++ s) rest (at + length s) e,
      drop-drop (length t) (at + length s) out,
      length-append s t,
      append_assoc (take at out) s t,
      add_assoc at (length s) (length t),
    )

pub wrote_both : {out a b : List ℕ} {at m r : ℕ} (s t : List ℕ) → at ≤ length out → Wrote out at s a m → Wrote a m t b r → Wrote out at (s ++ t) b r
wrote_both {out} {a} {b} {at} {m} {r} s t h p q =
    record {
      ends = rw length-append (omega (arith, p.ends, q.ends));
      bytes = q.bytes ∙ rw (p.bytes, p.ends) (puts out at s t h);
    }

-- nothing put
pub wrote_none : (out : List ℕ) (at : ℕ) → Wrote out at [] out at
unfolding put
wrote_none out at = record { ends = omega arith; bytes = paste-zero out at [] }

-- a text copied into its part of the buffer
pub wrote_text : (out : List ℕ) (at : ℕ) (text part : List ℕ) → part ≡ text
    → Wrote out at text (put_mid at (at + length text - at) out part) (at + length text)
unfolding put
wrote_text out at text part e =
    let k : at + length text - at ≡ length text = omega arith in
    record { ends = refl; bytes = rw (k, e, drop-drop (length text) at out, append_assoc) refl }

-- on a page
pub puts_both : {p q r : Page} (s t : List ℕ) → p.at ≤ length p.out.now → Puts p q s → Puts q r t → Puts p r (s ++ t)
puts_both s t h a b =
    record {
      same_buffer = b.same_buffer ∙ a.same_buffer;
      same_length = b.same_length ∙ a.same_length;
      wrote = wrote_both s t h a.wrote b.wrote;
    }

pub puts_none : (p : Page) → Puts p p []
puts_none p = record { same_buffer = refl; same_length = refl; wrote = wrote_none p.out.now p.at }
