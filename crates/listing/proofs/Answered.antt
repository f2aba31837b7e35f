-- The lines of an answer that equals its definition are the listing.
use mathlib.Core.Path.{◌≡◌, sym, ◌∙◌, ap, ap₂}
use mathlib.Core.List.{List}
use lib.ListN.{length}
use native.Mathlib.Omega.{arith}
use Prim.Native.Nat.{ℕ, ◌≤◌}
use Rattle.std.specs.Prelude.{Result as Outcome, Ok, Err}
use Rattle.refusals.specs.Refusals.{number_of}
use Rattle.refusals.specs.declared.Refused.{Refused}
use Rattle.answers.specs.declared.Totals.{Totals}
use Rattle.answers.specs.Answers.{Result, result_of}
use Rattle.answers.specs.Promise.{Equal}
use Rattle.text.specs.declared.Unlisted.{Unlisted}
use Rattle.text.specs.Buffer.{into_buffer, refused_listed, figures_listed}
use Rattle.text.proofs.Answers.{figures_listed_lem}
use Rattle.listing.specs.Listings.{text_of, lent, listing_of}

module _ (s table : List ℕ) (a : Outcome Totals Refused) (e : Equal s lent a table) (out : List ℕ) where
  lines : into_buffer (listing_of s) out ≡ into_buffer (text_of (result_of a) table) out
  unfolding listing_of
  lines = ap₂ (λ (r : Result) (t : List ℕ). into_buffer (text_of r t) out) (sym e.result) (sym e.table)

  pub lists_refused : (r : Refused) (n : ℕ) (w : Outcome ℕ Unlisted) (after : List ℕ) → a ≡ Err r → n ≡ number_of r.refusal
      → refused_listed n r.place out ≡ (w, after) → into_buffer (listing_of s) out ≡ (w, after)
  lists_refused r n w after g is h =
      lines ∙ ap (λ (x : Outcome Totals Refused). into_buffer (text_of (result_of x) table) out) g ∙ ap (λ (m : ℕ). refused_listed m r.place out) (sym is) ∙ h

  pub lists_given : (f : Totals) (w : Outcome ℕ Unlisted) (after : List ℕ) → a ≡ Ok f → 256 ≤ length table
      → figures_listed f.tight f.published f.exits 256 table out ≡ (w, after) → into_buffer (listing_of s) out ≡ (w, after)
  lists_given f w after g long h =
      lines ∙ ap (λ (x : Outcome Totals Refused). into_buffer (text_of (result_of x) table) out) g
      ∙ sym (figures_listed_lem f.tight f.published f.exits 256 table out (omega arith) long) ∙ h
