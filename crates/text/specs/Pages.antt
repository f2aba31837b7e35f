-- What the methods of a page ask of it and write on it; no other crate needs it. Definitions only.
use Rattle.std.specs.Prelude.{◌≡◌, List, length, ℕ, ◌+◌, ◌≤◌}
use Rattle.text.specs.declared.Page.{Page}
use Rattle.text.specs.Buffer.{Wrote}

-- n bytes more fit behind what is written
abbrev pub HasRoom : Page → ℕ → Type 0
HasRoom page n = page.at + n ≤ length page.out.now

-- the text was written behind what was written before, in the same buffer
pub record Puts (old new : Page) (text : List ℕ) : Type 0 where
  pub same_buffer : new.out.ghost_name ≡ old.out.ghost_name
  pub same_length : length new.out.now ≡ length old.out.now
  pub wrote : Wrote old.out.now old.at text new.out.now new.at
