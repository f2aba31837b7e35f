-- A listing into a buffer that has room for every listing is answered by `Ok`.
use mathlib.Core.Path.{◌≡◌, ap}
use mathlib.Core.List.{List}
use Prim.Native.Nat.{ℕ, ◌≤◌}
use lib.ListN.{length}
use borrow.Author.Tests.{le-leb}
use Rattle.std.specs.Prelude.{Result, Ok}
use Rattle.text.specs.declared.Unlisted.{Unlisted}
use Rattle.text.specs.Buffer.{into_buffer}

pub always_bytes : (text out after : List ℕ) (w : Result ℕ Unlisted) → 8192 ≤ length out → into_buffer text out ≡ (w, after) → Ok (length text) ≡ w
unfolding into_buffer
always_bytes text out after w h e = ap (λ (x : Result ℕ Unlisted × List ℕ). x.0) (rw (le-leb 8192 (length out) h) at e)
