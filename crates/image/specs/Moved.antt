-- A verdict on an image that has d bytes more before what was judged. Definitions only.
use Rattle.std.specs.Prelude.{ℕ, ◌+◌, Result, Ok, Err}
use Rattle.refusals.specs.declared.Refused.{Refused}
use Rattle.refusals.specs.Refusals.{refused_at}
use Rattle.image.specs.declared.Outline.{Outline}

-- the same task, or the same refusal d bytes further on
abbrev pub moved : ℕ → Result Outline Refused → Result Outline Refused
moved d (Ok t) = Ok t
moved d (Err e) = Err (refused_at e.refusal (e.place + d))
