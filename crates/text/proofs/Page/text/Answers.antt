use borrow.Author.Rules.{rules}
use mathlib.Core.Path.{refl}
use Rattle.text.proofs.Puts.{wrote_text}
use Rattle.text.proofs.Page.text.Goals as goal

pub returns : goal.returns
returns c =
    let p = c.args.self.now in
    record { same_buffer = refl; same_length = search rules; wrote = wrote_text p.out.now p.at c.args.text.now _ c.copy_from_slice.ensures.after }
