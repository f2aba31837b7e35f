use mathlib.Core.Path.{◌≡◌, sym}
use lib.ListN.{take}
use lib.Seq.{length-take-le}
use native.Mathlib.Omega.{arith}
use Rattle.listing.specs.Listings.{listing_of}
use Rattle.text.proofs.Answers.{listed_read, read_within, read_text}
use Rattle.figure.proofs.Whole.{always_bytes}
use Rattle.figure.proofs.put_listing.Goals as goal

-- The listing is no longer than the buffer, so its part of the buffer may be written; the buffer has room, so that there always is a listing.
pub slice_bounds-out-end : goal.slice_bounds-out-end
slice_bounds-out-end g c =
    let l = c.listing-listed in
    let most = read_within _ _ _ _ (listed_read _ _ l.new.out c.in-Ok.k l.result l.ensures c.in-Ok.is) in omega (arith, most)

pub slice_bounds-write_all-end : goal.slice_bounds-write_all-end
slice_bounds-write_all-end g c =
    let l = c.listing-listed in
    let most = read_within _ _ _ _ (listed_read _ _ l.new.out c.in-Ok.k l.result l.ensures c.in-Ok.is) in
    sym (length-take-le _ l.new.out (omega (arith, most)))

pub returns-in-Ok : goal.returns-in-Ok
returns-in-Ok g c =
    let l = c.listing-listed in
    let whole : take c.in-Ok.k l.new.out ≡ listing_of c.args.image.now =
    read_text _ _ l.new.out c.in-Ok.k (listed_read _ _ l.new.out c.in-Ok.k l.result l.ensures c.in-Ok.is) in
    rw (← whole) c.write_all.ensures.bytes

pub returns-in-Err : goal.returns-in-Err
returns-in-Err g c =
    let l = c.listing-listed in
    let e = always_bytes _ _ l.new.out l.result (omega arith) l.ensures in
    absurd (cc)
