use Rattle.shelf.proofs.VerifyRows.{place_loaded, place_unloaded}
use Rattle.shelf.proofs.verifying.find_place.Goals as goal

pub returns-in-Ok : goal.returns-in-Ok
returns-in-Ok g c =
    let e = c.in-Ok.ensures in
    λ disk holding entropy. rw (c.if-restart.false, c.place_in.ensures, c.as_slice.ensures) (place_loaded c.args.line.now c.args.file disk holding entropy _ _ c.in-Ok.bytes e.answer e.within e.keeps e.asked e.unstored)

pub returns-in-Err : goal.returns-in-Err
returns-in-Err g c =
    let e = c.in-Err.ensures in
    λ disk holding entropy. rw (c.if-restart.false, c.without_file.ensures) (place_unloaded c.args.line.now c.args.file disk holding entropy _ _ c.in-Err.refusal e.answer e.word e.cause e.keeps e.asked e.unstored)
