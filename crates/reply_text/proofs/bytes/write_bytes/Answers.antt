use Rattle.std.proofs.Common.{◌≡◌, ◌+◌, ◌-◌, arith}
use Rattle.reply_text.proofs.Pieces.{encode-nothing, encode-more, encode-split}
use Rattle.text_page.proofs.Printing.{Puts-failed, PutsAll-nothing, PutsAll-then, PutsPart-more, PutsPart-then}
use Rattle.reply_text.proofs.bytes.write_bytes.Goals as goal

pub pieces-init : goal.pieces-init
pieces-init g c = record { inside = omega arith; took = rw encode-nothing (PutsAll-nothing _ _) }

pub returns-in_err-write_piece : goal.returns-in_err-write_piece
returns-in_err-write_piece g c =
    let given = c.pieces.given in
    let count = c.min-count.result in
    let len : given + count - given ≡ count = omega arith in
    let part = rw len at c.in_err-write_piece.ensures in
    rw (encode-split c.args.bytes.now (given + count), encode-more c.args.bytes.now given count)
    (Puts-failed _ _ _ _ _ _ c.from_residual.ensures.0 (PutsPart-more _ _ (PutsPart-then _ _ c.pieces.invariant.took part)))

pub pieces-preserved : goal.pieces-preserved
pieces-preserved g c =
    let given = c.pieces.given in
    let count = c.min-count.result in
    let len : given + count - given ≡ count = omega arith in
    let piece = rw len at c.in_ok-write_piece.ensures in
    record {
      inside = omega (arith, c.min-count.ensures);
      took = rw (encode-more c.args.bytes.now given count) (PutsAll-then _ _ c.pieces.invariant.took piece);
    }
