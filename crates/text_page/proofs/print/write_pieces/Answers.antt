use Rattle.std.proofs.Common.{◌+◌, []}
use Rattle.text_page.proofs.Printing.{Puts-failed, PutsAll-then, PutsPart-more, PutsPart-then, concat-more, concat-split}
use Rattle.text_page.proofs.print.write_pieces.Goals as goal

pub returns-in_err-put : goal.returns-in_err-put
returns-in_err-put g c =
    let place = c.loop-piece.piece-index in
    rw (concat-split (λ piece. piece.now) c.args.pieces.now (place + 1), concat-more (λ piece. piece.now) c.args.pieces.now place (record { ref_ptr = (0, 0); now = [] }) c.loop-piece-test.true)
    (Puts-failed _ _ _ _ _ _ c.from_residual.ensures.0 (PutsPart-more _ _ (PutsPart-then _ _ c.loop-piece.invariant c.in_err-put.ensures)))

pub loop-piece-preserved : goal.loop-piece-preserved
loop-piece-preserved g c =
    rw (concat-more (λ piece. piece.now) c.args.pieces.now c.loop-piece.piece-index (record { ref_ptr = (0, 0); now = [] }) c.loop-piece-test.true)
    (PutsAll-then _ _ c.loop-piece.invariant c.in_ok-put.ensures)
