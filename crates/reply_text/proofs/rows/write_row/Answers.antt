use Rattle.std.proofs.Common.{[], ◌∷◌}
use Rattle.reply_text.specs.Text.{row_state}
use Rattle.text_page.proofs.Printing.{Puts-failed, Puts-then, PutsAll-then, PutsPart-more, PutsPart-then}
use Rattle.reply_text.proofs.rows.write_row.Goals as goal

pub returns-in_err-put : goal.returns-in_err-put
returns-in_err-put g c =
    let name = rw c.as_slice.ensures at c.in_err-put.ensures in
    Puts-failed _ _ _ _ _ _ c.from_residual.ensures.0 (PutsPart-more _ (10 ∷ []) (PutsPart-more _ (row_state c.args.row.now) name))

pub returns-in_err-write_state : goal.returns-in_err-write_state
returns-in_err-write_state g c =
    let name = rw c.as_slice.ensures at c.in_ok-put.ensures in
    Puts-failed _ _ _ _ _ _ c.from_residual-in_err-write_state.ensures.0 (PutsPart-more _ (10 ∷ []) (PutsPart-then _ _ name c.in_err-write_state.ensures))

pub returns : goal.returns
returns g c =
    let name = rw c.as_slice.ensures at c.in_ok-put.ensures in
    Puts-then _ _ _ _ _ _ _ _ _ (PutsAll-then _ _ name c.in_ok-write_state.ensures) c.put-2.ensures
