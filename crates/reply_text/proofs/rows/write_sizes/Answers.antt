use Rattle.reply_text.specs.Text.{sizes_of}
use Rattle.text_page.proofs.Printing.{Puts-failed, Puts-then, PutsPart-more}
use Rattle.reply_text.proofs.rows.write_sizes.Goals as goal

pub returns-in_err-put : goal.returns-in_err-put
returns-in_err-put g c = Puts-failed _ _ _ _ _ _ c.from_residual.ensures.0 (PutsPart-more _ (sizes_of c.args.row.now) c.in_err-put.ensures)

pub returns : goal.returns
returns g c = Puts-then _ _ _ _ _ _ _ _ _ c.in_ok-put.ensures (rw c.into.ensures at c.write_numbers.ensures)
