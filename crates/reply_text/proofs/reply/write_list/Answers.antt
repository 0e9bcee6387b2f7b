use Rattle.text_page.proofs.Printing.{Puts-failed, Puts-then, PutsPart-more}
use Rattle.reply_text.proofs.reply.write_list.Goals as goal

pub returns-in_err-write_rows : goal.returns-in_err-write_rows
returns-in_err-write_rows g c = Puts-failed _ _ _ _ _ _ c.from_residual.ensures.0 (PutsPart-more _ _ c.in_err-write_rows.ensures)

pub returns : goal.returns
returns g c = Puts-then _ _ _ _ _ _ _ _ _ c.in_ok-write_rows.ensures c.put.ensures
