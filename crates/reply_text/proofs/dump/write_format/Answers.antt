use Rattle.text_page.proofs.Printing.{Puts-failed, Puts-then, PutsAll-then, PutsPart-more, PutsPart-then}
use Rattle.reply_text.proofs.dump.write_format.Goals as goal

pub returns-in_err-write_number_line : goal.returns-in_err-write_number_line
returns-in_err-write_number_line g c = Puts-failed _ _ _ _ _ _ c.from_residual.ensures.0 (PutsPart-more _ _ (PutsPart-more _ _ (PutsPart-more _ _ (PutsPart-more _ _ c.in_err-write_number_line.ensures))))

pub returns-in_err-write_hexadecimal_line : goal.returns-in_err-write_hexadecimal_line
returns-in_err-write_hexadecimal_line g c = Puts-failed _ _ _ _ _ _ c.from_residual-in_err-write_hexadecimal_line.ensures.0 (PutsPart-more _ _ (PutsPart-more _ _ (PutsPart-more _ _ (PutsPart-then _ _ c.in_ok-write_number_line.ensures c.in_err-write_hexadecimal_line.ensures))))

pub returns-in_err-write_number_line-2 : goal.returns-in_err-write_number_line-2
returns-in_err-write_number_line-2 g c = Puts-failed _ _ _ _ _ _ c.from_residual-in_err-write_number_line-2.ensures.0 (PutsPart-more _ _ (PutsPart-more _ _ (PutsPart-then _ _ (PutsAll-then _ _ c.in_ok-write_number_line.ensures c.in_ok-write_hexadecimal_line.ensures) c.in_err-write_number_line-2.ensures)))

pub returns-in_err-write_number_line-3 : goal.returns-in_err-write_number_line-3
returns-in_err-write_number_line-3 g c = Puts-failed _ _ _ _ _ _ c.from_residual-in_err-write_number_line-3.ensures.0 (PutsPart-more _ _ (PutsPart-then _ _ (PutsAll-then _ _ (PutsAll-then _ _ c.in_ok-write_number_line.ensures c.in_ok-write_hexadecimal_line.ensures) c.in_ok-write_number_line-2.ensures) c.in_err-write_number_line-3.ensures))

pub returns : goal.returns
returns g c = Puts-then _ _ _ _ _ _ _ _ _ (PutsAll-then _ _ (PutsAll-then _ _ (PutsAll-then _ _ c.in_ok-write_number_line.ensures c.in_ok-write_hexadecimal_line.ensures) c.in_ok-write_number_line-2.ensures) c.in_ok-write_number_line-3.ensures) c.write_number_line-4.ensures
