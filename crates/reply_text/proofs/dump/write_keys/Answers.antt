use Rattle.text_page.proofs.Printing.{Puts-failed, Puts-then, PutsAll-then, PutsPart-more, PutsPart-then}
use Rattle.reply_text.proofs.dump.write_keys.Goals as goal

pub returns-in_err-write_iterations : goal.returns-in_err-write_iterations
returns-in_err-write_iterations g c = Puts-failed _ _ _ _ _ _ c.from_residual.ensures.0 (PutsPart-more _ _ (PutsPart-more _ _ c.in_err-write_iterations.ensures))

pub returns-in_err-write_bytes_line : goal.returns-in_err-write_bytes_line
returns-in_err-write_bytes_line g c = Puts-failed _ _ _ _ _ _ c.from_residual-in_err-write_bytes_line.ensures.0 (PutsPart-more _ _ (PutsPart-then _ _ c.in_ok-write_iterations.ensures c.in_err-write_bytes_line.ensures))

pub returns : goal.returns
returns g c = Puts-then _ _ _ _ _ _ _ _ _ (PutsAll-then _ _ c.in_ok-write_iterations.ensures c.in_ok-write_bytes_line.ensures) c.write_bytes_line-2.ensures
