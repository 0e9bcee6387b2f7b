use Rattle.text_page.proofs.Printing.{Puts-failed, Puts-then, PutsAll-then, PutsPart-more, PutsPart-then}
use Rattle.reply_text.proofs.dump.write_dump.Goals as goal

pub returns-in_err-write_format : goal.returns-in_err-write_format
returns-in_err-write_format g c = Puts-failed _ _ _ _ _ _ c.from_residual.ensures.0 (PutsPart-more _ _ (PutsPart-more _ _ (PutsPart-more _ _ c.in_err-write_format.ensures)))

pub returns-in_err-write_sizes : goal.returns-in_err-write_sizes
returns-in_err-write_sizes g c = Puts-failed _ _ _ _ _ _ c.from_residual-in_err-write_sizes.ensures.0 (PutsPart-more _ _ (PutsPart-more _ _ (PutsPart-then _ _ c.in_ok-write_format.ensures c.in_err-write_sizes.ensures)))

pub returns-in_err-write_keys : goal.returns-in_err-write_keys
returns-in_err-write_keys g c = Puts-failed _ _ _ _ _ _ c.from_residual-in_err-write_keys.ensures.0 (PutsPart-more _ _ (PutsPart-then _ _ (PutsAll-then _ _ c.in_ok-write_format.ensures c.in_ok-write_sizes.ensures) c.in_err-write_keys.ensures))

pub returns : goal.returns
returns g c = Puts-then _ _ _ _ _ _ _ _ _ (PutsAll-then _ _ (PutsAll-then _ _ c.in_ok-write_format.ensures c.in_ok-write_sizes.ensures) c.in_ok-write_keys.ensures) c.put.ensures
