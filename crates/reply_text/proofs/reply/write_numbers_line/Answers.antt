use Rattle.std.proofs.Common.{[], ◌∷◌}
use Rattle.reply_text.specs.Text.{decimal_fields}
use Rattle.text_page.proofs.Printing.{Puts-failed, Puts-then, PutsAll-then, PutsPart-more, PutsPart-then}
use Rattle.reply_text.proofs.reply.write_numbers_line.Goals as goal

pub returns-in_err-put : goal.returns-in_err-put
returns-in_err-put g c =
    Puts-failed _ _ _ _ _ _ c.from_residual.ensures.0 (PutsPart-more _ (10 ∷ []) (PutsPart-more _ (decimal_fields c.args.numbers.now) c.in_err-put.ensures))

pub returns-in_err-write_numbers : goal.returns-in_err-write_numbers
returns-in_err-write_numbers g c =
    Puts-failed _ _ _ _ _ _ c.from_residual-in_err-write_numbers.ensures.0 (PutsPart-more _ (10 ∷ []) (PutsPart-then _ _ c.in_ok-put.ensures c.in_err-write_numbers.ensures))

pub returns : goal.returns
returns g c = Puts-then _ _ _ _ _ _ _ _ _ (PutsAll-then _ _ c.in_ok-put.ensures c.in_ok-write_numbers.ensures) c.put-2.ensures
