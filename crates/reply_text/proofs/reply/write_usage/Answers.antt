use Rattle.reply_text.specs.Text.{field, reason_name}
use Rattle.text_page.proofs.Printing.{Puts-failed, Puts-then, PutsPart-more}
use Rattle.reply_text.proofs.reply.write_usage.Goals as goal

pub returns-in_err-write_numbers : goal.returns-in_err-write_numbers
returns-in_err-write_numbers g c =
    let number = rw c.into.ensures at c.in_err-write_numbers.ensures in
    Puts-failed _ _ _ _ _ _ c.from_residual.ensures.0 (PutsPart-more _ (field (reason_name c.args.reason)) number)

pub returns : goal.returns
returns g c =
    let number = rw c.into.ensures at c.in_ok-write_numbers.ensures in
    let name = rw c.reason_name.ensures at c.write_field.ensures in
    Puts-then _ _ _ _ _ _ _ _ _ number name
