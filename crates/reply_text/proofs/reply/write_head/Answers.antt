use Rattle.std.specs.Fmt.{decimal}
use Rattle.eli_base.specs.Refusals.{number_of}
use Rattle.reply_text.specs.Text.{field, refusal_name}
use Rattle.text_page.proofs.Printing.{Puts-failed, Puts-then, PutsAll-then, PutsPart-more, PutsPart-then}
use Rattle.reply_text.proofs.reply.write_head.Goals as goal

pub returns-in_err-put : goal.returns-in_err-put
returns-in_err-put g c = Puts-failed _ _ _ _ _ _ c.from_residual.ensures.0 (PutsPart-more _ (field (refusal_name c.args.refusal.now)) (PutsPart-more _ (decimal (number_of c.args.refusal.now)) c.in_err-put.ensures))

pub returns-in_err-write_number : goal.returns-in_err-write_number
returns-in_err-write_number g c =
    let number = rw c.number.ensures at c.in_err-write_number.ensures in
    Puts-failed _ _ _ _ _ _ c.from_residual-in_err-write_number.ensures.0 (PutsPart-more _ (field (refusal_name c.args.refusal.now)) (PutsPart-then _ _ c.in_ok-put.ensures number))

pub returns : goal.returns
returns g c =
    let number = rw c.number.ensures at c.in_ok-write_number.ensures in
    let name = rw c.refusal_name.ensures at c.write_field.ensures in
    Puts-then _ _ _ _ _ _ _ _ _ (PutsAll-then _ _ c.in_ok-put.ensures number) name
