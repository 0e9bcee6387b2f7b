use Rattle.std.proofs.Common.{◌+◌}
use Rattle.std.specs.Fmt.{decimal}
use Rattle.reply_text.specs.Text.{decimal_fields, field}
use Rattle.text_page.proofs.Printing.{Puts-failed, PutsAll-nothing, PutsAll-then, PutsPart-more, PutsPart-then, concat-more, concat-split}
use Rattle.reply_text.proofs.reply.write_numbers.Goals as goal

pub loop-number-init : goal.loop-number-init
unfolding decimal_fields
loop-number-init g c = PutsAll-nothing _ _

pub returns-in_err-write_number_field : goal.returns-in_err-write_number_field
unfolding decimal_fields
returns-in_err-write_number_field g c =
    let place = c.loop-number.number-index in
    rw (concat-split (λ number. field (decimal number)) c.args.numbers.now (place + 1), concat-more (λ number. field (decimal number)) c.args.numbers.now place 0 c.loop-number-test.true)
    (Puts-failed _ _ _ _ _ _ c.from_residual.ensures.0 (PutsPart-more _ _ (PutsPart-then _ _ c.loop-number.invariant c.in_err-write_number_field.ensures)))

pub loop-number-preserved : goal.loop-number-preserved
unfolding decimal_fields
loop-number-preserved g c =
    rw (concat-more (λ number. field (decimal number)) c.args.numbers.now c.loop-number.number-index 0 c.loop-number-test.true)
    (PutsAll-then _ _ c.loop-number.invariant c.in_ok-write_number_field.ensures)
