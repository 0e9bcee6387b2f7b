use Rattle.std.proofs.Common.{take}
use Rattle.text_page.specs.Output.{PutsAll}
use Rattle.reply_text.specs.Text.{decimal_fields}
use Rattle.reply_text.proofs.reply.write_numbers.Given as goal

-- the numbers so far were printed
abbrev pub invariant-loop-number : goal.invariant-loop-number
invariant-loop-number g l =
    let state = g.K.Sink.state in
    PutsAll (decimal_fields (take l.number-index l.numbers)) l.initial.page.items (state l.initial.output) l.page.items (state l.output)
