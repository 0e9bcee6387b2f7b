use Rattle.std.proofs.Common.{take}
use Rattle.text_page.specs.Output.{PutsAll}
use Rattle.reply_text.specs.Text.{bad_lines, numbers_in}
use Rattle.reply_text.proofs.verified.write_offsets.Given as goal

-- the lines so far were printed
abbrev pub invariant-loop-i : goal.invariant-loop-i
invariant-loop-i g l =
    let state = g.K.Sink.state in
    PutsAll (bad_lines (take l.i (numbers_in l.bad l.payload))) l.initial.page.items (state l.initial.output) l.page.items (state l.output)
