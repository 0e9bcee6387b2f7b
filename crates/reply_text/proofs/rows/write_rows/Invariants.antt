use Rattle.std.proofs.Common.{take}
use Rattle.text_page.specs.Output.{PutsAll}
use Rattle.reply_text.specs.Text.{row_lines}
use Rattle.reply_text.proofs.rows.write_rows.Given as goal

-- the lines so far were printed
abbrev pub invariant-loop-row : goal.invariant-loop-row
invariant-loop-row g l =
    let state = g.K.Sink.state in
    PutsAll (row_lines (take l.row-index l.rows)) l.initial.page.items (state l.initial.output) l.page.items (state l.output)
