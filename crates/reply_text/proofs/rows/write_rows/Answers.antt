use Rattle.std.proofs.Common.{◌+◌}
use Rattle.reply_text.specs.Text.{row_lines, row_text}
use Rattle.text_page.proofs.Printing.{Puts-failed, PutsAll-nothing, PutsAll-then, PutsPart-more, PutsPart-then, concat-more, concat-split}
use Rattle.reply_text.proofs.rows.write_rows.Goals as goal

pub loop-row-init : goal.loop-row-init
unfolding row_lines
loop-row-init g c = PutsAll-nothing _ _

pub returns-in_err-write_row : goal.returns-in_err-write_row
unfolding row_lines
returns-in_err-write_row g c =
    let place = c.loop-row.row-index in
    rw (concat-split row_text c.args.rows.now (place + 1), concat-more row_text c.args.rows.now place c.row-item.result c.loop-row-test.true, ← c.row-item.is)
    (Puts-failed _ _ _ _ _ _ c.from_residual.ensures.0 (PutsPart-more _ _ (PutsPart-then _ _ c.loop-row.invariant c.in_err-write_row.ensures)))

pub loop-row-preserved : goal.loop-row-preserved
unfolding row_lines
loop-row-preserved g c =
    rw (concat-more row_text c.args.rows.now c.loop-row.row-index c.row-item.result c.loop-row-test.true, ← c.row-item.is)
    (PutsAll-then _ _ c.loop-row.invariant c.in_ok-write_row.ensures)
