use Rattle.std.proofs.Common.{◌+◌, arith}
use Rattle.reply_text.proofs.Offsets.{all_lines, lines_behind, next_line, no_lines}
use Rattle.text_page.proofs.Printing.{Puts-failed, PutsAll-nothing, PutsAll-then, PutsPart-more, PutsPart-then}
use Rattle.reply_text.proofs.verified.write_offsets.Goals as goal

pub loop-i-init : goal.loop-i-init
loop-i-init g c = rw (no_lines c.args.bad c.args.payload.now) (PutsAll-nothing _ _)

pub returns-in_err-write_numbers_line : goal.returns-in_err-write_numbers_line
returns-in_err-write_numbers_line g c =
    rw (lines_behind c.args.bad (c.loop-i.i + 1) c.args.payload.now, next_line c.args.bad c.loop-i.i c.args.payload.now c.number_at.result c.loop-i-test.true c.number_at.ensures)
    (Puts-failed _ _ _ _ _ _ c.from_residual.ensures.0 (PutsPart-more _ _ (PutsPart-then _ _ c.loop-i.invariant c.in_err-write_numbers_line.ensures)))

pub loop-i-preserved : goal.loop-i-preserved
loop-i-preserved g c =
    rw (next_line c.args.bad c.loop-i.i c.args.payload.now c.number_at.result c.loop-i-test.true c.number_at.ensures)
    (PutsAll-then _ _ c.loop-i.invariant c.in_ok-write_numbers_line.ensures)

pub returns : goal.returns
returns g c = rw (← all_lines c.args.bad c.loop-i.i c.args.payload.now (omega arith)) c.loop-i.invariant
