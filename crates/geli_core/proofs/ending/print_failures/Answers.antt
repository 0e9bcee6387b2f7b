use Rattle.text_page.proofs.Printing.{Prints-failed, TookAll-nothing, TookAll-then, TookPart-more, TookPart-then}
use Rattle.geli_core.proofs.Endings.{failures_text-more, failures_text-split}
use Rattle.geli_core.proofs.ending.print_failures.Goals as goal

pub loop-printed-init : goal.loop-printed-init
loop-printed-init g c = TookAll-nothing _

pub returns-in_err-write_reply-clause-prints : goal.returns-in_err-write_reply-clause-prints
returns-in_err-write_reply-clause-prints g c =
    rw (failures_text-split c.loop-printed.printed c.args.failed c.loop-printed-test.true)
    (Prints-failed _ _ _ _ c.from_residual.ensures.0 (TookPart-more _ _ (TookPart-then _ _ c.loop-printed.invariant c.in_err-write_reply.ensures)))

pub loop-printed-preserved : goal.loop-printed-preserved
loop-printed-preserved g c = rw (failures_text-more c.loop-printed.printed) (TookAll-then _ _ c.loop-printed.invariant c.in_ok-write_reply.ensures)
