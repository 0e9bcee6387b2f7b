use Rattle.std.proofs.Common.{rules, arith}
use Rattle.std.proofs.lemmas.Grind.{common_steps}
use Rattle.std.proofs.lemmas.Result.{on_err_weaker, on_ok_weaker}
use Rattle.block_traits.proofs.Logs.{FailsIn-more, FailsIn-then, Logs-then}
use Rattle.block_traits.specs.Overwriting.{overwrite_events}
use Rattle.eli_metadata.specs.Place.{replace_events}
use Rattle.resize_kill.specs.Trash.{trash_sectors}
use Rattle.resize_kill.proofs.resizing.move_metadata.Goals as goal

pub returns-in_err-replace_metadata-clause-err : goal.returns-in_err-replace_metadata-clause-err
returns-in_err-replace_metadata-clause-err g c =
    let fails = FailsIn-more (replace_events (g.D.Disk.state c.args.disk.now) c.args.meta.now) (overwrite_events c.args.place (trash_sectors c.args.random.now)) c.in_err-replace_metadata.ensures.err in
    search (rules, fails)

pub returns-clause-ok : goal.returns-clause-ok
returns-clause-ok g c = on_ok_weaker c.destroy.result (Logs-then _ _ c.in_ok-replace_metadata.ensures.ok) c.destroy.ensures.ok

pub returns-clause-err : goal.returns-clause-err
returns-clause-err g c = on_err_weaker c.destroy.result (FailsIn-then _ _ c.in_ok-replace_metadata.ensures.ok) c.destroy.ensures.err

pub returns-in_err-replace_metadata-clause-ok : goal.returns-in_err-replace_metadata-clause-ok
returns-in_err-replace_metadata-clause-ok g c = grind (arith, common_steps) steps 400000

pub returns-in_err-replace_metadata-clause-unasked : goal.returns-in_err-replace_metadata-clause-unasked
returns-in_err-replace_metadata-clause-unasked g c = grind (arith, common_steps) steps 400000

pub returns-clause-unasked : goal.returns-clause-unasked
returns-clause-unasked g c = grind (arith, common_steps) steps 400000
