use Rattle.std.proofs.Common.{sym}
use Rattle.geli_core.proofs.Running.{turns_command}
use Rattle.geli_core.proofs.site.Site.serve_command.Goals as goal

pub returns-clause-serves : goal.returns-clause-serves
returns-clause-serves g c =
    let prints = rw c.payload.ensures at c.print-end.ensures in
    let stays = c.forget_unless.ensures.stays in
    λ sep says. rw (c.forget_unless.ensures.drawers, stays.0, stays.1, stays.2) (turns_command sep c.args.line.now c.args.command.now _ _ _ _ _ _ (sym says) c.serve-reply.ensures.turn prints)
