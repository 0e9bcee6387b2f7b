-- What the row left, by what the drawer holds.
use Rattle.std.proofs.Common.{ap}
use Rattle.reply_text.specs.Answer.{answer_of}
use Rattle.nbd_run.proofs.Attached.{attached_so, idle_so, is_refusal, refused_so, suspended_so}
use Rattle.nbd_run.proofs.attaching.attach.Goals as goal

pub returns-in-Attached-clause-attaches : goal.returns-in-Attached-clause-attaches
returns-in-Attached-clause-attaches g c =
    attached_so g.D.Disk.state c.args.asked.now.line.items c.as_slice-line.result.now c.args.asked.now.command (g.D.Disk.state c.args.disk) _ _ _ c.serve-drawer.result.0.held _ _
    c.as_slice-line.ensures.value c.requires.verb c.serve-drawer.ensures.serves c.in-Attached.provider c.in-Attached.field-1 c.in-Attached.is

pub unreachable-requires : goal.unreachable-requires
unreachable-requires g c =
    suspended_so g.D.Disk.state c.args.asked.now.line.items c.as_slice-line.result.now c.args.asked.now.command (g.D.Disk.state c.args.disk) _ _ _ c.serve-drawer.result.0.held _ _
    c.as_slice-line.ensures.value c.requires.verb c.serve-drawer.ensures.serves c.in-Suspended.field-0 c.in-Suspended.field-1 c.in-Suspended.is

pub refusal_in-requires : goal.refusal_in-requires
refusal_in-requires g c =
    let h = refused_so g.D.Disk.state c.args.asked.now.line.items c.as_slice-line.result.now c.args.asked.now.command (g.D.Disk.state c.args.disk) _ _ _ c.serve-drawer.result.0.held _ _
    c.as_slice-line.ensures.value c.requires.verb c.serve-drawer.ensures.serves c.in-Idle.disk c.in-Idle.is in
    is_refusal c.serve-drawer.new.buffer c.serve-drawer.result.1 h.0 h.1

pub returns-in-Idle-clause-refuses : goal.returns-in-Idle-clause-refuses
returns-in-Idle-clause-refuses g c =
    idle_so g.D.Disk.state c.args.asked.now.line.items c.as_slice-line.result.now c.args.asked.now.command (g.D.Disk.state c.args.disk) _ _ _ c.serve-drawer.result.0.held _ _
    c.as_slice-line.ensures.value c.requires.verb c.serve-drawer.ensures.serves c.in-Idle.disk c.refusal_in.result c.in-Idle.is (ap (answer_of c.serve-drawer.new.buffer) c.refusal_in.ensures)
