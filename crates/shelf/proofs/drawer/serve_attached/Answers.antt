use Rattle.std.proofs.Common.{refl}
use Rattle.shelf.proofs.PlaceRows.{held_row}
use Rattle.shelf.proofs.Sectors.{flushed, kept_holding}
use Rattle.shelf.proofs.drawer.serve_attached.Goals as goal

pub returns-in-Detach-clause-serves : goal.returns-in-Detach-clause-serves
returns-in-Detach-clause-serves g c = rw c.in-Detach.is (record {
  answer = c.or_device_fault.result;
  row = record {
    flushes = rw c.or_device_fault.ensures (flushed _ _ c.detach-disk.result.1 c.detach-disk.ensures.ok c.detach-disk.ensures.err);
    unasked = c.detach-disk.ensures.unasked;
    holding = refl;
    outside = record { cabinet = refl; entropy = refl };
  };
  replied = c.done_or.ensures.reply _;
})

pub returns-in-Suspend-clause-serves : goal.returns-in-Suspend-clause-serves
returns-in-Suspend-clause-serves g c = rw c.in-Suspend.is (record { answer = c.suspend-held.result.1; row = c.suspend-held.ensures _ _; replied = c.done_or-in-Suspend.ensures.reply _ })

pub returns-in_default-clause-serves : goal.returns-in_default-clause-serves
returns-in_default-clause-serves g c =
    let now = c.serve_any-reply.new.place in
    let then = c.args.provider in
    let told = c.rest_tells_all.ensures now.keying then.keying now.slot then.slot now.readonly then.readonly c.serve_any-reply.ensures.rest in
    held_row _ _ _ _ _ _ _ _ _ _ (kept_holding c.args.queue then now (record { keying = told.0; slot = told.1; readonly = told.2 })) (c.serve_any-reply.ensures.serves _ _)
