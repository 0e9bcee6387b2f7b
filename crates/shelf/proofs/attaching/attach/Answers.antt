use Rattle.command_rows.specs.Rows.{Idle}
use Rattle.shelf.specs.Trying.{tried_in}
use Rattle.shelf.proofs.Openings.{only_tried}
use Rattle.shelf.proofs.Rows.{Then-refused}
use Rattle.shelf.proofs.attaching.attach.Goals as goal

pub returns-in-Err : goal.returns-in-Err
returns-in-Err g c = λ entropy.
    rw (c.into_disk-disk.ensures, ← c.new-place.ensures)
    (Then-refused _ _ _ _ _ (c.in-Err.ensures.row c.args.readonly _ entropy))

pub returns-then-only_check : goal.returns-then-only_check
returns-then-only_check g c = λ entropy.
    rw (c.into_disk-disk.ensures, ← c.new-place.ensures, c.if-only_check.true)
    (record {
      given = tried_in c.args.slot c.args.readonly c.in-Ok.trial;
      middle = _;
      first = c.in-Ok.ensures.row c.args.readonly _ entropy;
      next = only_tried (tried_in c.args.slot c.args.readonly c.in-Ok.trial) c.try_key.result _ (c.try_key.ensures c.args.readonly);
    })

pub returns-else-only_check : goal.returns-else-only_check
returns-else-only_check g c = λ entropy.
    let row = rw (← c.into_disk-disk.ensures) at (c.in-Ok.ensures.row c.args.readonly Idle entropy) in
    rw (← c.new-place.ensures, c.if-only_check.false)
    (record {
      given = tried_in c.args.slot c.args.readonly c.in-Ok.trial;
      middle = _;
      first = row;
      next = c.take_over.ensures _ entropy;
    })
