use Rattle.resize_kill.proofs.trash.destroy.Goals as goal

pub returns-clause-ok : goal.returns-clause-ok
returns-clause-ok g c = rw (← c.trash_sectors.ensures) c.overwrite.ensures.ok

pub returns-clause-err : goal.returns-clause-err
returns-clause-err g c = rw (← c.trash_sectors.ensures) c.overwrite.ensures.err
