use Rattle.suspend.proofs.Resumed.{opens_so, same_or_collision}
use Rattle.suspend.proofs.laws.resumed_master_is_the_same_or_collides.Goals as goal

pub returns-clause-opens : goal.returns-clause-opens
returns-clause-opens g c target by s p answers = opens_so target.meta by.key by.named p.slot p.keying.master answers.attached.opens

pub returns-clause-same : goal.returns-clause-same
returns-clause-same g c target by s master p kept answers = same_or_collision master p.keying.master s.mark kept answers.same
