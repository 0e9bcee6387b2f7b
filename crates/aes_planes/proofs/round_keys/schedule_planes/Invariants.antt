use Rattle.aes_planes.proofs.KeyLaws.{HasKeys}
use Rattle.aes_planes.proofs.round_keys.schedule_planes.Given as goal

abbrev pub invariant-loop-r : goal.invariant-loop-r
invariant-loop-r l = HasKeys l.fn.round_keys l.keys l.r
