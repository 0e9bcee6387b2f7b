use Rattle.std.proofs.Common.{replicate}
use Rattle.aes_core.proofs.Inverse.{IsState-xor}
use Rattle.aes_planes.proofs.NumberLaws.{constant_added, constant_state}
use Rattle.aes_planes.proofs.round_keys.with_constant.Goals as goal

pub returns-clause-value : goal.returns-clause-value
returns-clause-value c = constant_added c.args.v c.requires.long

pub returns-clause-state : goal.returns-clause-state
returns-clause-state c = IsState-xor c.args.v (replicate 16 0x63) c.requires constant_state
