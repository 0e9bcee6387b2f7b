use Rattle.std.proofs.Common.{refl}
use Rattle.aes_planes.specs.Circuit.{inverse_sbox_gates, inverse_sbox_outputs}
use Rattle.aes_planes.proofs.WideLaws.{gates_sides, gates_wide}
use Rattle.aes_planes.proofs.sboxes.wide_inverse_sub_bytes.Goals as goal

pub returns-clause-sides : goal.returns-clause-sides
returns-clause-sides c = gates_sides inverse_sbox_gates inverse_sbox_outputs c.args.q _ c.requires refl

pub returns-clause-wide : goal.returns-clause-wide
returns-clause-wide c = gates_wide inverse_sbox_gates inverse_sbox_outputs c.args.q _ c.requires refl
