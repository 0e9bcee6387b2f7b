use Rattle.std.proofs.Common.{sym, subst}
use Rattle.aes_core.specs.State.{IsState}
use Rattle.aes_planes.proofs.BlockLaws.{IsState-rows}
use Rattle.aes_planes.proofs.round_keys.middle_key.Goals as goal

pub key_planes-requires : goal.key_planes-requires
key_planes-requires c = subst IsState (sym c.in_rows.ensures) (IsState-rows c.with_constant.result c.with_constant.ensures.state)
