use Rattle.std.proofs.Common.{arith}
use Rattle.aes_core.specs.Schedule.{AreBytes}
use Rattle.xts_mode.proofs.Tweaks.{xts_open-xts_seal}
use Rattle.xts_mode.proofs.xts_open_undoes_xts_seal.Goals as goal

pub returns : goal.returns
returns c =
    let key_bytes : AreBytes c.args.key1.now = λ k. omega (arith, c.type_inv.key1 k) in
    let plain_bytes : AreBytes c.args.plain.now = λ k. omega (arith, c.type_inv.plain k) in
    xts_open-xts_seal c.args.key1.now c.args.key2.now c.args.plain.now c.args.tweak (record { long = c.requires.key; bytes = key_bytes }) plain_bytes c.requires.plain
