use Rattle.std.proofs.Common.{arith}
use Rattle.aes_core.specs.Schedule.{AreBytes}
use Rattle.cbc_mode.proofs.Chain.{cbc_open-cbc_seal}
use Rattle.cbc_mode.proofs.cbc_open_undoes_cbc_seal.Goals as goal

pub returns : goal.returns
returns c =
    let key_bytes : AreBytes c.args.key.now = λ k. omega (arith, c.type_inv.key k) in
    let iv_bytes : AreBytes c.args.iv.now = λ k. omega (arith, c.type_inv.iv k) in
    let plain_bytes : AreBytes c.args.plain.now = λ k. omega (arith, c.type_inv.plain k) in
    cbc_open-cbc_seal c.args.key.now c.args.iv.now c.args.plain.now (record { long = c.requires.key; bytes = key_bytes }) c.requires.iv iv_bytes plain_bytes c.requires.plain
