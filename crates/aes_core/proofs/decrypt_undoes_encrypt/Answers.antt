use Rattle.std.proofs.Common.{arith}
use Rattle.aes_core.specs.Schedule.{AreBytes}
use Rattle.aes_core.proofs.KeyBytes.{decrypt-encrypt}
use Rattle.aes_core.proofs.decrypt_undoes_encrypt.Goals as goal

pub returns : goal.returns
returns c =
    let key_bytes : AreBytes c.args.key.now = λ k. omega (arith, c.type_inv.key k) in
    let block_bytes : AreBytes c.args.block.now = λ k. omega (arith, c.type_inv.block k) in
    decrypt-encrypt c.args.key.now c.args.block.now (record { long = c.requires.key; bytes = key_bytes }) c.requires.block block_bytes
