use Rattle.aes_core.proofs.Lengths.{length-decrypt, length-encrypt}
use Rattle.aes_core.proofs.laws.ciphers_give_blocks.Goals as goal

pub returns : goal.returns
returns c = record { encrypt = λ key block long. length-encrypt key block long; decrypt = λ key block long. length-decrypt key block long }
