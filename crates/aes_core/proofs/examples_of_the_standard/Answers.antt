use Rattle.aes_core.specs.Field.{times, power}
use Rattle.aes_core.specs.Examples.{example_key, example_plain}
use Rattle.aes_core.proofs.Cached.{encrypt_cached}
use Rattle.aes_core.proofs.examples_of_the_standard.Goals as goal

pub returns : goal.returns
unfolding times power
returns c = record {
  key_128 = encrypt_cached (example_key 16) example_plain;
  key_192 = encrypt_cached (example_key 24) example_plain;
  key_256 = encrypt_cached (example_key 32) example_plain;
}
