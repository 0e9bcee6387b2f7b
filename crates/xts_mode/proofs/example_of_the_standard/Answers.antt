use Rattle.std.proofs.Common.{◌/◌, ◌++◌, length, replicate}
use Rattle.std.specs.Int.{w64, w128, to_le_bytes, from_le_bytes}
use Rattle.aes_core.specs.Field.{times, power}
use Rattle.aes_core.specs.Blocks.{blocks}
use Rattle.aes_core.proofs.Cached.{encrypt_cached}
use Rattle.xts_mode.specs.Xts.{tweak_at, first_tweak, tweaked_block}
use Rattle.xts_mode.specs.Examples.{example_key1, example_key2, example_unit, xts_example_plain}
use Rattle.xts_mode.proofs.example_of_the_standard.Goals as goal

pub returns : goal.returns
unfolding times power blocks tweak_at first_tweak
returns c = (λ i.
    let tweak = from_le_bytes w128 (encrypt_cached example_key2 (to_le_bytes w64 example_unit ++ replicate 8 0) i) in
    blocks (tweaked_block (λ x. encrypt_cached example_key1 x i) tweak xts_example_plain) (length xts_example_plain / 16))
