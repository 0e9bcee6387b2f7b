-- The random bytes of a new provider.
use Rattle.std.specs.Prelude.{◌≡◌, ℕ, List, length, take, drop}
use Rattle.aes_core.specs.Schedule.{AreBytes}
use Rattle.block_traits.specs.Streams.{EntropyState, Takes}
use Rattle.key_commands.specs.declared.random.RandomParts.{RandomParts}

-- 64 bytes of salt, then 128 of master key, then 192 of filler for the slot without a key
abbrev pub random_size : ℕ
random_size = 384

abbrev pub salt_in : List ℕ → List ℕ
salt_in random = take 64 random

abbrev pub master_key_in : List ℕ → List ℕ
master_key_in random = take 128 (drop 64 random)

abbrev pub filler_in : List ℕ → List ℕ
filler_in random = take 192 (drop 192 random)

-- these are the parts of random bytes that were taken
pub record Draws (parts : RandomParts) (old new : EntropyState) : Type 0 where
  pub random : List ℕ
  pub size : length random ≡ random_size
  pub bytes : AreBytes random
  pub taken : Takes random old new
  pub salt : parts.salt ≡ salt_in random
  pub master : parts.master.bytes ≡ master_key_in random
  pub filler : parts.filler ≡ filler_in random
