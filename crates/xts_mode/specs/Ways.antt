-- The two ways of XTS.
use Rattle.std.specs.Prelude.{ℕ, List}
use Rattle.aes_core.specs.Aes.{encrypt, decrypt}
use Rattle.xts_mode.specs.declared.groups.Way.{Way}
use Rattle.xts_mode.specs.declared.groups.Way.TheVariants.{Seal, Open}

-- what is done to a block between its tweaks, under the key of the data (5.3 and 5.4)
abbrev pub aes_by : Way → List ℕ → List ℕ → List ℕ
aes_by Seal = encrypt
aes_by Open = decrypt
