-- The two kinds of files of a key.
use Rattle.std.specs.Prelude.{ℕ, ◌+◌, nat_lt, List, length, Option, None, Some, if◌then◌else◌}
use Rattle.block_traits.specs.Cabinet.{CabinetState}
use Rattle.eli_base.specs.declared.refusals.Refusal.{Refusal}
use Rattle.eli_base.specs.declared.refusals.Refusal.TheVariants.{FileTooLong}
use Rattle.user_key.specs.Passphrase.{first_line}
use Rattle.key_components.specs.declared.parts.Part.{Part}
use Rattle.key_components.specs.declared.parts.Part.TheVariants.{KeyFiles, Passphrase}
use Rattle.key_components.specs.Answers.{MayRefuse, MayRefusePassphrase}
use Rattle.key_components.specs.Files.{Taking, file_limit, key_files, passphrase_files, passphrase_limit}

abbrev pub taking_of : Part → Taking
taking_of KeyFiles = key_files
taking_of Passphrase = passphrase_files

-- the refusals that may come for a file of this kind
abbrev pub MayRefuseOf : Part → CabinetState → CabinetState → Refusal → Type 0
MayRefuseOf KeyFiles = MayRefuse file_limit
MayRefuseOf Passphrase = MayRefusePassphrase

-- what is wrong with the first line of a file, after so many bytes of the lines before it
abbrev pub line_fault : ℕ → ℕ → List ℕ → Option Refusal
line_fault word used file = if nat_lt passphrase_limit (used + length (first_line file)) then Some (FileTooLong word passphrase_limit) else None

-- how many bytes may count, of all files of this kind together
abbrev pub limit_of : Part → ℕ
limit_of KeyFiles = file_limit
limit_of Passphrase = passphrase_limit
