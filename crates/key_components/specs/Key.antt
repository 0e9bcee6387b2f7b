-- The components of a user key, by the files that the options name (geli(8), the options -J, -j, -K, -k, -P and -p).
use Rattle.std.specs.Prelude.{◌≡◌, ◌≤◌, ℕ, ◌==◌, List, length, map, Option, Result, if◌then◌else◌}
use Rattle.std.specs.Option.{option_or}
use Rattle.block_traits.specs.Cabinet.{Files}
use Rattle.command_words.specs.declared.spans.KeyWords.{KeyWords}
use Rattle.eli_base.specs.declared.refusals.Refusal.{Refusal}
use Rattle.user_key.specs.declared.components.Components.{Components}
use Rattle.user_key.specs.declared.components.PassPart.{PassPart}
use Rattle.user_key.specs.declared.components.PassPart.TheVariants.{Without, Missing, Given}
use Rattle.user_key.specs.Passphrase.{joined_passphrase}
use Rattle.key_components.specs.Answers.{unless_refused}
use Rattle.key_components.specs.Files.{named_bytes, file_limit, first_fault, joined_files, key_files, passphrase_files, passphrase_limit}

-- the passphrase, which an option may rule out, and which is missing if no file is named
abbrev pub passphrase_of : KeyWords → List ℕ → PassPart
passphrase_of words passphrase = if words.without then Without else (if length words.pass == 0 then Missing else Given passphrase)

-- the first refusal of the key files in order, and then of the passphrase files in order
abbrev pub key_fault : Files → List ℕ → KeyWords → Option Refusal
key_fault files line words = option_or (first_fault key_files files line 0 words.files) (first_fault passphrase_files files line 0 words.pass)

-- the components, or the first refusal of the files
abbrev pub components_of : Files → List ℕ → KeyWords → Result Components Refusal
components_of files line words = unless_refused (key_fault files line words) (record {
  keyfile_count = length words.files;
  keyfiles = joined_files key_files files line words.files;
  passphrase = passphrase_of words (joined_passphrase (map (named_bytes files line) words.pass));
})

-- the components are of the kind that the words want, and within the limits
pub record FitsWords (words : KeyWords) (parts : Components) : Type 0 where
  pub count : parts.keyfile_count ≡ length words.files
  pub keyfiles : length parts.keyfiles ≤ file_limit
  pub passphrase : List ℕ
  pub short : length passphrase ≤ passphrase_limit
  pub part : parts.passphrase ≡ passphrase_of words passphrase
