-- The user key of a provider, made of key files and a passphrase (geli(8), the options -K, -J and -i).
use Rattle.std.specs.Prelude.{ℕ, ℤ, ◌==◌, ◌&&◌, Bool, true, false, not, List, [], ◌++◌, Result, Ok, Err, unsigned_abs, if◌then◌else◌}
use Rattle.std.specs.Int.{is_negative}
use Rattle.hmac_kdf.specs.Hmac.{hmac512}
use Rattle.hmac_kdf.specs.Pbkdf2.{pbkdf2}
use Rattle.user_key.specs.declared.components.Components.{Components}
use Rattle.user_key.specs.declared.components.PassPart.{PassPart}
use Rattle.user_key.specs.declared.components.PassPart.TheVariants.{Without, Missing, Given}
use Rattle.user_key.specs.declared.components.UserKey.{UserKey}
use Rattle.user_key.specs.declared.components.KeyFault.{KeyFault}
use Rattle.user_key.specs.declared.components.KeyFault.TheVariants.{PassphraseNotSet, PassphraseNeeded, NoKeyComponents}

abbrev pub is_without : PassPart → Bool
is_without Without = true
is_without Missing = false
is_without (Given passphrase) = false

abbrev pub is_missing : PassPart → Bool
is_missing Without = false
is_missing Missing = true
is_missing (Given passphrase) = false

-- what stands for a passphrase after the key files: it is stretched by PBKDF2 if there are iterations, else salted
abbrev pub stretched : List ℕ → List ℕ → ℕ → List ℕ
stretched passphrase salt iterations =
    (if iterations == 0 then salt ++ passphrase else pbkdf2 passphrase salt iterations)

-- what stands after the key files for a passphrase that may be left out: nothing, or the passphrase, stretched or
-- salted
abbrev pub passphrase_part : PassPart → List ℕ → ℕ → List ℕ
passphrase_part Without salt iterations = []
passphrase_part Missing salt iterations = []
passphrase_part (Given passphrase) salt iterations = stretched passphrase salt iterations

-- the user key, or the first refusal that holds; iterations below 0 say that no passphrase was set up
abbrev pub user_key : Components → List ℕ → ℤ → Result UserKey KeyFault
user_key parts salt iterations =
    (if is_negative iterations && not (is_without parts.passphrase) then Err PassphraseNotSet
    else (if is_missing parts.passphrase then Err PassphraseNeeded
    else (if is_without parts.passphrase && (parts.keyfile_count == 0) then Err NoKeyComponents
    else Ok (record { bytes = hmac512 [] (parts.keyfiles ++ passphrase_part parts.passphrase salt (unsigned_abs iterations)) }))))
