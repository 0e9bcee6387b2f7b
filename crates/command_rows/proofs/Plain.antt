-- Refusals for which what a line found is the one cause.
use Rattle.eli_base.specs.declared.refusals.Refusal.TheVariants as refusals
use Rattle.eli_metadata.specs.declared.metadata.MetaFault.TheVariants.{BadMagic, BadVersion, BadHash, UnsupportedFlags, UnsupportedCipher, BadKeyLength, UnsupportedAuth, BadSectorSize, BadSize, NoValidKeys, KeyNumberOutOfRange, KeyNotSet}
use Rattle.user_key.specs.declared.components.KeyFault.TheVariants.{NoKeyComponents, PassphraseNeeded, PassphraseNotSet}
use Rattle.command_rows.specs.Grounds.{IsGround}
use Rattle.std.proofs.Common.{Bool, Err, None, Ok, Option, Result, Some, cond, false, subst, true, ℕ, ◌≡◌}
use Rattle.command_rows.specs.Rows.{or_refusal, or_wrong_key, tried}
use Rattle.command_rows.specs.Vocabulary.{KeyFault, MasterKey, MetaFault, Metadata, Refusal, Settings, UserKey, key_refusal, key_refusal_of, refusal_of}

-- a refusal that is answered, or found, is a ground
abbrev pub PlainAnswer : {A : Type 0} → Result A Refusal → Type 0
PlainAnswer (Ok value) = Unit {0}
PlainAnswer (Err refusal) = IsGround refusal

abbrev pub PlainOption : Option Refusal → Type 0
PlainOption None = Unit {0}
PlainOption (Some refusal) = IsGround refusal

pub plain_some : (found : Option Refusal) (refusal : Refusal) → PlainOption found → found ≡ Some refusal → IsGround refusal
plain_some found refusal plain is = subst (λ (o : Option Refusal). PlainOption o) is plain

-- ---- the metadata

pub meta_plain : (fault : MetaFault) → IsGround (refusal_of fault)
meta_plain BadMagic = tt
meta_plain (BadVersion found) = tt
meta_plain BadHash = tt
meta_plain (UnsupportedFlags mask) = tt
meta_plain (UnsupportedCipher found) = tt
meta_plain (BadKeyLength found) = tt
meta_plain (UnsupportedAuth found) = tt
meta_plain (BadSectorSize found) = tt
meta_plain (BadSize kept found) = tt
meta_plain NoValidKeys = tt
meta_plain (KeyNumberOutOfRange given) = tt
meta_plain (KeyNotSet slot) = tt

pub or_plain : {A : Type 0} (found : Result A MetaFault) → PlainAnswer (or_refusal refusal_of found)
or_plain (Ok value) = tt
or_plain (Err fault) = meta_plain fault

-- ---- keys

pub key_plain : (fault : KeyFault) → IsGround (key_refusal_of fault)
key_plain PassphraseNotSet = tt
key_plain PassphraseNeeded = tt
key_plain NoKeyComponents = tt

pub key_option : (key : Result UserKey KeyFault) → PlainOption (key_refusal key)
key_option (Ok key) = tt
key_option (Err fault) = key_plain fault

wrong_key_plain : (s : Settings) (readonly : Bool) (found : Option (MasterKey × ℕ)) → PlainAnswer (or_wrong_key s readonly found)
wrong_key_plain s readonly None = tt
wrong_key_plain s readonly (Some found) = tt

small_plain : (s : Settings) (readonly small : Bool) (found : Option (MasterKey × ℕ)) → PlainAnswer (cond small (Err (refusals.TooSmall s.provsize)) (or_wrong_key s readonly found))
small_plain s readonly true found = tt
small_plain s readonly false found = wrong_key_plain s readonly found

pub tried_plain : (m : Metadata) (s : Settings) (slot : Option ℕ) (readonly : Bool) (key : Result UserKey KeyFault) → PlainAnswer (tried m s slot readonly key)
tried_plain m s slot readonly (Err fault) = key_plain fault
tried_plain m s slot readonly (Ok key) = small_plain s readonly _ _
