-- The faults of components as the refusals of a command.
use Rattle.eli_base.specs.declared.refusals.Refusal.{Refusal}
use Rattle.eli_base.specs.declared.refusals.Refusal.TheVariants as refusals
use Rattle.user_key.specs.declared.components.KeyFault.{KeyFault}
use Rattle.user_key.specs.declared.components.KeyFault.TheVariants.{PassphraseNotSet, PassphraseNeeded, NoKeyComponents}

abbrev pub key_refusal_of : KeyFault → Refusal
key_refusal_of PassphraseNotSet = refusals.PassphraseNotSet
key_refusal_of PassphraseNeeded = refusals.PassphraseNeeded
key_refusal_of NoKeyComponents = refusals.NoKeyComponents
