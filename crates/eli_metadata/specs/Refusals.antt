-- The refusal that a reply names for each fault.
use Rattle.eli_base.specs.declared.refusals.Refusal.{Refusal}
use Rattle.eli_base.specs.declared.refusals.Refusal.TheVariants as refusals
use Rattle.eli_metadata.specs.declared.metadata.MetaFault.{MetaFault}
use Rattle.eli_metadata.specs.declared.metadata.MetaFault.TheVariants.{BadMagic, BadVersion, BadHash, UnsupportedFlags, UnsupportedCipher, BadKeyLength, UnsupportedAuth, BadSectorSize, BadSize, NoValidKeys, KeyNumberOutOfRange, KeyNotSet}
use Rattle.eli_metadata.specs.declared.place.ReadMetaFault.{ReadMetaFault}
use Rattle.eli_metadata.specs.declared.place.ReadMetaFault.TheVariants.{TooSmall, DeviceFault, Meta}

abbrev pub refusal_of : MetaFault → Refusal
refusal_of BadMagic = refusals.BadMagic
refusal_of (BadVersion found) = refusals.BadVersion found
refusal_of BadHash = refusals.BadHash
refusal_of (UnsupportedFlags mask) = refusals.UnsupportedFlags mask
refusal_of (UnsupportedCipher found) = refusals.UnsupportedCipher found
refusal_of (BadKeyLength found) = refusals.BadKeyLength found
refusal_of (UnsupportedAuth found) = refusals.UnsupportedAuth found
refusal_of (BadSectorSize found) = refusals.BadSectorSize found
refusal_of (BadSize kept found) = refusals.BadSize kept found
refusal_of NoValidKeys = refusals.NoValidKeys
refusal_of (KeyNumberOutOfRange given) = refusals.KeyNumberOutOfRange given
refusal_of (KeyNotSet slot) = refusals.KeyNotSet slot

abbrev pub read_refusal_of : ReadMetaFault → Refusal
read_refusal_of (TooSmall size) = refusals.TooSmall size
read_refusal_of DeviceFault = refusals.DeviceFault
read_refusal_of (Meta fault) = refusal_of fault
