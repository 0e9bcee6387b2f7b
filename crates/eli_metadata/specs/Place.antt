-- What a read of the metadata returns, and what a read and a change of the metadata do to the disk.
use Rattle.std.specs.Prelude.{◌≡◌, ℕ, ◌<◌, ◌≤◌, ◌*◌, List, [], ◌∷◌, length, Result, Ok, Err}
use Rattle.block_traits.specs.Causes.{Counted}
use Rattle.block_traits.specs.Disk.{DiskState, FailsIn, Gives, Logs, last_sector, store_events}
use Rattle.block_traits.specs.declared.disk.Event.{Event}
use Rattle.block_traits.specs.declared.disk.Event.TheVariants.{Flush}
use Rattle.eli_metadata.specs.Format.{encoded, metadata_in}
use Rattle.eli_metadata.specs.declared.metadata.Metadata.{Metadata}
use Rattle.eli_metadata.specs.declared.metadata.MetaFault.{MetaFault}
use Rattle.eli_metadata.specs.declared.place.ReadMetaFault.{ReadMetaFault}
use Rattle.eli_metadata.specs.declared.place.ReadMetaFault.TheVariants.{TooSmall, DeviceFault, Meta}

-- the last device sector was read once, without an event, and the answer is what it holds
pub record ReadsLast (before : DiskState) (answer : Result Metadata MetaFault) (after : DiskState) : Type 0 where
  pub enough : 2 ≤ before.size
  pub bytes : List ℕ
  pub whole : length bytes ≡ 512
  pub told : Gives before (last_sector before) bytes
  pub answered : answer ≡ metadata_in bytes
  pub logs : Logs [] before after
  pub asked : Counted 1 before.reads after.reads

-- the one read of the last device sector failed
pub record FailsToRead (before after : DiskState) : Type 0 where
  pub enough : 2 ≤ before.size
  pub fails : FailsIn [] before after
  pub asked : Counted 1 before.reads after.reads

abbrev pub ReadsMetadata : DiskState → Result Metadata ReadMetaFault → DiskState → Type 0
ReadsMetadata before (Ok m) after = ReadsLast before (Ok m) after
ReadsMetadata before (Err (TooSmall size)) after = (before.size < 2) × (size ≡ 512 * before.size) × (after ≡ before)
ReadsMetadata before (Err DeviceFault) after = FailsToRead before after
ReadsMetadata before (Err (Meta fault)) after = ReadsLast before (Err fault) after

-- the value is the sector of the metadata
abbrev pub IsSectorOf : Metadata → List ℕ → Type 0
IsSectorOf m value = value ≡ encoded m

-- the disk is flushed, the sector of the metadata is written, and the disk is flushed
abbrev pub replace_events : DiskState → Metadata → List Event
replace_events disk m = Flush ∷ store_events disk (encoded m)
