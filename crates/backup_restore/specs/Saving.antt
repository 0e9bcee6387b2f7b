-- What `backup` returns, and what it does to the disk (geli(8), backup).
use Rattle.std.specs.Prelude.{◌≡◌, ℕ, ◌*◌, ◌<◌, ◌≤◌, List, [], length, Result, Ok, Err}
use Rattle.block_traits.specs.Causes.{Counted}
use Rattle.block_traits.specs.Disk.{DiskState, Gives, Logs, last_sector}
use Rattle.eli_base.specs.declared.refusals.Refusal.{Refusal}
use Rattle.eli_base.specs.declared.refusals.Refusal.TheVariants.{DeviceFault, TooSmall}
use Rattle.eli_metadata.specs.Format.{metadata_in}
use Rattle.eli_metadata.specs.Place.{FailsToRead}
use Rattle.eli_metadata.specs.Refusals.{refusal_of}
use Rattle.eli_metadata.specs.declared.metadata.MetaFault.{MetaFault}
use Rattle.eli_metadata.specs.declared.metadata.Metadata.{Metadata}

-- the last device sector was read once, without an event, and these bytes are what it holds
pub record ReadsSector (before : DiskState) (bytes : List ℕ) (after : DiskState) : Type 0 where
  pub enough : 2 ≤ before.size
  pub whole : length bytes ≡ 512
  pub told : Gives before (last_sector before) bytes
  pub logs : Logs [] before after
  pub asked : Counted 1 before.reads after.reads

-- the last device sector was read, and its bytes are metadata
pub record SavesMetadata (before : DiskState) (bytes : List ℕ) (after : DiskState) : Type 0 where
  pub reads : ReadsSector before bytes after
  pub m : Metadata
  pub is : metadata_in bytes ≡ Ok m

-- the last device sector was read, and its bytes are no metadata, for this reason
pub record FindsNone (before : DiskState) (refusal : Refusal) (bytes : List ℕ) (after : DiskState) : Type 0 where
  pub reads : ReadsSector before bytes after
  pub fault : MetaFault
  pub is : metadata_in bytes ≡ Err fault
  pub cause : refusal ≡ refusal_of fault

-- there are fewer than two device sectors, and nothing was done; the size is in bytes
pub record HasNoRoom (before : DiskState) (out : List ℕ) (size : ℕ) (out' : List ℕ) (after : DiskState) : Type 0 where
  pub small : before.size < 2
  pub bytes : size ≡ 512 * before.size
  pub out_unchanged : out' ≡ out
  pub unchanged : after ≡ before

-- what `backup` does, by the cases of what it returns: if nothing is read, the bytes stay as they were; after a failed
-- read they may be any; and else they are what was read
abbrev pub Saves : DiskState → List ℕ → Result (Unit {0}) Refusal → List ℕ → DiskState → Type 0
Saves before out (Ok _) out' after = SavesMetadata before out' after
Saves before out (Err (TooSmall size)) out' after = HasNoRoom before out size out' after
Saves before out (Err DeviceFault) out' after = FailsToRead before after
Saves before out (Err refusal) out' after = FindsNone before refusal out' after
