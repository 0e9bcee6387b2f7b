-- What `delkey` returns, and what it does to the disk and the entropy (geli(8), delkey).
use Rattle.std.specs.Prelude.{◌≡◌, ℕ, ◌<◌, Bool, IsTrue, false, List, length, replicate, None, Some, Result, Ok, Err}
use Rattle.block_traits.specs.Disk.{DiskState, FailsIn, Logs, last_sector}
use Rattle.block_traits.specs.Moments.{AtEachMoment, HoldsOnceFlushed, KeepsOldOr}
use Rattle.block_traits.specs.Overwriting.{zeros}
use Rattle.block_traits.specs.Streams.{EntropyState, Takes, TakesNone}
use Rattle.eli_base.specs.declared.refusals.Refusal.{Refusal}
use Rattle.eli_base.specs.declared.refusals.Refusal.TheVariants.{EntropyFault, DeviceFault}
use Rattle.eli_metadata.specs.Checks.{is_set}
use Rattle.eli_metadata.specs.Format.{IsWhole, encoded, is_served, metadata_in}
use Rattle.eli_metadata.specs.declared.metadata.Metadata.{Metadata}
use Rattle.key_slots.specs.Slots.{slot_bytes}
use Rattle.key_commands.specs.NewKey.{KeepsSlot}
use Rattle.key_commands.specs.Overwriting.{HasNoKey, Names, deletion_refusal, filler_size, named_size, pass_events, without_keys}
use Rattle.key_commands.specs.declared.overwriting.Which.{Which}

-- what is asked for: the metadata as they were read, the slots that are named, and whether the last key may go
pub record Deletion : Type 0 where
  pub meta : Metadata
  pub which : Which
  pub force : Bool

-- the fields of the metadata fit their types, nothing is refused, and the random bytes were taken in one call
pub record DrawsFiller (asked : Deletion) (old : EntropyState) (random : List ℕ) (new : EntropyState) : Type 0 where
  pub whole : IsWhole asked.meta
  pub served : deletion_refusal asked.meta asked.which asked.force ≡ None
  pub size : length random ≡ filler_size asked.which
  pub taken : Takes random old new

-- at each moment each value that the last sector may hold is one from before or has the named slots clear; from the
-- first flush on, each has them clear
pub record Overwrites (asked : Deletion) (disk disk' : DiskState) : Type 0 where
  pub kept : KeepsOldOr (HasNoKey asked.meta asked.which) (last_sector disk) disk.content disk'.content
  pub flushed : AtEachMoment (HoldsOnceFlushed (HasNoKey asked.meta asked.which) (last_sector disk)) disk.content disk'.content

-- these are the metadata with zeros in the named slots, which are clear
pub record IsWithout (asked : Deletion) (m : Metadata) : Type 0 where
  pub metadata : m ≡ without_keys asked.meta asked.which (zeros (named_size asked.which))

-- the metadata that are left can be used: they are read back if their version is one that is read, the named slots are
-- clear and hold zeros, and a slot that isn't named is kept
pub record HasOtherKeys (asked : Deletion) (m : Metadata) : Type 0 where
  pub read : IsTrue (is_served m.version m.flags) → metadata_in (encoded m) ≡ Ok m
  pub clear : (s : ℕ) → Names asked.which s → is_set m s ≡ false
  pub named : (s : ℕ) → Names asked.which s → slot_bytes m s ≡ replicate 192 0
  pub other : (s : ℕ) → s < 2 → ¬ Names asked.which s → KeepsSlot asked.meta m s

-- all six passes were made, and nothing was read
pub record Deletes (asked : Deletion) (disk : DiskState) (entropy : EntropyState) (m : Metadata) (disk' : DiskState) (entropy' : EntropyState) : Type 0 where
  pub without : IsWithout asked m
  pub random : List ℕ
  pub draws : DrawsFiller asked entropy random entropy'
  pub logs : Logs (pass_events disk asked.meta asked.which random) disk disk'
  pub unasked : disk'.reads ≡ disk.reads

-- the disk failed after a part of the events, and nothing was read
pub record DeletesPart (asked : Deletion) (disk : DiskState) (entropy : EntropyState) (disk' : DiskState) (entropy' : EntropyState) : Type 0 where
  pub random : List ℕ
  pub draws : DrawsFiller asked entropy random entropy'
  pub fails : FailsIn (pass_events disk asked.meta asked.which random) disk disk'
  pub unasked : disk'.reads ≡ disk.reads

-- there were no random bytes, and the disk is as it was
pub record HasNoFiller (asked : Deletion) (disk : DiskState) (entropy : EntropyState) (disk' : DiskState) (entropy' : EntropyState) : Type 0 where
  pub served : deletion_refusal asked.meta asked.which asked.force ≡ None
  pub none : TakesNone entropy entropy'
  pub unchanged : disk' ≡ disk

-- the deletion is refused, and nothing was done
pub record RefusesDeletion (asked : Deletion) (disk : DiskState) (entropy : EntropyState) (refusal : Refusal) (disk' : DiskState) (entropy' : EntropyState) : Type 0 where
  pub cause : deletion_refusal asked.meta asked.which asked.force ≡ Some refusal
  pub disk_unchanged : disk' ≡ disk
  pub entropy_unchanged : entropy' ≡ entropy

-- what `delkey` does, by the cases of what it returns
abbrev pub DeletesKeys : Deletion → DiskState → EntropyState → Result Metadata Refusal → DiskState → EntropyState → Type 0
DeletesKeys asked disk entropy (Ok m) disk' entropy' = Deletes asked disk entropy m disk' entropy'
DeletesKeys asked disk entropy (Err DeviceFault) disk' entropy' = DeletesPart asked disk entropy disk' entropy'
DeletesKeys asked disk entropy (Err EntropyFault) disk' entropy' = HasNoFiller asked disk entropy disk' entropy'
DeletesKeys asked disk entropy (Err refusal) disk' entropy' = RefusesDeletion asked disk entropy refusal disk' entropy'
