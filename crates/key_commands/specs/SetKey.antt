-- What `setkey` returns, and what it does to the disk (geli(8), setkey).
use Rattle.std.specs.Prelude.{◌≡◌, Some, Result, Ok, Err}
use Rattle.block_traits.specs.Disk.{DiskState, FailsIn, Logs, store_events}
use Rattle.eli_base.specs.declared.refusals.Refusal.{Refusal}
use Rattle.eli_base.specs.declared.refusals.Refusal.TheVariants.{DeviceFault}
use Rattle.eli_metadata.specs.Format.{encoded}
use Rattle.eli_metadata.specs.declared.metadata.Metadata.{Metadata}
use Rattle.key_commands.specs.NewKey.{KeyChange, MakesKey, change_refusal}

-- the new metadata were written and flushed, and nothing was read
pub record WritesKey (asked : KeyChange) (disk : DiskState) (m : Metadata) (disk' : DiskState) : Type 0 where
  pub makes : MakesKey asked m
  pub logs : Logs (store_events disk (encoded m)) disk disk'
  pub unasked : disk'.reads ≡ disk.reads

-- the disk failed after a part of the events, and nothing was read
pub record WritesKeyPart (asked : KeyChange) (disk disk' : DiskState) : Type 0 where
  pub m : Metadata
  pub makes : MakesKey asked m
  pub fails : FailsIn (store_events disk (encoded m)) disk disk'
  pub unasked : disk'.reads ≡ disk.reads

-- the new key is refused, and nothing was done
pub record RefusesKey (asked : KeyChange) (disk : DiskState) (refusal : Refusal) (disk' : DiskState) : Type 0 where
  pub cause : change_refusal asked ≡ Some refusal
  pub unchanged : disk' ≡ disk

abbrev pub SetsKey : KeyChange → DiskState → Result Metadata Refusal → DiskState → Type 0
SetsKey asked disk (Ok m) disk' = WritesKey asked disk m disk'
SetsKey asked disk (Err DeviceFault) disk' = WritesKeyPart asked disk disk'
SetsKey asked disk (Err refusal) disk' = RefusesKey asked disk refusal disk'
