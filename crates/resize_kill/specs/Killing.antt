-- What `kill` returns, and what it does to the disk and the entropy (geli(8), kill).
use Rattle.std.specs.Prelude.{◌≡◌, ℕ, ◌*◌, ◌<◌, ◌≤◌, List, Result, Ok, Err}
use Rattle.block_traits.specs.Content.{Content}
use Rattle.block_traits.specs.Disk.{DiskState, FailsIn, Logs, last_sector}
use Rattle.block_traits.specs.Moments.{HoldsOnceFlushed}
use Rattle.block_traits.specs.Overwriting.{overwrite_events}
use Rattle.block_traits.specs.Streams.{EntropyState, TakesNone}
use Rattle.block_traits.specs.declared.disk.Event.{Event}
use Rattle.eli_base.specs.declared.refusals.Refusal.{Refusal}
use Rattle.eli_base.specs.declared.refusals.Refusal.TheVariants.{EntropyFault, DeviceFault, TooSmall}
use Rattle.eli_metadata.specs.Format.{metadata_in}
use Rattle.eli_metadata.specs.declared.metadata.MetaFault.TheVariants.{BadMagic}
use Rattle.resize_kill.specs.Trash.{TakesTrash, trash_sectors}

-- the last sector is written over in six passes
abbrev pub kill_events : DiskState → List ℕ → List Event
kill_events disk random = overwrite_events (last_sector disk) (trash_sectors random)

-- bytes without the magic, which are read as no metadata
abbrev pub IsNoMetadata : List ℕ → Type 0
IsNoMetadata bytes = metadata_in bytes ≡ Err BadMagic

-- once a flush landed, no value that sector n may hold if power fails is metadata
abbrev pub HoldsNoMetadata : ℕ → Content → Content → Type 0
HoldsNoMetadata n before now = HoldsOnceFlushed IsNoMetadata n before now

-- the last sector was written over with all of the events, and nothing was read
pub record Destroys (disk : DiskState) (entropy : EntropyState) (disk' : DiskState) (entropy' : EntropyState) : Type 0 where
  pub enough : 2 ≤ disk.size
  pub random : List ℕ
  pub takes : TakesTrash random entropy entropy'
  pub logs : Logs (kill_events disk random) disk disk'
  pub unasked : disk'.reads ≡ disk.reads

-- the disk failed after a part of the events, and nothing was read
pub record DestroysPart (disk : DiskState) (entropy : EntropyState) (disk' : DiskState) (entropy' : EntropyState) : Type 0 where
  pub enough : 2 ≤ disk.size
  pub random : List ℕ
  pub takes : TakesTrash random entropy entropy'
  pub fails : FailsIn (kill_events disk random) disk disk'
  pub unasked : disk'.reads ≡ disk.reads

-- there were no random bytes, and the disk is as it was
pub record KillsNothing (disk : DiskState) (entropy : EntropyState) (disk' : DiskState) (entropy' : EntropyState) : Type 0 where
  pub enough : 2 ≤ disk.size
  pub none : TakesNone entropy entropy'
  pub unchanged : disk' ≡ disk

-- there are fewer than two device sectors, and nothing was done; the size is in bytes
pub record IsTooSmallToKill (disk : DiskState) (entropy : EntropyState) (size : ℕ) (disk' : DiskState) (entropy' : EntropyState) : Type 0 where
  pub small : disk.size < 2
  pub bytes : size ≡ 512 * disk.size
  pub disk_unchanged : disk' ≡ disk
  pub entropy_unchanged : entropy' ≡ entropy

abbrev pub Kills : DiskState → EntropyState → Result (Unit {0}) Refusal → DiskState → EntropyState → Type 0
Kills disk entropy (Ok _) disk' entropy' = Destroys disk entropy disk' entropy'
Kills disk entropy (Err DeviceFault) disk' entropy' = DestroysPart disk entropy disk' entropy'
Kills disk entropy (Err EntropyFault) disk' entropy' = KillsNothing disk entropy disk' entropy'
Kills disk entropy (Err (TooSmall size)) disk' entropy' = IsTooSmallToKill disk entropy size disk' entropy'
Kills disk entropy (Err _) disk' entropy' = ⊥
