-- What `init` returns, and what it does to the disk and the entropy (geli(8), init).
use Rattle.std.specs.Prelude.{◌≡◌, ℕ, List, length, None, Some, Result, Ok, Err}
use Rattle.aes_core.specs.Schedule.{AreBytes}
use Rattle.block_traits.specs.Disk.{DiskState, FailsIn, Logs}
use Rattle.block_traits.specs.Streams.{EntropyState, Takes, TakesNone}
use Rattle.block_traits.specs.declared.disk.Event.{Event}
use Rattle.eli_base.specs.declared.refusals.Refusal.{Refusal}
use Rattle.eli_base.specs.declared.refusals.Refusal.TheVariants.{EntropyFault, DeviceFault}
use Rattle.eli_metadata.specs.Format.{IsWhole}
use Rattle.eli_metadata.specs.Place.{replace_events}
use Rattle.eli_metadata.specs.declared.metadata.Metadata.{Metadata}
use Rattle.user_key.specs.Derivation.{user_key}
use Rattle.user_key.specs.declared.components.Components.{Components}
use Rattle.user_key.specs.declared.components.UserKey.{UserKey}
use Rattle.key_commands.specs.declared.options.InitOptions.{InitOptions}
use Rattle.key_commands.specs.NewMetadata.{new_metadata}
use Rattle.key_commands.specs.Options.{early_refusal}
use Rattle.key_commands.specs.Random.{random_size, salt_in}

-- the metadata in the last sector are replaced
abbrev pub init_events : DiskState → Metadata → List Event
init_events disk m = replace_events disk m

-- nothing is refused, the random bytes are taken, and the metadata are made from the random bytes and from the user key
-- of these components
pub record MakesMetadata (options : InitOptions) (parts : Components) (sectors : ℕ) (old : EntropyState) (m : Metadata) (new : EntropyState) : Type 0 where
  pub served : early_refusal options parts sectors ≡ None
  pub random : List ℕ
  pub size : length random ≡ random_size
  pub bytes : AreBytes random
  pub taken : Takes random old new
  pub key : UserKey
  pub derived : user_key parts (salt_in random) options.iterations ≡ Ok key
  pub metadata : m ≡ new_metadata options sectors random key.bytes
  pub whole : IsWhole m

-- the metadata were made, and written with all of the events, and nothing was read
pub record Writes (options : InitOptions) (parts : Components) (disk : DiskState) (entropy : EntropyState) (m : Metadata) (disk' : DiskState) (entropy' : EntropyState) : Type 0 where
  pub makes : MakesMetadata options parts disk.size entropy m entropy'
  pub logs : Logs (init_events disk m) disk disk'
  pub unasked : disk'.reads ≡ disk.reads

-- the metadata were made, the disk failed after a part of the events, and nothing was read
pub record MakesPart (options : InitOptions) (parts : Components) (disk : DiskState) (entropy : EntropyState) (disk' : DiskState) (entropy' : EntropyState) : Type 0 where
  pub m : Metadata
  pub makes : MakesMetadata options parts disk.size entropy m entropy'
  pub fails : FailsIn (init_events disk m) disk disk'
  pub unasked : disk'.reads ≡ disk.reads

-- there were no random bytes, and the disk is as it was
pub record HasNoRandom (options : InitOptions) (parts : Components) (disk : DiskState) (entropy : EntropyState) (disk' : DiskState) (entropy' : EntropyState) : Type 0 where
  pub served : early_refusal options parts disk.size ≡ None
  pub none : TakesNone entropy entropy'
  pub unchanged : disk' ≡ disk

-- `init` is refused, and nothing was done
pub record RefusesInit (options : InitOptions) (parts : Components) (disk : DiskState) (entropy : EntropyState) (refusal : Refusal) (disk' : DiskState) (entropy' : EntropyState) : Type 0 where
  pub cause : early_refusal options parts disk.size ≡ Some refusal
  pub disk_unchanged : disk' ≡ disk
  pub entropy_unchanged : entropy' ≡ entropy

abbrev pub Inits : InitOptions → Components → DiskState → EntropyState → Result Metadata Refusal → DiskState → EntropyState → Type 0
Inits options parts disk entropy (Ok m) disk' entropy' = Writes options parts disk entropy m disk' entropy'
Inits options parts disk entropy (Err DeviceFault) disk' entropy' = MakesPart options parts disk entropy disk' entropy'
Inits options parts disk entropy (Err EntropyFault) disk' entropy' = HasNoRandom options parts disk entropy disk' entropy'
Inits options parts disk entropy (Err refusal) disk' entropy' = RefusesInit options parts disk entropy refusal disk' entropy'
