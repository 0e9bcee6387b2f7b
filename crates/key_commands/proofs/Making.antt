-- What `init` did, from what its parts did, and that the metadata can be used.
use Rattle.std.proofs.Common.{◌≡◌, ℕ, ◌<◌, ◌^◌, List, [], ◌∷◌, length, drop, refl, ap, sym, ◌∙◌, None, Ok, Err, arith, length-drop}
use Rattle.std.proofs.lemmas.List.{length-take-le}
use Rattle.aes_core.specs.Schedule.{AreBytes}
use Rattle.aes_core.proofs.KeyBytes.{AreBytes-drop, AreBytes-take}
use Rattle.block_traits.specs.Content.{logged}
use Rattle.block_traits.specs.Disk.{DiskState, Logs, last_sector, store_events}
use Rattle.block_traits.specs.Moments.{KeepsAlone}
use Rattle.block_traits.specs.Streams.{EntropyState}
use Rattle.block_traits.specs.declared.disk.Event.TheVariants.{Flush}
use Rattle.block_traits.proofs.Logs.{logged-append}
use Rattle.block_traits.proofs.Overwritten.{KeepsAlone-overwrite}
use Rattle.eli_base.specs.declared.refusals.Refusal.{Refusal}
use Rattle.eli_base.specs.declared.refusals.Refusal.TheVariants.{EntropyFault, DeviceFault}
use Rattle.eli_metadata.specs.Format.{IsWhole, encoded, is_served}
use Rattle.eli_metadata.specs.Place.{replace_events}
use Rattle.eli_metadata.specs.declared.metadata.Metadata.{Metadata}
use Rattle.eli_metadata.proofs.Laws.{metadata_in-encoded}
use Rattle.key_commands.specs.NewProvider.{Inits, MakesMetadata, RefusesInit}
use Rattle.key_commands.specs.NewMetadata.{metadata_of, new_metadata}
use Rattle.key_commands.specs.Options.{early_refusal}
use Rattle.key_commands.specs.Random.{Draws, filler_in, master_key_in, random_size, salt_in}
use Rattle.key_commands.specs.Usable.{IsUsable, OpensFirst}
use Rattle.key_commands.specs.declared.options.InitOptions.{InitOptions}
use Rattle.key_commands.specs.declared.random.RandomParts.{RandomParts}
use Rattle.key_commands.proofs.Changing.{IsKeyBits-allowed}
use Rattle.key_commands.proofs.Keys.{inside-early_refusal}
use Rattle.key_commands.proofs.Usable.{IsAccepted-metadata_of, Opens-slot_0, OpensFirst-Opens, IsServed-early_refusal}
use Rattle.key_slots.specs.Slots.{IsKeyBits, wrapped}
use Rattle.key_slots.proofs.Wrapped.{IsSlotOf-wrapped, length-wrapped}
use Rattle.user_key.specs.Derivation.{user_key}
use Rattle.user_key.specs.declared.components.Components.{Components}
use Rattle.user_key.specs.declared.components.UserKey.{UserKey}

-- the metadata made from the parts of the random bytes are those made from the random bytes
pub makes : (options : InitOptions) (parts : Components) (sectors : ℕ) (random : RandomParts) (key : UserKey) (m : Metadata) (old new : EntropyState)
    → early_refusal options parts sectors ≡ None → Draws random old new → user_key parts random.salt options.iterations ≡ Ok key
    → m ≡ metadata_of options sectors random.salt (wrapped random.master.bytes key.bytes options.keylen) random.filler → IsWhole m
    → MakesMetadata options parts sectors old m new
makes options parts sectors random key m old new served draws derived is whole = record {
  served = served;
  random = draws.random;
  size = draws.size;
  bytes = draws.bytes;
  taken = draws.taken;
  key = key;
  derived = rw (← draws.salt) derived;
  metadata = rw (← draws.salt, ← draws.master, ← draws.filler) is;
  whole = whole;
}

-- slot 0 of new metadata opens
pub OpensFirst-new_metadata : (options : InitOptions) (sectors : ℕ) (random u : List ℕ) → IsKeyBits options.keylen → length random ≡ random_size → AreBytes random
    → OpensFirst (new_metadata options sectors random u) u (master_key_in random)
OpensFirst-new_metadata options sectors random u bits whole bytes =
    let m = new_metadata options sectors random u in
    let master = master_key_in random in
    let slot = wrapped master u options.keylen in
    let long : length master ≡ 128 = length-take-le 128 (drop 64 random) (omega (arith, length-drop 64 random)) in
    let small = AreBytes-take 128 (drop 64 random) (AreBytes-drop 64 random bytes) in
    OpensFirst-Opens m u master long
    (Opens-slot_0 m slot (filler_in random) u master refl refl (length-wrapped master u options.keylen bits long small) (IsSlotOf-wrapped master u options.keylen bits long small))

is_usable : (options : InitOptions) (parts : Components) (sectors : ℕ) (m : Metadata) (random : List ℕ) (key : UserKey) → early_refusal options parts sectors ≡ None → length random ≡ random_size → AreBytes random
    → user_key parts (salt_in random) options.iterations ≡ Ok key → m ≡ new_metadata options sectors random key.bytes → IsWhole m → sectors < 2 ^ 44
    → IsUsable options parts sectors m key (master_key_in random)
is_usable options parts sectors m random key served size bytes derived is whole small =
    let held = IsServed-early_refusal options parts sectors served in
    let bits = IsKeyBits-allowed options.cipher options.keylen held.allowed in
    record {
      read = metadata_in-encoded m whole.range whole.salt whole.mkeys (ap (λ (n : Metadata). is_served n.version n.flags) is);
      accepted = rw is (IsAccepted-metadata_of options sectors (salt_in random) (wrapped (master_key_in random) key.bytes options.keylen) (filler_in random) held.allowed held.sized small);
      room = held.room;
      derived = rw is derived;
      opens = rw is (OpensFirst-new_metadata options sectors random key.bytes bits size bytes);
    }

-- the metadata that were made can be used
pub IsUsable-makes : (options : InitOptions) (parts : Components) (sectors : ℕ) (old : EntropyState) (m : Metadata) (new : EntropyState) (makes : MakesMetadata options parts sectors old m new) → sectors < 2 ^ 44
    → IsUsable options parts sectors m makes.key (master_key_in makes.random)
IsUsable-makes options parts sectors old m new makes small =
    is_usable options parts sectors m makes.random makes.key makes.served makes.size makes.bytes makes.derived makes.metadata makes.whole small

-- the sector that was replaced holds the new bytes alone
pub KeepsAlone-replace : (disk disk' : DiskState) (m : Metadata) → Logs (replace_events disk m) disk disk' → KeepsAlone (encoded m) (last_sector disk) disk'.content
KeepsAlone-replace disk disk' m logs =
    KeepsAlone-overwrite (last_sector disk) (encoded m ∷ []) (logged (Flush ∷ []) disk.content) disk'.content (omega arith)
    (logs.content ∙ sym (logged-append (Flush ∷ []) (store_events disk (encoded m)) disk.content))

-- a refusal before anything was done
pub Inits-refused : (options : InitOptions) (parts : Components) (disk disk' : DiskState) (entropy entropy' : EntropyState) (refusal : Refusal)
    → RefusesInit options parts disk entropy refusal disk' entropy' → Inits options parts disk entropy (Err refusal) disk' entropy'
Inits-refused options parts disk disk' entropy entropy' DeviceFault refuses =
    let inside = inside-early_refusal options parts disk.size DeviceFault refuses.cause in absurd (cc)
Inits-refused options parts disk disk' entropy entropy' EntropyFault refuses =
    let inside = inside-early_refusal options parts disk.size EntropyFault refuses.cause in absurd (cc)
Inits-refused options parts disk disk' entropy entropy' _ refuses = refuses
