-- A new key in a slot of the metadata, which wraps the master key that is there (geli(8), setkey).
use Rattle.std.specs.Prelude.{◌≡◌, ◌≢◌, ℕ, ◌^◌, ◌<◌, ℤ, pos, ◌==◌, ◌&&◌, not, bit_and, Bool, IsTrue, IsOk, is_some, List, [], ◌∷◌, Option, Some, None, Result, Ok, if◌then◌else◌}
use Rattle.std.specs.Int.{is_negative}
use Rattle.eli_base.specs.declared.refusals.Refusal.{Refusal}
use Rattle.eli_base.specs.declared.refusals.Refusal.TheVariants.{IterationsNeedOneKey}
use Rattle.eli_metadata.specs.Checks.{is_set, size_matches, slot_matches, supported}
use Rattle.eli_metadata.specs.Format.{IsWhole, encoded, is_served, metadata_in}
use Rattle.eli_metadata.specs.declared.metadata.Metadata.{Metadata}
use Rattle.key_slots.specs.Slots.{Opens, OpensAsBefore, SameSlot, with_slot, wrapped}
use Rattle.user_key.specs.Derivation.{user_key}
use Rattle.user_key.specs.declared.components.Components.{Components}
use Rattle.user_key.specs.declared.components.KeyFault.{KeyFault}
use Rattle.user_key.specs.declared.components.PassPart.{PassPart}
use Rattle.user_key.specs.declared.components.PassPart.TheVariants.{Without, Missing, Given}
use Rattle.user_key.specs.declared.components.UserKey.{UserKey}
use Rattle.key_commands.specs.Options.{first_or_key}
use Rattle.key_commands.specs.Types.{IsMasterKey}

-- what is asked for: the metadata as they were read, the master key, the slot that is to have it, the iterations if
-- they are given, and the components of the new user key
pub record KeyChange : Type 0 where
  pub meta : Metadata
  pub master : List ℕ
  pub slot : ℕ
  pub iterations : Option ℤ
  pub parts : Components

-- the new iterations, from those that are given, the passphrase, and the old iterations: 100,000 if none are given, a
-- passphrase is, and none was set up before
abbrev pub new_iterations : Option ℤ → PassPart → ℤ → ℤ
new_iterations (Some count) passphrase kept = count
new_iterations None Without kept = kept
new_iterations None Missing kept = kept
new_iterations None (Given passphrase) kept = if is_negative kept then pos 100000 else kept

abbrev pub changed_iterations : KeyChange → ℤ
changed_iterations asked = new_iterations asked.iterations asked.parts.passphrase asked.meta.iterations

-- the user key that the new components make under the new iterations, or why they make none
abbrev pub new_user_key : KeyChange → Result UserKey KeyFault
new_user_key asked = user_key asked.parts asked.meta.salt (changed_iterations asked)

-- whether this slot holds a key and the other one doesn't
abbrev pub is_only_key : Metadata → ℕ → Bool
is_only_key m slot = bit_and m.keys 3 == 2 ^ slot

-- the first refusal that holds: iterations may be given only if the one key that is set is replaced, since another key
-- was made with the old iterations
abbrev pub change_refusal : KeyChange → Option Refusal
change_refusal asked = first_or_key (
    (is_some asked.iterations && not (is_only_key asked.meta asked.slot), IterationsNeedOneKey)
    ∷ []) (new_user_key asked)

-- the metadata with the new iterations, and the master key wrapped by the user key u in the slot
abbrev pub with_key : KeyChange → List ℕ → Metadata
with_key asked u =
    let m = asked.meta in
    with_slot (record m { iterations = changed_iterations asked }) asked.slot (wrapped asked.master u m.keylen)

-- what new metadata keep of slot s: its bytes and its bit, what each user key opens it to, and, if it holds a key, the
-- user key that components make
pub record KeepsSlot (old new : Metadata) (s : ℕ) : Type 0 where
  pub same : SameSlot old new s
  pub opens : OpensAsBefore old new s
  pub derives : IsTrue (is_set old s) → (parts : Components) (key : UserKey) → user_key parts old.salt old.iterations ≡ Ok key
      → user_key parts new.salt new.iterations ≡ Ok key

-- the check and the gate of sizes return for the new metadata what they return for the old ones, and slot s holds a key
pub record IsAcceptedAs (old new : Metadata) (s : ℕ) : Type 0 where
  pub settings : supported new ≡ supported old
  pub size : (sectors : ℕ) → size_matches new sectors ≡ size_matches old sectors
  pub any_slot : slot_matches new None ≡ Ok tt
  pub slot : slot_matches new (Some s) ≡ Ok tt

-- what the call requires of its arguments: values of their types, a slot that exists, and metadata that are supported
pub record IsAskedFor (asked : KeyChange) : Type 0 where
  pub whole : IsWhole asked.meta
  pub checked : IsOk (supported asked.meta)
  pub there : asked.slot < 2
  pub master : IsMasterKey asked.master

-- nothing is refused, and these are the new metadata, with the user key that the components make under the salt and the
-- iterations in them
pub record MakesKey (asked : KeyChange) (m : Metadata) : Type 0 where
  pub given : IsAskedFor asked
  pub served : change_refusal asked ≡ None
  pub key : UserKey
  pub derived : user_key asked.parts m.salt m.iterations ≡ Ok key
  pub metadata : m ≡ with_key asked key.bytes
  pub whole : IsWhole m

-- the new metadata can be used: they are read back if their version is one that is read, they are accepted, the slot
-- opens to the master key with the user key u, and the other slot is kept
pub record HasNewKey (asked : KeyChange) (m : Metadata) (u : List ℕ) : Type 0 where
  pub read : IsTrue (is_served m.version m.flags) → metadata_in (encoded m) ≡ Ok m
  pub accepted : IsAcceptedAs asked.meta m asked.slot
  pub opens : Opens m u asked.slot asked.master
  pub other : (s : ℕ) → s < 2 → s ≢ asked.slot → KeepsSlot asked.meta m s
