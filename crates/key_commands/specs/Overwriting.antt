-- Slots of the metadata that are cleared and overwritten (geli(8), delkey).
use Rattle.std.specs.Prelude.{◌≡◌, ℕ, ◌*◌, ◌<◌, ◌&&◌, not, nat_lt, bit_and, Bool, IsTrue, false, List, [], ◌∷◌, length, map, Option, None, Ok}
use Rattle.std.specs.Coded.{Unit-prop, le_prop}
use Rattle.block_traits.specs.Disk.{DiskState, last_sector}
use Rattle.block_traits.specs.Overwriting.{overwrite_events, passes_of}
use Rattle.block_traits.specs.declared.disk.Event.{Event}
use Rattle.eli_base.specs.Refusals.{first_that_holds}
use Rattle.eli_base.specs.declared.refusals.Refusal.{Refusal}
use Rattle.eli_base.specs.declared.refusals.Refusal.TheVariants.{KeyNumberOutOfRange, KeyNotSet, LastKey}
use Rattle.eli_metadata.specs.Checks.{is_set}
use Rattle.eli_metadata.specs.Format.{encoded, is_served, metadata_in}
use Rattle.eli_metadata.specs.declared.metadata.Metadata.{Metadata}
use Rattle.key_slots.specs.Slots.{without_slot}
use Rattle.key_commands.specs.NewKey.{is_only_key}
use Rattle.key_commands.specs.declared.overwriting.Which.{Which}
use Rattle.key_commands.specs.declared.overwriting.Which.TheVariants as slots

-- the first refusal that holds: a slot that is named alone must exist, hold a key, and not be the only one that does,
-- unless forced
abbrev pub deletion_refusal : Metadata → Which → Bool → Option Refusal
deletion_refusal m slots.All force = None
deletion_refusal m (slots.One slot) force = first_that_holds (
    (nat_lt 1 slot, KeyNumberOutOfRange slot)
    ∷ (not (is_set m slot), KeyNotSet slot)
    ∷ (not force && is_only_key m slot, LastKey slot)
    ∷ [])

-- the slots that are named exist
abbrev pub IsThere : Which → Type 0
IsThere slots.All = Unit {0}
IsThere (slots.One slot) = slot < 2

-- two proofs that the named slots exist are equal, as the ghost field of a pass requires
pub IsThere-prop : (which : Which) → IsProp (IsThere which)
IsThere-prop slots.All = Unit-prop
IsThere-prop (slots.One slot) = le_prop

-- slot s is named
abbrev pub Names : Which → ℕ → Type 0
Names slots.All s = s < 2
Names (slots.One slot) s = s ≡ slot

-- the bytes of the named slots
abbrev pub named_size : Which → ℕ
named_size slots.All = 384
named_size (slots.One slot) = 192

-- the metadata with these bytes in the named slots, which are then clear
abbrev pub without_keys : Metadata → Which → List ℕ → Metadata
without_keys m slots.All bytes = record m { keys = bit_and m.keys 252; mkeys = bytes }
without_keys m (slots.One slot) bytes = without_slot m slot bytes

-- how many random bytes all passes take: there are six passes, and the last one takes none
abbrev pub filler_size : Which → ℕ
filler_size which = 5 * named_size which

-- the sector of the metadata with these bytes in the named slots
abbrev pub sector_without : Metadata → Which → List ℕ → List ℕ
sector_without m which bytes = encoded (without_keys m which bytes)

-- the sectors of the six passes, in order: five with pieces of the random bytes, and the last with zeros
unfoldable pub pass_sectors : Metadata → Which → List ℕ → List (List ℕ)
pass_sectors m which random = map (sector_without m which) (passes_of (named_size which) random)

-- the last sector is written over in six passes
abbrev pub pass_events : DiskState → Metadata → Which → List ℕ → List Event
pass_events disk m which random = overwrite_events (last_sector disk) (pass_sectors m which random)

-- the value is the sector of the metadata with other bytes in the named slots, and these slots are clear
pub record HasNoKey (m : Metadata) (which : Which) (value : List ℕ) : Type 0 where
  pub bytes : List ℕ
  pub size : length bytes ≡ named_size which
  pub sector : value ≡ encoded (without_keys m which bytes)
  pub read : IsTrue (is_served m.version m.flags) → metadata_in value ≡ Ok (without_keys m which bytes)
  pub clear : (s : ℕ) → Names which s → is_set (without_keys m which bytes) s ≡ false
