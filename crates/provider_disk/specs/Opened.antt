-- What a disk upon a provider reports: what the disk below reports, each device sector but the last opened by itself.
-- The last has the metadata. Logical sectors are single device sectors here (`IsSingle` of sealing).
use Rattle.std.specs.Prelude.{◌≡◌, ℕ, ◌+◌, ◌-◌, ◌≤◌, nat_lt, Bool, false, List, [], ◌∷◌, length, take, if◌then◌else◌, Result, Ok, Err}
use Rattle.block_traits.specs.declared.disk.Event.{Event}
use Rattle.block_traits.specs.declared.disk.Event.TheVariants.{Write, Flush}
use Rattle.block_traits.specs.Content.{Content, at_moment}
use Rattle.block_traits.specs.Crash.{HoldsKept}
use Rattle.eli_base.specs.Keying.{Keying}
use Rattle.sealing.specs.Sectors.{IsSingle, reading}

-- the bytes that are read, which a fault has none of
abbrev pub plain_of : Result (List ℕ) ℕ → List ℕ
plain_of (Ok bytes) = bytes
plain_of (Err offset) = []

-- what logical sector n reads as if its device sector holds these bytes
unfoldable pub opened_single : Keying → ℕ → List ℕ → List ℕ
opened_single k n bytes = plain_of (reading k n (bytes ∷ []))

-- what logical sectors from n on read as if their device sectors hold these bytes, one after another
abbrev pub opened_from : Keying → ℕ → List (List ℕ) → List (List ℕ)
opened_from k n [] = []
opened_from k n (bytes ∷ sectors) = opened_single k n bytes ∷ opened_from k (n + 1) sectors

-- all sectors but the last, opened
abbrev pub opened_data_sectors : Keying → List (List ℕ) → List (List ℕ)
opened_data_sectors k sectors = opened_from k 0 (take (length sectors - 1) sectors)

-- the writes of the first so many sectors, with what these then read as, and the flushes; writes of later sectors are
-- left out
abbrev pub opened_events : Keying → ℕ → List Event → List Event
opened_events k count [] = []
opened_events k count (Write n bytes ∷ events) =
    (if nat_lt n count then Write n (opened_single k n bytes) ∷ opened_events k count events else opened_events k count events)
opened_events k count (Flush ∷ events) = Flush ∷ opened_events k count events

-- the base is what the base below reads as; the history is that below, each write of a data sector opened, and those of
-- the last sector left out
abbrev pub opened_content : Keying → Content → Content
opened_content k c = record { base = opened_data_sectors k c.base; history = opened_events k (length c.base - 1) c.history }

-- a keying under which a provider may be a disk again, and it is open for writing
pub record CanBeDisk (k : Keying) (readonly : Bool) : Type 0 where
  pub single : IsSingle k
  pub writable : readonly ≡ false

-- the last data sector below holds a kept value: it is the last sector of the disk upon the provider, which a torn or
-- altered image leaves
abbrev pub KeepsLastData : Content → List (List ℕ) → Type 0
KeepsLastData c image = HoldsKept c image (length c.base - 2)

-- what was logged below until this moment, opened, is what was logged here until some moment
pub record MomentAbove (k : Keying) (c : Content) (t : ℕ) : Type 0 where
  pub moment : ℕ
  pub within : moment ≤ length (opened_content k c).history
  pub is : opened_content k (at_moment t c) ≡ at_moment moment (opened_content k c)
