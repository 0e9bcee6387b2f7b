-- The drawers, and what else a command reaches, as plain data.
use Rattle.std.specs.Prelude.{◌≡◌, ℕ, ◌+◌, Bool, true, false, List, [], ◌∷◌, Option, Some, None, if◌then◌else◌, slice_get, IfSome, MatchOption}
use Rattle.std.specs.Option.{option_map}
use Rattle.std.specs.Str.{bytes_eq}
use Rattle.command_rows.specs.Vocabulary.{CabinetState, DiskState, EntropyState, IsKeying, Keying, Request}

-- with what a provider is attached: the slot that gave the master key, the keying, whether it is read-only, and the
-- requests that are open on it, in order of their tags
pub record Attachment : Type 0 where
  pub slot : ℕ
  pub keying : Keying
  pub readonly : Bool
  pub queue : List Request

-- what is kept of a provider that is suspended: the bytes of a logical sector and how many there were, the slot that
-- gave the master key, whether it is read-only, and the digest of the master key
pub record Kept : Type 0 where
  pub sectorsize : ℕ
  pub sectors : ℕ
  pub slot : ℕ
  pub readonly : Bool
  pub mark : List ℕ

-- what a drawer does with its disk: nothing, or its provider is attached, or suspended
pub data Holding : Type 0 where
  Idle : Holding
  IsAttached : Attachment → Holding
  IsSuspended : Kept → Holding

-- whether a drawer does nothing with its disk
abbrev pub is_idle : Holding → Bool
is_idle Idle = true
is_idle (IsAttached a) = false
is_idle (IsSuspended kept) = false

-- with what the provider of a drawer is attached, if it is: whatever else speaks of that sees it through this
abbrev pub attachment_in : Holding → Option Attachment
attachment_in Idle = None
attachment_in (IsAttached a) = Some a
attachment_in (IsSuspended kept) = None

-- a drawer is attached, with something of which this holds
abbrev pub AttachedWith : Holding → (Attachment → Type 0) → Type 0
AttachedWith holding Holds = MatchOption (attachment_in holding) ⊥ Holds

-- what is kept of the provider of a drawer, if it is suspended
abbrev pub kept_in : Holding → Option Kept
kept_in Idle = None
kept_in (IsAttached a) = None
kept_in (IsSuspended kept) = Some kept

-- a drawer is suspended, and this holds of what is kept
abbrev pub SuspendedWith : Holding → (Kept → Type 0) → Type 0
SuspendedWith holding Holds = MatchOption (kept_in holding) ⊥ Holds

-- a drawer: its name, what its disk reports of itself, and what it does with it
pub record DrawerState : Type 0 where
  pub name : List ℕ
  pub disk : DiskState
  pub holding : Holding

-- the place of the first drawer with this name
abbrev pub place_of : List ℕ → List DrawerState → Option ℕ
place_of name [] = None
place_of name (drawer ∷ drawers) = if bytes_eq drawer.name name then Some 0 else option_map (λ n. n + 1) (place_of name drawers)

-- no two drawers have one name
abbrev pub NamesDiffer : List DrawerState → Type 0
NamesDiffer [] = Unit {0}
NamesDiffer (drawer ∷ drawers) = (place_of drawer.name drawers ≡ None) × NamesDiffer drawers

-- this is one of the drawers
abbrev pub IsAmong : List DrawerState → DrawerState → Type 0
IsAmong drawers drawer = (place : ℕ) × (slice_get drawers place ≡ Some drawer)

-- what is attached has a keying that a provider may have
abbrev pub HoldsKeying : Holding → Type 0
HoldsKeying holding = IfSome (attachment_in holding) (λ a. IsKeying a.keying)

-- what is attached on each of the drawers has a keying that a provider may have
abbrev pub HoldKeyings : List DrawerState → Type 0
HoldKeyings drawers = (drawer : DrawerState) → IsAmong drawers drawer → HoldsKeying drawer.holding

-- all that a command may change
pub record World : Type 0 where
  pub drawers : List DrawerState
  pub cabinet : CabinetState
  pub entropy : EntropyState

-- what a command may change at the drawer that it names: its disk, what the drawer does with it, the cabinet and the
-- entropy
pub record Reach : Type 0 where
  pub disk : DiskState
  pub holding : Holding
  pub cabinet : CabinetState
  pub entropy : EntropyState

abbrev pub reach_of : DiskState → Holding → CabinetState → EntropyState → Reach
reach_of disk holding cabinet entropy = record { disk = disk; holding = holding; cabinet = cabinet; entropy = entropy }
