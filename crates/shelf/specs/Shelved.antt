-- A shelf: its drawers, and the buffer of requests; and the drawers of the code as plain data.
use Rattle.std.specs.Prelude.{◌≡◌, ℕ, Bool, true, false, List, length, map, replicate}
use Rattle.command_rows.specs.Rows.{Attachment, DrawerState, Holding, Idle, IsAttached, IsSuspended, Kept, NamesDiffer, Reach, World, reach_of}
use Rattle.command_rows.specs.Vocabulary.{Attached, CabinetState, DiskState, EntropyState, Request}
use Rattle.shelf.specs.declared.drawer.Drawer.{Drawer}
use Rattle.shelf.specs.declared.drawer.Held.{Held}
use Rattle.shelf.specs.declared.drawer.Held.TheVariants as held
use Rattle.suspend.specs.Suspension.{Suspension}

-- the drawers in order of adding, and the bytes of the last request
pub record Shelved (D : Type 0) : Type 0 where
  pub drawers : List (Drawer D)
  pub buffer : List ℕ

-- nothing of a request stands in the buffer: all its bytes are zeros
abbrev pub IsWiped : {D : Type 0} → Shelved D → Type 0
IsWiped shelf = shelf.buffer ≡ replicate (length shelf.buffer) 0

-- a provider on which these requests are open
abbrev pub attachment_of : {D : Type 0} → List Request → Attached D → Attachment
attachment_of queue p = record { slot = p.slot; keying = p.keying; readonly = p.readonly; queue = queue }

abbrev pub kept_of : {D : Type 0} → Suspension D → Kept
kept_of s = record { sectorsize = s.sectorsize; sectors = s.sectors; slot = s.slot; readonly = s.readonly; mark = s.mark }

-- what a command reaches on a drawer where this provider is attached, with these open requests
abbrev pub reach_on : {D : Type 0} → (D → DiskState) → List Request → Attached D → CabinetState → EntropyState → Reach
reach_on state queue p cabinet entropy = reach_of (state p.disk) (IsAttached (attachment_of queue p)) cabinet entropy

-- the disk in a drawer, and what the drawer does with it
abbrev pub disk_in : {D : Type 0} → (D → DiskState) → Held D → DiskState
disk_in state (held.Idle disk) = state disk
disk_in state (held.Attached provider queue) = state provider.disk
disk_in state (held.Suspended suspended queue) = state suspended.disk

abbrev pub holding_of : {D : Type 0} → Held D → Holding
holding_of (held.Idle disk) = Idle
holding_of (held.Attached provider queue) = IsAttached (attachment_of queue provider)
holding_of (held.Suspended suspended queue) = IsSuspended (kept_of suspended)

-- what a command reaches on a drawer that holds this
abbrev pub reach_in : {D : Type 0} → (D → DiskState) → Held D → CabinetState → EntropyState → Reach
reach_in state held cabinet entropy = reach_of (disk_in state held) (holding_of held) cabinet entropy

-- a provider is attached
abbrev pub is_attached : Holding → Bool
is_attached Idle = false
is_attached (IsAttached a) = true
is_attached (IsSuspended kept) = false

abbrev pub drawer_of : {D : Type 0} → (D → DiskState) → Drawer D → DrawerState
drawer_of state drawer = record { name = drawer.name; disk = disk_in state drawer.held; holding = holding_of drawer.held }

-- the drawers in order of adding
abbrev pub drawers_of : {D : Type 0} → (D → DiskState) → List (Drawer D) → List DrawerState
drawers_of state drawers = map (drawer_of state) drawers

-- no two drawers have one name, whatever their disks report
abbrev pub DifferInName : {D : Type 0} → List (Drawer D) → Type 0
DifferInName {D} drawers = (state : D → DiskState) → NamesDiffer (drawers_of state drawers)

abbrev pub world_of : {D : Type 0} → (D → DiskState) → Shelved D → CabinetState → EntropyState → World
world_of state shelf cabinet entropy = record { drawers = drawers_of state shelf.drawers; cabinet = cabinet; entropy = entropy }
