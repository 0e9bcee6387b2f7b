-- What a command does to the world: the row of its verb at the drawer that it names (geli(8)).
pub use Rattle.command_rows.specs.Replies.{Replies, digest_or, done_or, dump_or, left_or, payload_or, reaped_or, tag_or}
use Rattle.command_rows.specs.Rows.{Answer, DrawerState, Holding, Idle, IsAttached, IsSuspended, Reach, World, is_idle, place_of}
use Rattle.command_rows.specs.Vocabulary.{Command, DiskState, Event, IsHistory, Refusal, bytes_at, media, provider_of}
pub use Rattle.command_rows.specs.verbs.Attach.{AttachRow, AttachesUnless}
pub use Rattle.command_rows.specs.verbs.Detach.{DetachRow}
pub use Rattle.command_rows.specs.verbs.Dump.{DumpRow}
pub use Rattle.command_rows.specs.verbs.Flush.{FlushRow}
pub use Rattle.command_rows.specs.verbs.Read.{ReadRow}
pub use Rattle.command_rows.specs.verbs.Verify.{verified_or}
pub use Rattle.command_rows.specs.verbs.Write.{WriteRow}
use Rattle.std.specs.List.{remove}
use Rattle.std.specs.Prelude.{Bool, List, MatchOption, None, Option, Some, false, is_some, map, slice_get, slice_set, true, ℕ, ◌≡◌}
use Rattle.eli_base.specs.declared.refusals.Refusal.TheVariants as refusals
use Rattle.reply_text.specs.declared.rows.Row.{Row}
use Rattle.reply_text.specs.Answer as answers
use Rattle.command_rows.specs.Gate.{needs, refused_by, traits_of}
use Rattle.command_rows.specs.verbs.{verb_of}

-- ---- the row

-- the row of a command that names a drawer, which stays in the list and is in the state that the verb needs
abbrev pub GoesThrough : List ℕ → Command → Reach → Answer → Reach → Type 0
GoesThrough line command old reply new = (verb_of command).goes_through line old reply new

-- the drawer isn't in that state: the command is refused, and nothing changes
pub record IsRefused (old : Reach) (reply : Answer) (new : Reach) (refusal : Refusal) : Type 0 where
  pub refused : reply ≡ answers.Refused refusal
  pub unchanged : new ≡ old

-- a command is refused for its drawer's state, or goes through the row
abbrev pub Serves : List ℕ → Command → Reach → Answer → Reach → Type 0
Serves line command old reply new = MatchOption (refused_by (needs command) old.holding) (GoesThrough line command old reply new) (IsRefused old reply new)

-- ---- `list`

-- the entry of a drawer: an idle one has no sizes, and a suspended one those that were kept
abbrev pub entry_by : List ℕ → DiskState → Holding → Row
entry_by name disk Idle = record { name = name; attached = false; suspended = false; sectorsize = 0; sectors = 0 }
entry_by name disk (IsAttached a) = record { name = name; attached = true; suspended = false; sectorsize = a.keying.sectorsize; sectors = media a.keying disk }
entry_by name disk (IsSuspended kept) = record { name = name; attached = false; suspended = true; sectorsize = kept.sectorsize; sectors = kept.sectors }

abbrev pub entry_of : DrawerState → Row
entry_of drawer = entry_by drawer.name drawer.disk drawer.holding

-- an entry for each drawer, in order; or there was no memory
abbrev pub ListsAs : List DrawerState → Answer → Type 0
ListsAs drawers (answers.Rows rows) = rows ≡ map entry_of drawers
ListsAs drawers (answers.Refused refusals.NoMemory) = Unit {0}
ListsAs drawers answer = ⊥

-- what is listed, and nothing changes
pub record ListsDrawers (old : World) (reply : Answer) (new : World) : Type 0 where
  pub rows : ListsAs old.drawers reply
  pub unchanged : new ≡ old

-- ---- the turn

-- what a command reaches in a world, at a drawer
abbrev pub reach : DrawerState → World → Reach
reach drawer world = record { disk = drawer.disk; holding = drawer.holding; cabinet = world.cabinet; entropy = world.entropy }

-- the drawer at a place changes so, and the others stay
pub record ChangesAt (Step : Reach → Answer → Reach → Type 0) (old : World) (reply : Answer) (new : World) (place : ℕ) : Type 0 where
  pub before : DrawerState
  pub found : slice_get old.drawers place ≡ Some before
  pub after : DrawerState
  pub name : after.name ≡ before.name
  pub step : Step (reach before old) reply (reach after new)
  pub others : new.drawers ≡ slice_set old.drawers place after

-- no drawer has the name, and nothing changes
pub record IsUnknown (old : World) (reply : Answer) (new : World) : Type 0 where
  pub refused : reply ≡ answers.Refused refusals.UnknownProvider
  pub unchanged : new ≡ old

-- ---- `eject`

-- whether a command takes the drawer that it names out of the list; it has no row then
abbrev pub takes_out : Command → Bool
takes_out command = (traits_of command).takes_out

-- the drawer at a place is taken out with its disk, attached or not, and those after it move up; of a disk that is
-- gone nothing is said
pub record TakesOutDrawer (old : World) (reply : Answer) (new : World) (place : ℕ) : Type 0 where
  pub before : DrawerState
  pub found : slice_get old.drawers place ≡ Some before
  pub done : reply ≡ answers.Done
  pub left : new ≡ record { drawers = remove old.drawers place; cabinet = old.cabinet; entropy = old.entropy }

-- what a command does to the drawer at a place, and leaves of the list
abbrev pub ServesAt : Bool → List ℕ → Command → World → Answer → World → ℕ → Type 0
ServesAt true line command old reply new place = TakesOutDrawer old reply new place
ServesAt false line command old reply new place = ChangesAt (Serves line command) old reply new place

-- ---- a command

-- this is done at the place of the drawer with this name
abbrev pub TurnOf : (World → Answer → World → ℕ → Type 0) → List ℕ → World → Answer → World → Type 0
TurnOf At name old reply new = MatchOption (place_of name old.drawers) (IsUnknown old reply new) (At old reply new)

-- one command is served: the drawer of the provider that it names goes through the row of its verb, or is taken out
abbrev pub Turn : List ℕ → Command → World → Answer → World → Type 0
Turn line command old reply new =
    MatchOption (provider_of command) (ListsDrawers old reply new) (λ prov. TurnOf (ServesAt (takes_out command) line command) (bytes_at line prov) old reply new)

-- ---- the events

-- the events that a disk shows
pub record ShowsOf (disk : DiskState) (shown : Option (List Event)) : Type 0 where
  pub shows : is_some shown ≡ disk.shows
  pub history : IsHistory disk.content shown

-- only an idle drawer shows events
abbrev pub ShowsIf : Bool → DiskState → Option (List Event) → Type 0
ShowsIf true disk shown = ShowsOf disk shown
ShowsIf false disk shown = shown ≡ None

abbrev pub ShowsBy : Holding → DiskState → Option (List Event) → Type 0
ShowsBy holding disk shown = ShowsIf (is_idle holding) disk shown

pub record ShowsAt (drawers : List DrawerState) (shown : Option (List Event)) (place : ℕ) : Type 0 where
  pub drawer : DrawerState
  pub found : slice_get drawers place ≡ Some drawer
  pub events : ShowsBy drawer.holding drawer.disk shown

-- the events that the disk of the named drawer shows, if it is idle, or none
abbrev pub ShowsEvents : List ℕ → List DrawerState → Option (List Event) → Type 0
ShowsEvents name drawers shown = MatchOption (place_of name drawers) (shown ≡ None) (ShowsAt drawers shown)
