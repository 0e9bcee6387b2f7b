-- What a line does to the drawers, whatever its row: only the drawer that it names changes or is taken out, and the
-- history of its disk grows by events of the line.
use Rattle.std.specs.List.{remove}
use Rattle.std.specs.Prelude.{Bool, List, None, Option, Some, [], false, option_and_then, slice_get, slice_set, take, true, ℕ, ◌≡◌, ◌⊎◌}
use Rattle.eli_base.specs.declared.refusals.Refusal.TheVariants as refusals
use Rattle.reply_text.specs.Answer as answers
use Rattle.command_rows.specs.Gate.{traits_of}
use Rattle.command_rows.specs.Rows.{Answer, DrawerState, Holding, place_of}
use Rattle.command_rows.specs.Turn.{takes_out}
use Rattle.command_rows.specs.Vocabulary.{Command, DiskState, Event, Logs, Refusal, bytes_at, provider_of}
use Rattle.command_rows.specs.verbs.{verb_of}

-- ---- the events of a line

-- the events of a line that is served to its end
abbrev pub AreRowEvents : List ℕ → Command → DiskState → Holding → List Event → Type 0
AreRowEvents line command disk holding events = (verb_of command).events line disk holding events

-- the first of some row's events, or all
pub record AreFirst (Row : List Event → Type 0) (events : List Event) : Type 0 where
  pub row : List Event
  pub is_row : Row row
  pub count : ℕ
  pub part : events ≡ take count row

-- whether a line stores a file once its events are done
abbrev pub stores_last : Command → Bool
stores_last command = (traits_of command).stores_last

-- the events of a line that is refused: none; if the disk failed, the first ones; and if the file that is stored last
-- was refused, all or none
abbrev pub BreaksOff : (List Event → Type 0) → Bool → Refusal → List Event → Type 0
BreaksOff Row stores refusals.DeviceFault events = (events ≡ []) ⊎ AreFirst Row events
BreaksOff Row true (refusals.CabinetFault word) events = (events ≡ []) ⊎ Row events
BreaksOff Row true refusals.NoMemory events = (events ≡ []) ⊎ Row events
BreaksOff Row stores refusal events = events ≡ []

abbrev pub EventsBy : (List Event → Type 0) → Bool → Answer → List Event → Type 0
EventsBy Row stores (answers.Refused refusal) events = BreaksOff Row stores refusal events
EventsBy Row stores answer events = Row events

-- ---- the drawers

-- the drawer keeps its name, and its disk logs events of the line
pub record StepsBy (line : List ℕ) (command : Command) (answer : Answer) (old new : DrawerState) : Type 0 where
  pub name : new.name ≡ old.name
  pub events : List Event
  pub logs : Logs events old.disk new.disk
  pub of_line : EventsBy (AreRowEvents line command old.disk old.holding) (stores_last command) answer events

-- the drawer at a place steps by the line, and the others stay as they are and where they are
pub record StepsAt (line : List ℕ) (command : Command) (answer : Answer) (old new : List DrawerState) (place : ℕ) : Type 0 where
  pub before : DrawerState
  pub found : slice_get old place ≡ Some before
  pub after : DrawerState
  pub others : new ≡ slice_set old place after
  pub steps : StepsBy line command answer before after

-- the drawer at a place isn't there any more; the others stay as they are, and those after it move up
pub record LeavesAt (answer : Answer) (old new : List DrawerState) (place : ℕ) : Type 0 where
  pub before : DrawerState
  pub found : slice_get old place ≡ Some before
  pub done : answer ≡ answers.Done
  pub others : new ≡ remove old place

abbrev pub ChangesBy : Bool → List ℕ → Command → Answer → List DrawerState → List DrawerState → ℕ → Type 0
ChangesBy true line command answer old new place = LeavesAt answer old new place
ChangesBy false line command answer old new place = StepsAt line command answer old new place

-- the place of the drawer that a command names
abbrev pub place_named : List ℕ → Command → List DrawerState → Option ℕ
place_named line command drawers = option_and_then (λ prov. place_of (bytes_at line prov) drawers) (provider_of command)

-- the drawer at this place changes so; if there is none, nothing does
abbrev pub OnlyAt : List ℕ → Command → Answer → List DrawerState → List DrawerState → Option ℕ → Type 0
OnlyAt line command answer old new None = new ≡ old
OnlyAt line command answer old new (Some place) = ChangesBy (takes_out command) line command answer old new place

-- of all drawers only the one that the command names changes so; if it names none, nothing does
abbrev pub OnlySteps : List ℕ → Command → Answer → List DrawerState → List DrawerState → Type 0
OnlySteps line command answer old new = OnlyAt line command answer old new (place_named line command old)
