-- What runs do to each drawer, whatever their lines.
use Rattle.std.specs.Prelude.{◌≡◌, ◌⊎◌, ◌&&◌, ℕ, List, [], ◌∷◌, ◌++◌, Bool, true, false, Option, Some, None, Result, Ok, Err, slice_get}
use Rattle.std.specs.List.{AllByRecursion, list_any}
use Rattle.std.specs.Str.{bytes_eq}
use Rattle.command_rows.specs.Rows.{Answer, DrawerState, World}
use Rattle.command_rows.specs.Vocabulary.{Command, Event, Logs, Span, bytes_at, provider_of}
use Rattle.reply_text.specs.Answer as answers
use Rattle.geli_core.specs.Trace.{ServedLine, Trace}
use Rattle.geli_core.specs.Vocabulary.{AreRowEvents, EventsBy, Sep, Usage, line_reading, stores_last, takes_out}

-- whether a command names a drawer
abbrev pub names_by : Option Span → List ℕ → List ℕ → Bool
names_by None line name = false
names_by (Some prov) line name = bytes_eq name (bytes_at line prov)

abbrev pub says_name : Result (Option Command) Usage → List ℕ → List ℕ → Bool
says_name (Err usage) line name = false
says_name (Ok None) line name = false
says_name (Ok (Some command)) line name = names_by (provider_of command) line name

-- whether a line names a drawer
abbrev pub names : Sep → List ℕ → List ℕ → Bool
names sep line name = says_name (line_reading sep line) line name

-- whether a command takes the drawer out
abbrev pub says_eject : Result (Option Command) Usage → List ℕ → List ℕ → Bool
says_eject (Err usage) line name = false
says_eject (Ok None) line name = false
says_eject (Ok (Some command)) line name = takes_out command && names_by (provider_of command) line name

-- whether a line was answered that it was done
abbrev pub is_done : Option Answer → Bool
is_done (Some answers.Done) = true
is_done answer = false

-- whether a line takes the drawer out
abbrev pub ejects : Sep → List ℕ → List ℕ → Bool
ejects sep line name = says_eject (line_reading sep line) line name

-- the line is a command that names the drawer, whose disk logs these events of it
pub record ServesDrawer (sep : Sep) (line : List ℕ) (answer : Option Answer) (old : DrawerState) (events : List Event) (new : DrawerState) : Type 0 where
  pub command : Command
  pub asked : line_reading sep line ≡ Ok (Some command)
  pub named : names sep line old.name ≡ true
  pub said : Answer
  pub answered : answer ≡ Some said
  pub name : new.name ≡ old.name
  pub logs : Logs events old.disk new.disk
  pub of_line : EventsBy (AreRowEvents line command old.disk old.holding) (stores_last command) said events

-- a drawer while a line is served, and stays: it is as it was, or the line names it
abbrev pub DrawerSteps : Sep → List ℕ → Option Answer → DrawerState → List Event → DrawerState → Type 0
DrawerSteps sep line answer old events new = ((new ≡ old) × (events ≡ [])) ⊎ ServesDrawer sep line answer old events new

-- the line takes the drawer out
pub record TakesDrawer (sep : Sep) (line : List ℕ) (answer : Option Answer) (old : DrawerState) : Type 0 where
  pub ejected : ejects sep line old.name ≡ true
  pub named : names sep line old.name ≡ true
  pub done : answer ≡ Some answers.Done

-- a drawer while lines are served, and whether it is there at last: the events are those of its lines, one after the
-- other, and `last` is how it is at last, or was when a line took it out
abbrev pub DrawerRuns : Sep → List ServedLine → DrawerState → List Event → Bool → DrawerState → Type 0
DrawerRuns sep [] old events there last = (there ≡ true) × (last ≡ old) × (events ≡ [])
DrawerRuns sep (l ∷ lines) old events there last =
    ((middle : DrawerState) × (first : List Event) × (rest : List Event)
    × DrawerSteps sep l.line l.answer old first middle × DrawerRuns sep lines middle rest there last × (events ≡ first ++ rest))
    ⊎ (TakesDrawer sep l.line l.answer old × (there ≡ false) × (last ≡ old) × (events ≡ []))

-- if the drawer is there at last, it stands so in the list
abbrev pub IsLast : Bool → DrawerState → List DrawerState → Type 0
IsLast true last drawers = (place : ℕ) × (slice_get drawers place ≡ Some last)
IsLast false last drawers = Unit {0}

-- a drawer while lines are served
pub record RunsAt (sep : Sep) (lines : List ServedLine) (before : DrawerState) (drawers : List DrawerState) : Type 0 where
  pub there : Bool
  pub last : DrawerState
  pub events : List Event
  pub runs : DrawerRuns sep lines before events there last
  pub ends : IsLast there last drawers
  pub name : last.name ≡ before.name
  pub logs : Logs events before.disk last.disk
  pub unnamed : AllByRecursion (λ (l : ServedLine). names sep l.line before.name ≡ false) lines → (there ≡ true) × (last ≡ before)

-- ---- all drawers

-- a drawer keeps its name, and nothing happens to its disk but that its history grows and its count of faults may rise
pub record Grew (old new : DrawerState) : Type 0 where
  pub name : new.name ≡ old.name
  pub events : List Event
  pub logs : Logs events old.disk new.disk

-- each drawer keeps its name and its history only grew (`Grew`), in order; a drawer whose name is gone may be left out,
-- and none is added
abbrev pub EachGrew : (List ℕ → Type 0) → List DrawerState → List DrawerState → Type 0
EachGrew Gone [] [] = Unit {0}
EachGrew Gone [] (new ∷ news) = ⊥
EachGrew Gone (old ∷ olds) [] = Gone old.name × EachGrew Gone olds []
EachGrew Gone (old ∷ olds) (new ∷ news) = (Grew old new × EachGrew Gone olds news) ⊎ (Gone old.name × EachGrew Gone olds (new ∷ news))

-- whether a line took the drawer with this name out: it says so, and that was done
abbrev pub ejected : Sep → ServedLine → List ℕ → Bool
ejected sep l name = ejects sep l.line name && is_done l.answer

-- each drawer is there as before, and the history of its disk grew, or one of the lines that were served took it out
abbrev pub KeepsDrawers : World → Trace → World → Type 0
KeepsDrawers entry trace exit = EachGrew (λ name. list_any (λ (l : ServedLine). ejected trace.sep l name) trace.lines ≡ true) entry.drawers exit.drawers
