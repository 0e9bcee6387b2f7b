-- What the lines of a run leave of each drawer's disk if power fails at any moment of them.
use Rattle.std.specs.Prelude.{◌≡◌, ℕ, ◌<◌, List, [], map, IfSome, MatchOption}
use Rattle.std.specs.Option.{option_map}
use Rattle.command_rows.specs.Rows.{DrawerState, Holding, IsAmong, World, attachment_in}
use Rattle.command_rows.specs.Vocabulary.{Content, IsKeying, Keying}
use Rattle.geli_core.specs.Placing.{DrawerPlays, PlaysToExit}
use Rattle.geli_core.specs.Trace.{ServedLine, Trace}
use Rattle.geli_core.specs.Vocabulary.{AreSteps, Endures, Play, Sep, Step, Task, after, content_media, request_of}

-- what is promised of steps that were done on a disk that had this content before: each of their writes has a number of
-- its own, and at each moment of them each logical sector endures a crash, under each keying
pub record EnduresCrashes (steps : List Step) (c : Content) : Type 0 where
  pub fit : AreSteps steps
  pub endures : (t : ℕ) (k : Keying) (sector : ℕ) → IsKeying k → sector < content_media k c → Endures c steps t k sector

-- no request is open on a drawer that does this
abbrev pub HasNoRequests : Holding → Type 0
HasNoRequests holding = IfSome (attachment_in holding) (λ a. a.queue ≡ [])

-- the requests that are open are just those of these tasks; a drawer that isn't attached has none
abbrev pub HasTasks : Holding → List Task → Type 0
HasTasks holding tasks = MatchOption (attachment_in holding) (tasks ≡ []) (λ a. a.queue ≡ map (request_of a.keying) tasks)

-- A drawer that is there in the end was there before under its name, and did the steps of this play line by line. If
-- its disk reports its content, the history grew by exactly the events of the steps, and they endure crashes; and the
-- open requests are those of the play, if none was open before.
pub record SurvivesBy (Plays : DrawerState → Play → DrawerState → Type 0) (olds : List DrawerState) (new : DrawerState) : Type 0 where
  pub before : DrawerState
  pub was : IsAmong olds before
  pub name : new.name ≡ before.name
  pub play : Play
  pub plays : Plays before play new
  pub content : new.disk.content ≡ option_map (after play.steps) before.disk.content
  pub endures : IfSome before.disk.content (EnduresCrashes play.steps)
  pub requests : HasNoRequests before.holding → IfSome before.disk.content (λ c. HasTasks new.holding play.tasks)

-- each drawer that is there after these lines survives crashes, by its play
abbrev pub EachSurvives : Sep → World → List ServedLine → World → Type 0
EachSurvives sep entry served now = (drawer : DrawerState) → IsAmong now.drawers drawer → SurvivesBy (DrawerPlays sep served) entry.drawers drawer

-- each drawer that is there at exit survives crashes, by its play
abbrev pub EachSurvivesRun : World → Trace → World → Type 0
EachSurvivesRun entry trace exit = (drawer : DrawerState) → IsAmong exit.drawers drawer →
    SurvivesBy (PlaysToExit entry trace.sep trace.lines trace.closing) entry.drawers drawer
