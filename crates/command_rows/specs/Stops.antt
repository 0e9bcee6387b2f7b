-- What a disk may hold at each moment of a line that changes its metadata, whenever power fails: the old or the new.
use Rattle.std.specs.Prelude.{Bool, List, MatchOption, Option, Some, false, slice_get, true, ℕ, ◌≡◌, ◌⊎◌}
use Rattle.reply_text.specs.Answer as answers
use Rattle.command_rows.specs.Rows.{Answer, DrawerState, Holding, World, place_of}
use Rattle.command_rows.specs.Turn.{takes_out}
use Rattle.command_rows.specs.Vocabulary.{Command, DiskState, Files, bytes_at, provider_of}
use Rattle.command_rows.specs.verbs.{verb_of}

-- ---- a line

-- what a line changes in the metadata on the disk that it names, by the files that are reported and what the drawer did
-- with its disk, whether or not it's done
abbrev pub ChangesMetadata : List ℕ → Command → Option Files → Holding → DiskState → Bool → DiskState → Type 0
ChangesMetadata line command told holding old done new = (verb_of command).changes line told holding old done new

-- a line that is refused changes the metadata so up to where it stopped, or leaves the disk's content as it is
abbrev pub ChangesOrStays : (DiskState → Bool → DiskState → Type 0) → Answer → DiskState → DiskState → Type 0
ChangesOrStays Changes (answers.Refused refusal) old new = (new.content ≡ old.content) ⊎ Changes old false new
ChangesOrStays Changes answer old new = Changes old true new

abbrev pub LeavesAtEachMoment : List ℕ → Command → Option Files → Answer → DrawerState → DrawerState → Type 0
LeavesAtEachMoment line command told answer old new = ChangesOrStays (ChangesMetadata line command told old.holding) answer old.disk new.disk

-- the drawer at a place is left as `LeavesAtEachMoment` says
pub record LeavesPlace (line : List ℕ) (command : Command) (answer : Answer) (old new : World) (place : ℕ) : Type 0 where
  pub before : DrawerState
  pub found : slice_get old.drawers place ≡ Some before
  pub after : DrawerState
  pub there : slice_get new.drawers place ≡ Some after
  pub leaves : LeavesAtEachMoment line command old.cabinet.files answer before after

-- the drawer at a place is left as `LeavesAtEachMoment` says, unless the line takes it out of the list
abbrev pub LeavesUnless : Bool → List ℕ → Command → Answer → World → World → ℕ → Type 0
LeavesUnless true line command answer old new place = Unit {0}
LeavesUnless false line command answer old new place = LeavesPlace line command answer old new place

-- a line leaves the drawer that it names as `LeavesAtEachMoment` says, if there is one
abbrev pub LeavesOldOrNew : List ℕ → Command → Answer → World → World → Type 0
LeavesOldOrNew line command answer old new =
    MatchOption (provider_of command) (Unit {0})
    (λ prov. MatchOption (place_of (bytes_at line prov) old.drawers) (Unit {0}) (LeavesUnless (takes_out command) line command answer old new))
