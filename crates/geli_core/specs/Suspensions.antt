-- What the lines of a run do with suspended drawers: while a drawer is suspended its disk logs nothing, and it is
-- attached again with the master key that it had.
use Rattle.std.specs.Prelude.{◌≡◌, ◌⊎◌, ℕ, List, [], ◌∷◌, ◌++◌, Option, None, Some, Ok, slice_get}
use Rattle.block_traits.specs.declared.disk.Event.TheVariants.{Flush}
use Rattle.command_rows.specs.Rows.{Answer, Attachment, DrawerState, IsAmong, IsAttached, IsSuspended, Kept, OfResume, Reach, RunKind, World, place_of}
use Rattle.command_rows.specs.Vocabulary.{FailsIn, KeyWords, Logs, Span, UserKey, bytes_at, sha256, user_key}
use Rattle.command_words.specs.declared.commands.Command.TheVariants as commands
use Rattle.key_slots.specs.Slots.{Opens}
use Rattle.suspend.specs.Resuming.{AreCollision}
use Rattle.reply_text.specs.Answer as answers
use Rattle.command_rows.specs.verbs.Attach.{OpensWith}
use Rattle.command_rows.specs.Verb.{OfOther, OfRead, OfReap, OfSum, OfSweep}
use Rattle.command_rows.specs.verbs.Suspend.{kept_by}
use Rattle.geli_core.specs.Trace.{ServedLine, world_behind}
use Rattle.geli_core.specs.Vocabulary.{Sep, line_reading, reach}

-- ---- while a drawer is suspended

-- the drawer is suspended all the time while lines are served, this is kept of it, and its disk logs nothing, whatever
-- lines name it: after each line it is one of the drawers of the world there, under its name
abbrev pub StaysSuspendedThrough : Kept → List ServedLine → DrawerState → DrawerState → Type 0
StaysSuspendedThrough kept [] old new = (new ≡ old) × (old.holding ≡ IsSuspended kept)
StaysSuspendedThrough kept (l ∷ lines) old new =
    (middle : DrawerState) × IsAmong l.next.drawers middle × (middle.name ≡ old.name) × (old.holding ≡ IsSuspended kept) × Logs [] old.disk middle.disk
    × StaysSuspendedThrough kept lines middle new

-- the drawer was suspended at entry, and has been so since
pub record SuspendedBefore (entry : World) (served : List ServedLine) (drawer : DrawerState) (kept : Kept) : Type 0 where
  pub before : DrawerState
  pub there : IsAmong entry.drawers before
  pub stays : StaysSuspendedThrough kept served before drawer

-- One of the lines was a `suspend`, before which this was attached on the drawer. What is kept is that of its provider,
-- the disk was flushed or failed in that, and it has been suspended since.
pub record SuspendedSince (sep : Sep) (entry : World) (served : List ServedLine) (drawer : DrawerState) (kept : Kept) (a : Attachment) : Type 0 where
  pub earlier : List ServedLine
  pub suspend : ServedLine
  pub later : List ServedLine
  pub are : served ≡ earlier ++ suspend ∷ later
  pub prov : Span
  pub asked : line_reading sep suspend.line ≡ Ok (Some (commands.Suspend prov))
  pub before : DrawerState
  pub there : IsAmong (world_behind entry earlier).drawers before
  pub attached : before.holding ≡ IsAttached a
  pub after : DrawerState
  pub among : IsAmong suspend.next.drawers after
  pub name : after.name ≡ before.name
  pub flushes : Logs (Flush ∷ []) before.disk after.disk ⊎ FailsIn (Flush ∷ []) before.disk after.disk
  pub keeps : kept ≡ kept_by a before.disk
  pub stays : StaysSuspendedThrough kept later after drawer

-- each drawer that is suspended after these lines was suspended at entry (`SuspendedBefore`) or by a line
-- (`SuspendedSince`)
abbrev pub AreSuspended : Sep → World → List ServedLine → World → Type 0
AreSuspended sep entry served now = (drawer : DrawerState) (kept : Kept) → IsAmong now.drawers drawer → drawer.holding ≡ IsSuspended kept →
    SuspendedBefore entry served drawer kept ⊎ ((a : Attachment) × SuspendedSince sep entry served drawer kept a)

-- ---- `resume`

-- the key of which the words name the components opens a slot of the metadata on the disk to the master key that is
-- attached
pub record OpensSameMaster (line : List ℕ) (words : KeyWords) (kept : Kept) (old : Reach) (a : Attachment) : Type 0 where
  pub found : OpensWith line None kept.readonly words old a
  pub key : UserKey
  pub derived : user_key found.parts found.m.salt found.m.iterations ≡ Ok key
  pub opens : Opens found.m key.bytes a.slot a.keying.master

-- a `suspend` among the lines let go of this master key, or of another with the same digest
pub record HadMaster (sep : Sep) (entry : World) (served : List ServedLine) (drawer : DrawerState) (kept : Kept) (master : List ℕ) : Type 0 where
  pub a : Attachment
  pub since : SuspendedSince sep entry served drawer kept a
  pub same : (master ≡ a.keying.master) ⊎ AreCollision a.keying.master master

-- A drawer that was suspended when the line came is attached after it, with a master key that the given key opens. Its
-- digest is the one that was kept. If the drawer was suspended by one of the lines, the master key is the one that it
-- had then, or the two collide under SHA-256.
pub record ResumesSame (sep : Sep) (entry : World) (served : List ServedLine) (start : World) (line : List ℕ) (prov : Span) (words : KeyWords) (next : World) : Type 0 where
  pub place : ℕ
  pub named : place_of (bytes_at line prov) start.drawers ≡ Some place
  pub before : DrawerState
  pub found : slice_get start.drawers place ≡ Some before
  pub kept : Kept
  pub suspended : before.holding ≡ IsSuspended kept
  pub after : DrawerState
  pub there : slice_get next.drawers place ≡ Some after
  pub a : Attachment
  pub attached : after.holding ≡ IsAttached a
  pub opens : OpensSameMaster line words kept (reach before start) a
  pub digest : sha256 a.keying.master ≡ kept.mark
  pub same : SuspendedBefore entry served before kept ⊎ HadMaster sep entry served before kept a.keying.master

-- a `resume` that is done does as `ResumesSame` says
abbrev pub LineResumes : Sep → World → List ServedLine → World → RunKind → List ℕ → Option Answer → World → Type 0
LineResumes sep entry served start (OfResume prov words) line (Some answers.Done) next = ResumesSame sep entry served start line prov words next
LineResumes sep entry served start (OfResume prov words) line answer next = Unit {0}
LineResumes sep entry served start (OfRead prov sector count) line answer next = Unit {0}
LineResumes sep entry served start (OfSum prov sector count) line answer next = Unit {0}
LineResumes sep entry served start (OfReap prov tag) line answer next = Unit {0}
LineResumes sep entry served start (OfSweep prov file count restart) line answer next = Unit {0}
LineResumes sep entry served start OfOther line answer next = Unit {0}
