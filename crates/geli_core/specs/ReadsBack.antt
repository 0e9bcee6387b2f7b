-- What you write is what you read: what the lines of a run that read logical sectors return, from what its lines wrote
-- before.
use Rattle.std.specs.Prelude.{◌≡◌, ℕ, List, Option, Some, IfSome, Result, Ok, Err, All, Contains, slice_get}
use Rattle.command_rows.specs.Rows.{Answer, Attachment, DrawerState, IsAttached, RunKind, World, place_of}
use Rattle.command_rows.specs.Vocabulary.{Content, Keying, Span, bytes_at, sha256}
use Rattle.eli_base.specs.declared.refusals.Refusal.TheVariants as refusals
use Rattle.reply_text.specs.Answer as answers
use Rattle.command_rows.specs.Verb as kinds
use Rattle.geli_core.specs.Placing.{DrawerPlays}
use Rattle.geli_core.specs.Survivors.{SurvivesBy}
use Rattle.geli_core.specs.Trace.{ServedLine}
use Rattle.geli_core.specs.Vocabulary.{Flushes, Play, Reads, Sep, Step, Work, Writes, cell, data_from, data_read, data_steps, task_with}

-- When a line comes that names this provider, after these lines, its drawer is attached. It was there at entry, and did
-- the steps of a play since, line by line. If its disk reported its content at entry, this holds of the keying that is
-- attached, of that content and of the play.
pub record StandsSo (sep : Sep) (entry : World) (served : List ServedLine) (start : World) (line : List ℕ) (prov : Span) (Holds : Keying → Content → Play → Type 0) : Type 0 where
  pub place : ℕ
  pub named : place_of (bytes_at line prov) start.drawers ≡ Some place
  pub drawer : DrawerState
  pub there : slice_get start.drawers place ≡ Some drawer
  pub attachment : Attachment
  pub attached : drawer.holding ≡ IsAttached attachment
  pub survives : SurvivesBy (DrawerPlays sep served) entry.drawers drawer
  pub holds : IfSome survives.before.disk.content (λ c. Holds attachment.keying c survives.play)

-- a digest of what some logical sectors read as
pub record IsDigestOf (read : Result (List ℕ) ℕ) (digest : List ℕ) : Type 0 where
  pub bytes : List ℕ
  pub is : read ≡ Ok bytes
  pub digest_is : digest ≡ sha256 bytes

-- a task is a read, whose writings read so: those that stood in its device sectors, each at its own step
abbrev pub ReadsAsTask : Keying → (Result (List ℕ) ℕ) → Work → Type 0
ReadsAsTask k read (Reads sector count ws) = data_from k sector count ws ≡ read
ReadsAsTask k read (Writes number sector count bytes) = ⊥
ReadsAsTask k read Flushes = ⊥

-- the request with this tag that was submitted in the run is a read, whose writings read so; a request of a drawer that
-- had open requests at entry may be one of those
abbrev pub ReadsAsAsked : ℕ → Result (List ℕ) ℕ → Keying → Content → Play → Type 0
ReadsAsAsked tag read k c m = IfSome (task_with tag m.tasks) (λ t. ReadsAsTask k read t.work)

-- each unit of a write is among the steps
abbrev pub IsAmongSteps : List Step → Keying → Work → Type 0
IsAmongSteps steps k (Reads sector count ws) = ⊥
IsAmongSteps steps k (Writes number sector count bytes) = All (Contains steps) (data_steps number k sector count bytes)
IsAmongSteps steps k Flushes = Unit {0}

abbrev pub IsDoneAsAsked : ℕ → Keying → Content → Play → Type 0
IsDoneAsAsked tag k c m = IfSome (task_with tag m.tasks) (λ t. IsAmongSteps m.steps k t.work)

-- A `read` returns the bytes of its logical sectors, as the writings say that stand there last, and a `sum` their
-- SHA-256; or a fault at a byte offset, the first that they say. A `reap` of a read returns the bytes of the writings
-- that stood in its device sectors at its own steps, or the first fault that they say. When a write is reaped, each of
-- its units was done. Each kind is listed, so that a new one has to be decided on.
abbrev pub LineReads : Sep → World → List ServedLine → World → RunKind → List ℕ → Option Answer → Type 0
LineReads sep entry served start (kinds.OfRead prov sector count) line (Some (answers.Payload bytes)) =
    StandsSo sep entry served start line prov (λ k c m. data_read k sector count (cell c m.steps) ≡ Ok bytes)
LineReads sep entry served start (kinds.OfRead prov sector count) line (Some (answers.Refused (refusals.Integrity offset))) =
    StandsSo sep entry served start line prov (λ k c m. data_read k sector count (cell c m.steps) ≡ Err offset)
LineReads sep entry served start (kinds.OfSum prov sector count) line (Some (answers.Digest digest)) =
    StandsSo sep entry served start line prov (λ k c m. IsDigestOf (data_read k sector count (cell c m.steps)) digest)
LineReads sep entry served start (kinds.OfSum prov sector count) line (Some (answers.Refused (refusals.Integrity offset))) =
    StandsSo sep entry served start line prov (λ k c m. data_read k sector count (cell c m.steps) ≡ Err offset)
LineReads sep entry served start (kinds.OfReap prov tag) line (Some (answers.Payload bytes)) = StandsSo sep entry served start line prov (ReadsAsAsked tag (Ok bytes))
LineReads sep entry served start (kinds.OfReap prov tag) line (Some answers.Done) = StandsSo sep entry served start line prov (IsDoneAsAsked tag)
LineReads sep entry served start (kinds.OfReap prov tag) line (Some (answers.Refused (refusals.Integrity offset))) =
    StandsSo sep entry served start line prov (ReadsAsAsked tag (Err offset))
LineReads sep entry served start (kinds.OfRead prov sector count) line answer = Unit {0}
LineReads sep entry served start (kinds.OfSum prov sector count) line answer = Unit {0}
LineReads sep entry served start (kinds.OfReap prov tag) line answer = Unit {0}
LineReads sep entry served start (kinds.OfResume prov words) line answer = Unit {0}
LineReads sep entry served start (kinds.OfSweep prov file count restart) line answer = Unit {0}
LineReads sep entry served start kinds.OfOther line answer = Unit {0}
