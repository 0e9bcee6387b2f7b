-- What holds of requests in flight, whatever lines are served.
use Rattle.std.specs.Prelude.{◌≡◌, ◌≢◌, ℕ, zero, suc, ◌+◌, ◌/◌, ◌≤◌, false, List, [], ◌∷◌, ◌++◌, length, All, IfSome, Option, Some, None, option_and_then, Result, Ok, Err, slice_get}
use Rattle.block_traits.specs.declared.disk.Event.TheVariants as event
use Rattle.command_rows.specs.Rows.{AttachedWith, Attachment, DrawerState, Holding, IsAmong, Reach, World, attachment_in, bytes_spelled, place_of}
use Rattle.command_rows.specs.Vocabulary.{AreAllOf, DiskState, JobWords, Keying, Logs, ReadsAs, Refusal, Span, bytes_at, data_writes, media, request_with, units_of}
use Rattle.command_words.specs.declared.commands.JobWords.TheVariants as words
use Rattle.eli_base.specs.declared.refusals.Refusal.TheVariants as refusals
use Rattle.geli_core.specs.Placing.{DrawerPlaces, DrawerPlays, work_in}
use Rattle.geli_core.specs.Survivors.{HasNoRequests, SurvivesBy}
use Rattle.geli_core.specs.Trace.{ServedLine}
use Rattle.geli_core.specs.Vocabulary.{Flush, Flushes, IsCovered, Play, Reads, ReapRow, Sep, Step, StepRow, SubmitRow, Work, Writes, data_steps, job_of, task_with}

-- ---- whose the requests are

-- the requests that are open on a drawer are of its provider, as it is: that provider would make them of their jobs
abbrev pub HoldsOwn : Holding → DiskState → Type 0
HoldsOwn holding disk = IfSome (attachment_in holding) (λ a. AreAllOf a.keying (media a.keying disk) a.queue)

-- the requests that are open on each of the drawers are of its provider
abbrev pub HoldOwn : List DrawerState → Type 0
HoldOwn drawers = (drawer : DrawerState) → IsAmong drawers drawer → HoldsOwn drawer.holding drawer.disk

-- no request is open on any of the drawers
abbrev pub HaveNoRequests : List DrawerState → Type 0
HaveNoRequests drawers = (drawer : DrawerState) → IsAmong drawers drawer → HasNoRequests drawer.holding

-- a provider is attached, on which no open request has the tag
abbrev pub LacksTag : ℕ → Holding → Type 0
LacksTag tag holding = AttachedWith holding (λ a. request_with tag a.queue ≡ None)

-- ---- what a flush covers

-- a flush covers each unit of a write
abbrev pub CoversWork : List Step → Keying → Work → Type 0
CoversWork steps k (Reads sector count ws) = ⊥
CoversWork steps k (Writes number sector count bytes) = All (IsCovered steps) (data_steps number k sector count bytes)
CoversWork steps k Flushes = Unit {0}

-- a drawer after some lines, when a line came that names this provider and reaps the request with this tag, and as it
-- is after further lines: its play goes on from the one to the other, and a flush after them covers the write that was
-- reaped
pub record CoversReaped (sep : Sep) (entry : World) (served : List ServedLine) (start : World) (reap : ServedLine) (prov : Span) (tag : ℕ) (rest : List ServedLine) (drawer : DrawerState) : Type 0 where
  pub before : DrawerState
  pub was : IsAmong start.drawers before
  pub survives : SurvivesBy (DrawerPlays sep served) entry.drawers before
  pub last : Play
  pub places : DrawerPlaces survives.before.disk.content sep (reap ∷ rest) before survives.play last drawer
  pub covers : option_and_then (slice_get start.drawers) (place_of (bytes_at reap.line prov) start.drawers) ≡ Some before → IfSome survives.before.disk.content
      (λ c. AttachedWith before.holding (λ a. IfSome (task_with tag survives.play.tasks) (λ t. CoversWork (last.steps ++ Flush ∷ []) a.keying t.work)))

-- ---- a request alone

-- so many steps of the request with this tag, one after the other, each of which is done
abbrev pub StepsDone : ℕ → ℕ → Reach → Reach → Type 0
StepsDone tag zero old new = new ≡ old
StepsDone tag (suc many) old new = (between : Reach) × (left : ℕ) × AttachedWith old.holding (λ a. StepRow tag a old (Ok left) between) × StepsDone tag many between new

-- a request is submitted, done step by step and reaped, and no other line comes between
pub record IsRequestDoneAlone (line : List ℕ) (asked : JobWords) (a : Attachment) (old : Reach) (answer : Result (Option (List ℕ)) Refusal) (new : Reach) : Type 0 where
  pub tag : ℕ
  pub opened : Reach
  pub submitted : SubmitRow line asked a old (Ok tag) opened
  pub done : Reach
  pub stepped : StepsDone tag (units_of a.keying (job_of (work_in 0 a.keying line asked))) opened done
  pub reaped : AttachedWith done.holding (λ b. ReapRow tag b done answer new)
  pub there : answer ≢ Err (refusals.NoRequest tag)

-- what `read`, `write` or `flush` does and returns in place of a request alone
abbrev pub DoesAsLine : List ℕ → JobWords → Attachment → Reach → Result (Option (List ℕ)) Refusal → Reach → Type 0
DoesAsLine line (words.Read sector count) a old (Ok (Some bytes)) new =
    (sector + count ≤ media a.keying old.disk) × Logs [] old.disk new.disk × ReadsAs old.disk a.keying sector count (Ok bytes)
DoesAsLine line (words.Read sector count) a old (Err (refusals.Integrity offset)) new =
    (sector + count ≤ media a.keying old.disk) × Logs [] old.disk new.disk × ReadsAs old.disk a.keying sector count (Err offset)
DoesAsLine line (words.Write sector hex) a old (Ok None) new =
    let bytes = bytes_spelled (bytes_at line hex) in let count = length bytes / a.keying.sectorsize in
    (a.readonly ≡ false) × (sector + count ≤ media a.keying old.disk) × Logs (data_writes a.keying sector count bytes) old.disk new.disk
DoesAsLine line words.Flush a old (Ok None) new = Logs (event.Flush ∷ []) old.disk new.disk
DoesAsLine line asked a old answer new = ⊥
