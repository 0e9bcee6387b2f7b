-- Each line does one thing to what it reaches.
use Rattle.std.proofs.Common.{◌≡◌, ◌∙◌, ℕ, List, [], ◌∷◌, ap, sym, subst, Bool, true, Option, None, Some, Result, Ok, Err, MatchOption}
use Rattle.block_traits.specs.declared.disk.Event.TheVariants.{Flush}
use Rattle.command_rows.specs.Rows.{Answer, AttachedWith, Attachment, Holding, Kept, Reach, SuspendedWith, attachment_in, bytes_spelled, kept_in}
use Rattle.command_rows.specs.Vocabulary.{CabinetState, Command, InitOptions, Refusal, bytes_at, file_limit}
use Rattle.command_words.specs.declared.commands.Command.TheVariants as commands
use Rattle.eli_base.specs.declared.refusals.Refusal.TheVariants as refusals
use Rattle.reply_text.specs.Answer as answers
use Rattle.command_rows.specs.Gate.{needs, refused_by}
use Rattle.command_rows.specs.Turn.{GoesThrough, IsRefused, Replies, Serves}
use Rattle.command_rows.specs.verbs.Fill.{words_of_sectors, workload}
use Rattle.command_rows.specs.verbs.Init.{iterations_of}
use Rattle.command_rows.proofs.Replies.{Replying, digest_replying, done_replying, dump_replying, left_replying, payload_replying, reaped_replying, tag_replying, verified_replying}
use Rattle.turn_determinism.specs.Quiet as quiet
use Rattle.turn_determinism.specs.Same.{IsSameCount, LoadsAsMany, LoadsUnlessMissed}
use Rattle.turn_determinism.proofs.Alike.{Alike, still_alike, uncounted_same}
use Rattle.turn_determinism.proofs.Deciding
use Rattle.turn_determinism.proofs.Disks
use Rattle.turn_determinism.proofs.Files
use Rattle.turn_determinism.proofs.Keys
use Rattle.turn_determinism.proofs.Queues
use Rattle.turn_determinism.proofs.Places
use Rattle.turn_determinism.proofs.Rows
use Rattle.turn_determinism.proofs.Steps.{Both, HasMemory, ResultLoads, Step, Sure, then_sure, unless_missed}

-- both lines have the same reply, what they reach is alike, and as many files were loaded, unless one is refused
pub record SameLine (counts : Bool) (reply reply' : Answer) (new new' : Reach) : Type 0 where
  pub agrees : reply' ≡ reply
  pub same : Alike new new'
  pub loads : counts ≡ true → LoadsAsMany reply new.cabinet new'.cabinet

pub loads_always : (reply : Answer) (c c' : CabinetState) → IsSameCount c.loads c'.loads → LoadsAsMany reply c c'
loads_always (answers.Refused refusal) c c' same = unless_missed refusal c c' same
loads_always reply c c' same = same

loads_refused : (reply : Answer) (refusal : Refusal) (c c' : CabinetState) → reply ≡ answers.Refused refusal → LoadsUnlessMissed refusal c c' → LoadsAsMany reply c c'
loads_refused reply refusal c c' is same = let P : Answer → Type 0 = λ r. LoadsAsMany r c c' in subst P (sym is) same

reply_loads : {A : Type 0} (answer_to : Result A Refusal → Answer) (answer : Result A Refusal) (reply : Answer) (c c' : CabinetState) → Replying answer_to → reply ≡ answer_to answer → ResultLoads answer c c' → LoadsAsMany reply c c'
reply_loads answer_to (Ok value) reply c c' replying is same = loads_always reply c c' same
reply_loads answer_to (Err refusal) reply c c' replying is same = loads_refused reply refusal c c' (is ∙ replying.refusal refusal) same

row_memory : {A : Type 0} (answer_to : Result A Refusal → Answer) (answer : Result A Refusal) (reply : Answer) → Replying answer_to → reply ≡ answer_to answer → quiet.HasMemory reply → HasMemory answer
row_memory answer_to answer reply replying is memory none = memory (is ∙ ap answer_to none ∙ replying.refusal refusals.NoMemory)

-- two turns by a relation have one reply, and leave what is reached alike
abbrev AreOne : (Reach → Answer → Reach → Type 0) → Type 0
AreOne R =
    (old old' : Reach) (reply reply' : Answer) (new new' : Reach) → (both : Both old old' new new') → quiet.HasMemory reply → quiet.HasMemory reply' → R old reply new → R old' reply' new' → SameLine both.counts reply reply' new new'

replies_one : {A : Type 0} {answer_to : Result A Refusal → Answer} {Row : Step A} → Replying answer_to → Sure Row → AreOne (Replies answer_to Row)
replies_one {A} {answer_to} {Row} replying sure old old' reply reply' new new' both memory memory' h h' =
    let s = sure.settles old old' h.answer h'.answer new new' both (row_memory answer_to h.answer reply replying h.replied memory) (row_memory answer_to h'.answer reply' replying h'.replied memory') h.row h'.row in
    record {
      agrees = h'.replied ∙ ap answer_to s.agrees ∙ sym h.replied;
      same = s.same;
      loads = λ on. reply_loads answer_to h.answer reply new.cabinet new'.cabinet replying h.replied (s.loads on);
    }

-- ---- lines by what the drawer does with its disk

found_one : {X A : Type 0} (answer_to : Result A Refusal → Answer) (Row : X → Step A) → Replying answer_to → ((x : X) → Sure (Row x)) → (found : Option X) → AreOne (λ old reply new. MatchOption found ⊥ (λ x. Replies answer_to (Row x) old reply new))
found_one answer_to Row replying sure None old old' reply reply' new new' both memory memory' h h' = absurd h
found_one answer_to Row replying sure (Some x) old old' reply reply' new new' both memory memory' h h' = replies_one replying (sure x) old old' reply reply' new new' both memory memory' h h'

attached_one : {A : Type 0} {answer_to : Result A Refusal → Answer} {Row : Attachment → Step A} → Replying answer_to → ((a : Attachment) → Sure (Row a)) → AreOne (λ old reply new. AttachedWith old.holding (λ a. Replies answer_to (Row a) old reply new))
attached_one {A} {answer_to} {Row} replying sure old old' reply reply' new new' both memory memory' h h' =
    let P : Holding → Type 0 = λ x. AttachedWith x (λ a. Replies answer_to (Row a) old' reply' new') in
    found_one answer_to Row replying sure (attachment_in old.holding) old old' reply reply' new new' both memory memory' h (subst P both.same.holding h')

suspended_one : {A : Type 0} {answer_to : Result A Refusal → Answer} {Row : Kept → Step A} → Replying answer_to → ((kept : Kept) → Sure (Row kept)) → AreOne (λ old reply new. SuspendedWith old.holding (λ kept. Replies answer_to (Row kept) old reply new))
suspended_one {A} {answer_to} {Row} replying sure old old' reply reply' new new' both memory memory' h h' =
    let P : Holding → Type 0 = λ x. SuspendedWith x (λ kept. Replies answer_to (Row kept) old' reply' new') in
    found_one answer_to Row replying sure (kept_in old.holding) old old' reply reply' new new' both memory memory' h (subst P both.same.holding h')

-- ---- the lines

ruleset replies = (digest_replying, done_replying, dump_replying, left_replying, payload_replying, reaped_replying, tag_replying, verified_replying)

-- for a row that is one of these, or that is `Then` of them and defined without its arguments, `search` finds the proof
ruleset steps = (
  then_sure,
  Deciding.decides_sure,
  Deciding.size_sure,
  Deciding.withdraws_sure,
  Disks.detaches_sure,
  Disks.does_sure,
  Disks.reads_device_sector_sure,
  Disks.reads_last_sure,
  Files.components_sure,
  Files.file_sure,
  Files.stores_sure,
  Keys.makes_sure,
  Keys.writes_back_sure,
  Places.destroys_sure,
  Places.moves_sure,
  Rows.attach_row_sure,
  Rows.backup_row_sure,
  Rows.delkey_row_sure,
  Rows.setkey_row_sure,
)

row_one : (line : List ℕ) (command : Command) → AreOne (GoesThrough line command)
row_one line commands.List = λ old old' reply reply' new new' both memory memory' h h'. absurd h
row_one line (commands.Init prov cipher auth keylen sectorsize iterations autoresize fresh backup) =
    let options : InitOptions = record { cipher = cipher; auth = auth; keylen = keylen; sectorsize = sectorsize; iterations = iterations_of fresh iterations; autoresize = autoresize } in
    replies_one done_replying (then_sure (Files.components_sure line fresh) (λ parts. then_sure (Keys.makes_sure options parts) (λ m. Files.backs_up_sure line backup m)))
row_one line (commands.Detach prov) = replies_one done_replying Disks.detaches_sure
row_one line (commands.Read prov sector count) =
    attached_one payload_replying (λ a. then_sure (Deciding.decides_sure _) (λ whole. then_sure (Deciding.size_sure _) (λ _. Disks.reads_sectors_sure a sector whole)))
row_one line (commands.Write prov sector hex) =
    let bytes : List ℕ = bytes_spelled (bytes_at line hex) in
    attached_one done_replying (λ a. then_sure (Deciding.decides_sure _) (λ count. then_sure (Deciding.decides_sure _) (λ _. then_sure (Deciding.size_sure _) (λ _. Disks.writes_sure a sector count bytes))))
row_one line (commands.Flush prov) = replies_one done_replying (Disks.does_sure (Flush ∷ []))
row_one line (commands.Kill prov) = replies_one done_replying (then_sure Deciding.withdraws_sure (λ _. Places.destroys_sure))
row_one line (commands.Restore file prov force) =
    replies_one done_replying (then_sure (Files.file_sure file_limit line file) (λ bytes. then_sure (Keys.writes_back_sure bytes force) (λ m. Deciding.decides_sure _)))
row_one line (commands.Resize prov oldsize) = replies_one done_replying (Places.moves_sure oldsize)
row_one line (commands.Fill prov seed start count) =
    attached_one done_replying (λ a. then_sure (Deciding.decides_sure _) (λ _. then_sure (Deciding.size_sure _) (λ _. Disks.writes_sure a start count (workload seed (words_of_sectors a.keying.sectorsize count)))))
row_one line (commands.Sum prov start count) = attached_one digest_replying (λ a. then_sure (Deciding.size_sure _) (λ _. then_sure (Disks.reads_sectors_sure a start count) (λ bytes. Deciding.decides_sure _)))
row_one line (commands.Eject prov) = λ old old' reply reply' new new' both memory memory' h h'. absurd h
row_one line (commands.Submit prov job) = attached_one tag_replying (λ a. Rows.submit_row_sure line job a)
row_one line (commands.Step prov tag) = attached_one left_replying (λ a. then_sure (Queues.request_sure a tag) (λ _. Queues.steps_request_sure a tag))
row_one line (commands.Reap prov tag) = attached_one reaped_replying (λ a. then_sure (Queues.request_sure a tag) (λ _. Queues.reaps_sure a tag))
row_one line (commands.Suspend prov) = attached_one done_replying (λ a. then_sure (Deciding.decides_sure _) (λ _. Disks.suspends_sure a))
row_one line (commands.Resume prov words) = suspended_one done_replying (λ kept. Rows.resume_row_sure line words kept)
row_one line (commands.Verify prov file count restart) = attached_one verified_replying (λ a. Rows.verify_row_sure line file count restart a)
row_one line _ = replies_one search replies search steps

-- ---- the gate before the row

refused_one : (old old' : Reach) (reply reply' : Answer) (new new' : Reach) (refusal : Refusal) → (both : Both old old' new new') → IsRefused old reply new refusal → IsRefused old' reply' new' refusal → SameLine both.counts reply reply' new new'
refused_one old old' reply reply' new new' refusal both h h' = record {
  agrees = h'.refused ∙ sym h.refused;
  same = still_alike old old' new new' both.same h.unchanged h'.unchanged;
  loads = λ on. loads_always reply new.cabinet new'.cabinet (uncounted_same (both.loads on) (ap (λ (r : Reach). r.cabinet.loads) h.unchanged) (ap (λ (r : Reach). r.cabinet.loads) h'.unchanged));
}

gate_one : (line : List ℕ) (command : Command) (refused : Option Refusal) (old old' : Reach) (reply reply' : Answer) (new new' : Reach) → (both : Both old old' new new') → quiet.HasMemory reply → quiet.HasMemory reply'
    → MatchOption refused (GoesThrough line command old reply new) (IsRefused old reply new) → MatchOption refused (GoesThrough line command old' reply' new') (IsRefused old' reply' new') → SameLine both.counts reply reply' new new'
gate_one line command None old old' reply reply' new new' both memory memory' h h' = row_one line command old old' reply reply' new new' both memory memory' h h'
gate_one line command (Some refusal) old old' reply reply' new new' both memory memory' h h' = refused_one old old' reply reply' new new' refusal both h h'

pub line_is_one : (line : List ℕ) (command : Command) (old old' : Reach) (reply reply' : Answer) (new new' : Reach) → (both : Both old old' new new') → quiet.HasMemory reply → quiet.HasMemory reply'
    → Serves line command old reply new → Serves line command old' reply' new' → SameLine both.counts reply reply' new new'
line_is_one line command old old' reply reply' new new' both memory memory' h h' =
    let P : Holding → Type 0 = λ x. MatchOption (refused_by (needs command) x) (GoesThrough line command old' reply' new') (IsRefused old' reply' new') in
    gate_one line command (refused_by (needs command) old.holding) old old' reply reply' new new' both memory memory' h (subst P both.same.holding h')
