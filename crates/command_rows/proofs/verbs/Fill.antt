-- That `fill` is lawful.
use Rattle.std.proofs.Common.{List, None, Result, false, refl, sym, ℕ, ◌∙◌, ◌≡◌}
use Rattle.command_words.specs.declared.commands.Command.TheVariants as commands
use Rattle.command_rows.specs.Rows.{AttachedWith, Attachment, IsAttached, Reach, done_or}
use Rattle.command_rows.specs.Vocabulary.{Refusal, Span, media}
use Rattle.command_rows.specs.verbs.Fill.{FillRow, FitsFill, WritesWorkload, words_of_sectors, workload}
use Rattle.command_rows.proofs.VerbLaws.{Did, IsLawful, RulesOut, SoundReply, Still, StoresNone, Why, attached_becomes, attached_did, attached_keeps, attached_why, doing_still, done_replying, false_is_true, needs, never_both, never_holds, nothing_changed, passes, range_still, refused_by, sound_reply, still_sound, still_then, unstored_reply, with_attached, writable_did, writable_still, writable_write_why}

pub fill_still : (seed start count : ℕ) (a : Attachment) → Still (FillRow seed start count a)
fill_still seed start count a = still_then (writable_still a) (λ done. still_then (range_still a start count) (λ there. doing_still _))

fill_did : (seed start count : ℕ) (a : Attachment) (old : Reach) (answer : Result (Unit {0}) Refusal) (new : Reach) → FillRow seed start count a old answer new
    → Did (WritesWorkload (IsAttached a) seed start count) false old.disk answer new.disk
fill_did seed start count a old answer new h = writable_did a start count (workload seed (words_of_sectors a.keying.sectorsize count)) old answer new h

fill_why : (line : List ℕ) (prov : Span) (seed start count : ℕ) (a : Attachment) (old : Reach) (answer : Result (Unit {0}) Refusal) (new : Reach) → old.holding ≡ IsAttached a → FillRow seed start count a old answer new
    → Why line (commands.Fill prov seed start count) old answer new
fill_why line prov seed start count a old answer new is h =
    writable_write_why line (commands.Fill prov seed start count) start count (workload seed (words_of_sectors a.keying.sectorsize count)) a old answer new is refl (refl, refl) h

fill_out : (line : List ℕ) (prov : Span) (seed start count : ℕ) (old : Reach) → refused_by (needs (commands.Fill prov seed start count)) old.holding ≡ None → AttachedWith old.holding (FitsFill start count old.disk) → RulesOut line (commands.Fill prov seed start count) old
fill_out line prov seed start count old gate f = record {
  gate = gate;
  readonly = λ writes h. never_both _ _ old.holding f (λ a fits only. false_is_true (sym fits.writable ∙ only)) h;
  range = λ first many there h. never_both _ _ old.holding f (λ a fits over. passes first many there start count (media a.keying old.disk) over.asked.0 over.asked.1 over.has over.passes fits.within) h;
  bytes = λ given size h. never_holds _ old.holding (λ a bad. bad.asked) h;
  faults = λ offset h. never_holds _ old.holding (λ a fault. fault) h;
  requests = λ refusal h. never_holds _ old.holding (λ a found. found) h;
  files = λ refusal cabinet h. h;
  ground = λ refusal h. h;
}

pub fill_lawful : (prov : Span) (seed : ℕ) (start : ℕ) (count : ℕ) → IsLawful (commands.Fill prov seed start count)
fill_lawful prov seed start count = record {
  why = λ line old refusal new h. attached_why line (commands.Fill prov seed start count) done_or (FillRow seed start count) old refusal new done_replying (λ a answer is row. fill_why line prov seed start count a old answer new is row) h;
  did = λ line old said new h. attached_did done_or (FillRow seed start count) (λ x. WritesWorkload x seed start count) old said new done_replying (λ a answer row. fill_did seed start count a old answer new row) h;
  sound = λ line old reply new h. with_attached old.holding _ (SoundReply old reply new) (λ a is row. sound_reply done_or _ old reply new done_replying (still_sound (fill_still seed start count a)) row) h;
  out = λ line old gate f. fill_out line prov seed start count old gate f;
  tags = λ line old f needs h. false_is_true needs;
  becomes = λ line old said new gate h. attached_becomes line (commands.Fill prov seed start count) done_or (FillRow seed start count) old said new gate refl (λ a. (fill_still seed start count a).stays) h;
  keeps = λ line old reply new gate other h. attached_keeps done_or (FillRow seed start count) old reply new (λ a. (fill_still seed start count a).stays) h;
  left = λ line old said new h. nothing_changed line old.cabinet.files old.holding said old.disk new.disk;
  stores = λ line old reply new h. with_attached old.holding _ (StoresNone old.cabinet new.cabinet) (λ a is row. unstored_reply _ _ old reply new (fill_still seed start count a).unstored row) h;
}
