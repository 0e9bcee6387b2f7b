-- That `sum` is lawful.
use Rattle.std.proofs.Common.{Err, List, None, Ok, Result, refl, ℕ, ◌≡◌}
use Rattle.command_words.specs.declared.commands.Command.TheVariants as commands
use Rattle.eli_base.specs.declared.refusals.Refusal.TheVariants as refusals
use Rattle.command_rows.specs.Rows.{AttachedWith, Attachment, IsAttached, Reach, ReadsSectors, digest_or}
use Rattle.command_rows.specs.Vocabulary.{Command, Refusal, Span, media, sha256}
use Rattle.command_rows.specs.verbs.Sum.{FitsSum, SumRow}
use Rattle.command_rows.proofs.VerbLaws.{IsLawful, Quiet, RulesOut, SoundReply, Still, StoresNone, Why, attached_becomes, attached_keeps, attached_quiet, attached_why, digest_replying, done_still, false_is_true, needs, never_both, never_holds, nothing_changed, passes, quiet_sectors, quiet_then, range_still, range_why, read_at, refused_by, same_quiet, same_then_why, sectors_still, sound_reply, still_sound, still_then, then_why, unstored_reply, with_attached}

sum_still : (start count : ℕ) (a : Attachment) → Still (SumRow start count a)
sum_still start count a = still_then (range_still a start count) (λ there. still_then (sectors_still a start count) (λ bytes. done_still (sha256 bytes)))

quiet_sum_row : (start count : ℕ) (a : Attachment) → Quiet (SumRow start count a)
quiet_sum_row start count a =
    quiet_then (λ old answer new h. same_quiet old new h.1)
    (λ done. quiet_then (quiet_sectors a start count)
    (λ bytes old answer new h. same_quiet old new h.1))

reads_why : (line : List ℕ) (prov : Span) (start count : ℕ) (a : Attachment) (old : Reach) (answer : Result (List ℕ) Refusal) (new : Reach) → old.holding ≡ IsAttached a → ReadsSectors a start count old answer new → Why line (commands.Sum prov start count) old answer new
reads_why line prov start count a old (Ok bytes) new is h = tt
reads_why line prov start count a old (Err (refusals.Integrity offset)) new is h = rw is (record { first = start; many = count; are = (refl, refl); reads = h.reads.reads })
reads_why line prov start count a old (Err refusals.DeviceFault) new is h = h.reads.fails.rose
reads_why line prov start count a old (Err refusal) new is h = absurd h.reads

sum_why : (line : List ℕ) (prov : Span) (start count : ℕ) (a : Attachment) (old : Reach) (answer : Result (List ℕ) Refusal) (new : Reach) → old.holding ≡ IsAttached a
    → SumRow start count a old answer new → Why line (commands.Sum prov start count) old answer new
sum_why line prov start count a old answer new is h =
    let command : Command = commands.Sum prov start count in
    same_then_why line command old answer new h (λ done middle first. first.1) (λ given middle. range_why line command a start count old given middle is (refl, refl))
    (λ done there next. then_why line command old answer new next (λ given middle. reads_why line prov start count a old given middle is) (λ bytes middle first last. rw last.0 tt))

sum_out : (line : List ℕ) (prov : Span) (start count : ℕ) (old : Reach) → refused_by (needs (commands.Sum prov start count)) old.holding ≡ None → AttachedWith old.holding (FitsSum start count old.disk) → RulesOut line (commands.Sum prov start count) old
sum_out line prov start count old gate f = record {
  gate = gate;
  readonly = λ writes h. false_is_true writes;
  range = λ first many there h. never_both _ _ old.holding f (λ a fits over. passes first many there start count (media a.keying old.disk) over.asked.0 over.asked.1 over.has over.passes fits.within) h;
  bytes = λ given size h. never_holds _ old.holding (λ a bad. bad.asked) h;
  faults = λ offset h. never_both _ _ old.holding f (λ a fits fault. fits.right offset (read_at old.disk a fault.first fault.many start count offset fault.are.0 fault.are.1 fault.reads)) h;
  requests = λ refusal h. never_holds _ old.holding (λ a found. found) h;
  files = λ refusal cabinet h. h;
  ground = λ refusal h. h;
}

pub sum_lawful : (prov : Span) (start : ℕ) (count : ℕ) → IsLawful (commands.Sum prov start count)
sum_lawful prov start count = record {
  why = λ line old refusal new h. attached_why line (commands.Sum prov start count) digest_or (SumRow start count) old refusal new digest_replying (λ a answer is row. sum_why line prov start count a old answer new is row) h;
  did = λ line old said new h. attached_quiet digest_or (SumRow start count) old said new digest_replying (quiet_sum_row start count) h;
  sound = λ line old reply new h. with_attached old.holding _ (SoundReply old reply new) (λ a is row. sound_reply digest_or _ old reply new digest_replying (still_sound (sum_still start count a)) row) h;
  out = λ line old gate f. sum_out line prov start count old gate f;
  tags = λ line old f needs h. false_is_true needs;
  becomes = λ line old said new gate h. attached_becomes line (commands.Sum prov start count) digest_or (SumRow start count) old said new gate refl (λ a. (sum_still start count a).stays) h;
  keeps = λ line old reply new gate other h. attached_keeps digest_or (SumRow start count) old reply new (λ a. (sum_still start count a).stays) h;
  left = λ line old said new h. nothing_changed line old.cabinet.files old.holding said old.disk new.disk;
  stores = λ line old reply new h. with_attached old.holding _ (StoresNone old.cabinet new.cabinet) (λ a is row. unstored_reply _ _ old reply new (sum_still start count a).unstored row) h;
}
