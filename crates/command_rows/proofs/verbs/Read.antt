-- That `read` is lawful.
use Rattle.std.proofs.Common.{Err, List, None, Ok, Result, refl, subst, sym, ℕ, ◌*◌, ◌≡◌}
use Rattle.command_words.specs.declared.commands.Command.TheVariants as commands
use Rattle.eli_base.specs.declared.refusals.Refusal.TheVariants as refusals
use Rattle.command_rows.specs.Rows.{AttachedWith, Attachment, IsAttached, Reach, ReadsSectors, payload_or, whole_sectors}
use Rattle.command_rows.specs.Vocabulary.{Command, Refusal, Span, media}
use Rattle.command_rows.specs.verbs.Read.{FitsRead, ReadRow}
use Rattle.command_rows.proofs.VerbLaws.{IsLawful, Quiet, RulesOut, SoundReply, Still, StoresNone, Why, attached_becomes, attached_keeps, attached_quiet, attached_why, false_is_true, needs, never_both, never_holds, not_both, nothing_changed, passes, payload_replying, quiet_sectors, quiet_then, range_still, range_why, read_at, refused_by, same_quiet, same_then_why, sectors_still, sound_reply, still_sound, still_then, unstored_reply, whole_still, whole_why, with_attached}

sectors_why : (line : List ℕ) (prov : Span) (sector count : ℕ) (a : Attachment) (whole : ℕ) (old : Reach) (answer : Result (List ℕ) Refusal) (new : Reach) → old.holding ≡ IsAttached a
    → whole_sectors a.keying.sectorsize (count * a.keying.sectorsize) ≡ Ok whole → ReadsSectors a sector whole old answer new → Why line (commands.Read prov sector count) old answer new
sectors_why line prov sector count a whole old (Ok bytes) new is wholly h = tt
sectors_why line prov sector count a whole old (Err (refusals.Integrity offset)) new is wholly h = rw is (record { first = sector; many = whole; are = (refl, wholly); reads = h.reads.reads })
sectors_why line prov sector count a whole old (Err refusals.DeviceFault) new is wholly h = h.reads.fails.rose
sectors_why line prov sector count a whole old (Err refusal) new is wholly h = absurd h.reads

read_why : (line : List ℕ) (prov : Span) (sector count : ℕ) (a : Attachment) (old : Reach) (answer : Result (List ℕ) Refusal) (new : Reach) → old.holding ≡ IsAttached a
    → ReadRow sector count a old answer new → Why line (commands.Read prov sector count) old answer new
read_why line prov sector count a old answer new is h =
    let command : Command = commands.Read prov sector count in
    same_then_why line command old answer new h (λ whole middle first. first.1) (λ given middle. whole_why line command a (count * a.keying.sectorsize) old given middle is refl)
    (λ whole first next. same_then_why line command old answer new next (λ done middle there. there.1) (λ given middle. range_why line command a sector whole old given middle is (refl, sym first.0))
    (λ done there last. sectors_why line prov sector count a whole old answer new is (sym first.0) last))

quiet_read_row : (sector count : ℕ) (a : Attachment) → Quiet (ReadRow sector count a)
quiet_read_row sector count a =
    quiet_then (λ old answer new h. same_quiet old new h.1)
    (λ whole. quiet_then (λ old answer new h. same_quiet old new h.1)
    (λ _. quiet_sectors a sector whole))

read_still : (sector count : ℕ) (a : Attachment) → Still (ReadRow sector count a)
read_still sector count a = still_then (whole_still a (count * a.keying.sectorsize)) (λ whole. still_then (range_still a sector whole) (λ done. sectors_still a sector whole))

read_out : (line : List ℕ) (prov : Span) (sector count : ℕ) (old : Reach) → refused_by (needs (commands.Read prov sector count)) old.holding ≡ None → AttachedWith old.holding (FitsRead sector count old.disk) → RulesOut line (commands.Read prov sector count) old
read_out line prov sector count old gate f = record {
  gate = gate;
  readonly = λ writes h. false_is_true writes;
  range = λ first many there h. never_both _ _ old.holding f
      (λ a fits over. let same : many ≡ fits.sectors = cc (over.asked.1, fits.whole) in passes first many there sector fits.sectors (media a.keying old.disk) over.asked.0 same over.has over.passes fits.within) h;
  bytes = λ given size h. never_both _ _ old.holding f
      (λ a fits bad. let is : whole_sectors a.keying.sectorsize (count * a.keying.sectorsize) ≡ Err (refusals.BadLength given size) = subst (λ (n : ℕ). whole_sectors a.keying.sectorsize n ≡ Err (refusals.BadLength given size)) bad.asked bad.bad in
      not_both _ fits.sectors (refusals.BadLength given size) fits.whole is) h;
  faults = λ offset h. never_both _ _ old.holding f
      (λ a fits fault. let same : fault.many ≡ fits.sectors = cc (fault.are.1, fits.whole) in fits.right offset (read_at old.disk a fault.first fault.many sector fits.sectors offset fault.are.0 same fault.reads)) h;
  requests = λ refusal h. never_holds _ old.holding (λ a found. found) h;
  files = λ refusal cabinet h. h;
  ground = λ refusal h. h;
}

pub read_lawful : (prov : Span) (sector : ℕ) (count : ℕ) → IsLawful (commands.Read prov sector count)
read_lawful prov sector count = record {
  why = λ line old refusal new h. attached_why line (commands.Read prov sector count) payload_or (ReadRow sector count) old refusal new payload_replying (λ a answer is row. read_why line prov sector count a old answer new is row) h;
  did = λ line old said new h. attached_quiet payload_or (ReadRow sector count) old said new payload_replying (quiet_read_row sector count) h;
  sound = λ line old reply new h. with_attached old.holding _ (SoundReply old reply new) (λ a is row. sound_reply payload_or _ old reply new payload_replying (still_sound (read_still sector count a)) row) h;
  out = λ line old gate f. read_out line prov sector count old gate f;
  tags = λ line old f needs h. false_is_true needs;
  becomes = λ line old said new gate h. attached_becomes line (commands.Read prov sector count) payload_or (ReadRow sector count) old said new gate refl (λ a. (read_still sector count a).stays) h;
  keeps = λ line old reply new gate other h. attached_keeps payload_or (ReadRow sector count) old reply new (λ a. (read_still sector count a).stays) h;
  left = λ line old said new h. nothing_changed line old.cabinet.files old.holding said old.disk new.disk;
  stores = λ line old reply new h. with_attached old.holding _ (StoresNone old.cabinet new.cabinet) (λ a is row. unstored_reply _ _ old reply new (read_still sector count a).unstored row) h;
}
