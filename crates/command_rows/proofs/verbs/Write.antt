-- That `write` is lawful.
use Rattle.std.proofs.Common.{Bool, Err, List, None, Ok, Result, cond, false, length, refl, subst, sym, true, ℕ, ◌/◌, ◌∙◌, ◌≡◌}
use Rattle.command_words.specs.declared.commands.Command.TheVariants as commands
use Rattle.eli_base.specs.declared.refusals.Refusal.TheVariants as refusals
use Rattle.command_rows.specs.Rows.{AttachedWith, Attachment, IsAttached, Reach, bytes_spelled, done_or, whole_sectors}
use Rattle.command_rows.specs.Vocabulary.{Command, Refusal, Span, bytes_at, data_writes, media}
use Rattle.command_rows.specs.verbs.Write.{FitsWrite, WriteRow, WritesData}
use Rattle.command_rows.proofs.VerbLaws.{Did, IsLawful, RulesOut, SoundReply, Still, StoresNone, Why, attached_becomes, attached_did, attached_keeps, attached_why, did_then, doing_still, done_replying, false_is_true, needs, never_both, never_holds, not_both, nothing_changed, passes, range_still, refused_by, same_quiet, same_then_why, sound_reply, still_sound, still_then, unstored_reply, whole_still, whole_why, with_attached, writable_did, writable_still, writable_write_why}

write_why : (line : List ℕ) (prov : Span) (sector : ℕ) (hex : Span) (a : Attachment) (old : Reach) (answer : Result (Unit {0}) Refusal) (new : Reach) → old.holding ≡ IsAttached a
    → WriteRow sector (bytes_spelled (bytes_at line hex)) a old answer new
    → Why line (commands.Write prov sector hex) old answer new
write_why line prov sector hex a old answer new is h =
    let command : Command = commands.Write prov sector hex in
    let bytes : List ℕ = bytes_spelled (bytes_at line hex) in
    same_then_why line command old answer new h (λ count middle first. first.1) (λ given middle. whole_why line command a (length bytes) old given middle is refl)
    (λ count first next. writable_write_why line command sector count bytes a old answer new is refl (refl, sym first.0) next)

counted : (size bytes count : ℕ) (whole : Bool) (refusal : Refusal) → Ok count ≡ cond whole (Ok (bytes / size)) (Err refusal) → count ≡ bytes / size
counted size bytes count true refusal h = cc h
counted size bytes count false refusal h = absurd (let no : ⊥ = cc h in no)

writes_did : (a : Attachment) (sector : ℕ) (bytes : List ℕ) (old : Reach) (answer : Result (Unit {0}) Refusal) (new : Reach)
    → WriteRow sector bytes a old answer new
    → Did (WritesData (IsAttached a) sector bytes) false old.disk answer new.disk
writes_did a sector bytes old answer new h =
    did_then (WritesData (IsAttached a) sector bytes) false old answer new h (λ old answer new h. same_quiet old new h.1)
    (λ count middle first next.
    subst (λ (n : ℕ). Did (λ found. found ≡ data_writes a.keying sector n bytes) false middle.disk answer new.disk) (counted a.keying.sectorsize (length bytes) count _ _ first.0)
    (writable_did a sector count bytes middle answer new next))

pub write_still : (sector : ℕ) (bytes : List ℕ) (a : Attachment) → Still (WriteRow sector bytes a)
write_still sector bytes a =
    still_then (whole_still a (length bytes)) (λ count. still_then (writable_still a)
    (λ done. still_then (range_still a sector count) (λ there. doing_still _)))

write_out : (line : List ℕ) (prov : Span) (sector : ℕ) (hex : Span) (old : Reach) → refused_by (needs (commands.Write prov sector hex)) old.holding ≡ None → AttachedWith old.holding (FitsWrite sector (bytes_spelled (bytes_at line hex)) old.disk) → RulesOut line (commands.Write prov sector hex) old
write_out line prov sector hex old gate f = record {
  gate = gate;
  readonly = λ writes h. never_both _ _ old.holding f (λ a fits only. false_is_true (sym fits.writable ∙ only)) h;
  range = λ first many there h. never_both _ _ old.holding f
      (λ a fits over. let same : many ≡ fits.sectors = cc (over.asked.1, fits.whole) in passes first many there sector fits.sectors (media a.keying old.disk) over.asked.0 same over.has over.passes fits.within) h;
  bytes = λ given size h. never_both _ _ old.holding f
      (λ a fits bad. let is : whole_sectors a.keying.sectorsize (length (bytes_spelled (bytes_at line hex))) ≡ Err (refusals.BadLength given size) = subst (λ (n : ℕ). whole_sectors a.keying.sectorsize n ≡ Err (refusals.BadLength given size)) bad.asked bad.bad in
      not_both _ fits.sectors (refusals.BadLength given size) fits.whole is) h;
  faults = λ offset h. never_holds _ old.holding (λ a fault. fault) h;
  requests = λ refusal h. never_holds _ old.holding (λ a found. found) h;
  files = λ refusal cabinet h. h;
  ground = λ refusal h. h;
}

pub write_lawful : (prov : Span) (sector : ℕ) (hex : Span) → IsLawful (commands.Write prov sector hex)
write_lawful prov sector hex = record {
  why = λ line old refusal new h. attached_why line (commands.Write prov sector hex) done_or (WriteRow sector (bytes_spelled (bytes_at line hex))) old refusal new done_replying (λ a answer is row. write_why line prov sector hex a old answer new is row) h;
  did = λ line old said new h. attached_did done_or (WriteRow sector (bytes_spelled (bytes_at line hex))) (λ x. WritesData x sector (bytes_spelled (bytes_at line hex))) old said new done_replying (λ a answer row. writes_did a sector _ old answer new row) h;
  sound = λ line old reply new h. with_attached old.holding _ (SoundReply old reply new) (λ a is row. sound_reply done_or _ old reply new done_replying (still_sound (write_still sector (bytes_spelled (bytes_at line hex)) a)) row) h;
  out = λ line old gate f. write_out line prov sector hex old gate f;
  tags = λ line old f needs h. false_is_true needs;
  becomes = λ line old said new gate h. attached_becomes line (commands.Write prov sector hex) done_or (WriteRow sector (bytes_spelled (bytes_at line hex))) old said new gate refl (λ a. (write_still sector (bytes_spelled (bytes_at line hex)) a).stays) h;
  keeps = λ line old reply new gate other h. attached_keeps done_or (WriteRow sector (bytes_spelled (bytes_at line hex))) old reply new (λ a. (write_still sector (bytes_spelled (bytes_at line hex)) a).stays) h;
  left = λ line old said new h. nothing_changed line old.cabinet.files old.holding said old.disk new.disk;
  stores = λ line old reply new h. with_attached old.holding _ (StoresNone old.cabinet new.cabinet) (λ a is row. unstored_reply _ _ old reply new (write_still sector (bytes_spelled (bytes_at line hex)) a).unstored row) h;
}
