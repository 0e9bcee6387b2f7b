-- That `verify` is lawful.
use Rattle.std.proofs.Common.{Bool, Err, List, None, Ok, Option, Result, Some, [], ap, arith, cond, false, inl, inr, length, refl, subst, sym, true, ℕ, ◌∙◌, ◌≡◌, ◌≤◌, ◌⊎◌, IfSome}
use Rattle.std.specs.Int.{from_le_bytes, w64}
use Rattle.command_words.specs.declared.commands.Command.TheVariants as commands
use Rattle.eli_base.specs.declared.refusals.Refusal.TheVariants as refusals
use Rattle.command_rows.specs.Rows.{Attachment, IsAttached, IsFile, LoadsFile, Reach, StoresBytes, Then}
use Rattle.command_rows.specs.Vocabulary.{CabinetState, Command, Counted, DiskState, Files, Logs, Refusal, Span, Sweep, bytes_at, file_answer, has_tags, le64, media, stored}
use Rattle.command_rows.specs.verbs.Verify.{FindsPlace, FitsVerify, LoadsPlace, NeedsTags, PartAnswer, RefusesLong, RefusesPlace, SaysPlace, SaysTooFar, StoresPlace, Sweeps, SweepsFrom, SweptPart, VerifyRow, if_inside, if_tagged, place_in, place_size, unless_absent, verified_or}
use Rattle.command_rows.proofs.PlaceCauses.{wrong_file}
use Rattle.command_rows.proofs.SweepPlaces.{OfFile, eight_loaded, eight_says, found_place, from_stays, is_inside, place_stays, was_loaded}
use Rattle.command_rows.proofs.VerbLaws.{Counts, CountsResult, IsLawful, LineHasCause, PlainAnswer, Quiet, SoundReply, Step, Still, StillBut, Stored, StoresAt, StoresNone, StoresOne, UncountedAnswer, Unstored, Why, apart_out, attached, attached_becomes, attached_keeps, attached_quiet, attached_why, by_plain, decides_why, done_still, false_is_true, file_counts, loading_bytes, may_lack_memory, needs, needs_tags, never_both, next_unstored, none_then, not_both, nothing_changed, quiet_failure, quiet_storing, quiet_then, read_still, same_disk, same_quiet, same_then_why, sound_reply, stays_then, still_but_sound, still_but_then, still_decision, still_then, storing_still, storing_why, then_counts, then_since, then_why, verified_replying, with_attached}

tagged_uncounted : (tagged : Bool) → UncountedAnswer (if_tagged tagged)
tagged_uncounted true = tt
tagged_uncounted false = tt

-- a file that is absent is no refusal
absent_counts : (old : Reach) (loaded : Result (List ℕ) Refusal) (new : Reach) → CountsResult old loaded new → CountsResult old (unless_absent loaded) new
absent_counts old (Ok bytes) new h = tt
absent_counts old (Err (refusals.FileAbsent word)) new h = tt
absent_counts old (Err refusal) new h = h

loading_place_counts : (line : List ℕ) (file : Span) → Counts (LoadsPlace line file)
loading_place_counts line file old answer new h =
    let counts = file_counts place_size line file old h.loaded new h.loads in
    (subst (λ (r : Result (Option (List ℕ)) Refusal). CountsResult old r new) (sym h.answered) (absent_counts old h.loaded new counts.0), counts.1)

part_uncounted : (s : Sweep) (old : DiskState) (answer : Result SweptPart Refusal) (new : DiskState) → PartAnswer s old answer new → UncountedAnswer answer
part_uncounted s old (Ok part) new h = tt
part_uncounted s old (Err refusals.DeviceFault) new h = tt
part_uncounted s old (Err refusal) new h = absurd h

tags_by : (line : List ℕ) (command : Command) (a : Attachment) (tagged : Bool) (old : Reach) (given : Result (Unit {0}) Refusal) (middle : Reach) → old.holding ≡ IsAttached a → needs_tags command ≡ true → has_tags a.keying.auth ≡ tagged → given ≡ if_tagged tagged
    → Why line command old given middle
tags_by line command a true old given middle is needs state h = rw h tt
tags_by line command a false old given middle is needs state h = rw (h, is) (needs, state)

loaded_why : (line : List ℕ) (prov file : Span) (count : ℕ) (old : Reach) (loaded : Result (List ℕ) Refusal) (new : Reach) → LoadsFile place_size line file old loaded new
    → Why line (commands.Verify prov file count false) old (unless_absent loaded) new
loaded_why line prov file count old (Ok bytes) new h = tt
loaded_why line prov file count old (Err (refusals.FileAbsent word)) new h = tt
loaded_why line prov file count old (Err (refusals.CabinetFault word)) new h = h.cause
loaded_why line prov file count old (Err (refusals.FileTooLong word limit)) new h = record {
  loads = refl;
  long = λ i. refusals.FileTooLong (sym h.word i) (h.cause.0 i);
  refuses = wrong_file place_size line file old (refusals.FileTooLong word limit) new h.told h;
}
loaded_why line prov file count old (Err refusals.NoMemory) new h = refl
loaded_why line prov file count old (Err refusal) new h = absurd h.cause

short_plain : (word long place : ℕ) (short : Bool) → PlainAnswer {A = ℕ} (cond short (Err (refusals.BadPlaceFile word long)) (Ok place))
short_plain word long place true = tt
short_plain word long place false = tt

place_plain : (word : ℕ) (found : Option (List ℕ)) → PlainAnswer (place_in word found)
place_plain word None = tt
place_plain word (Some bytes) = short_plain word (length bytes) _ _

-- a file that says no place has too few bytes
short_file : (line : List ℕ) (file : Span) (a : Attachment) (start : Reach) (found : Option (List ℕ)) (middle : Reach) (refusal : Refusal) → LoadsPlace line file start (Ok found) middle → place_in file.word found ≡ Err refusal
    → RefusesPlace line file false start.disk start.cabinet.files refusal a
short_file line file a start None middle refusal h bad = absurd (let none : ⊥ = cc bad in none)
short_file line file a start (Some bytes) middle refusal h bad = record {
  loads = refl;
  bytes = bytes;
  named = loading_bytes place_size line file start start bytes middle refl (was_loaded line file start bytes middle h);
  refused = inl bad;
}

place_why : (line : List ℕ) (prov file : Span) (count : ℕ) (restart : Bool) (a : Attachment) (old : Reach) (answer : Result ℕ Refusal) (new : Reach) → old.holding ≡ IsAttached a → FindsPlace restart line file old answer new
    → Why line (commands.Verify prov file count restart) old answer new
place_why line prov file count true a old answer new is h = rw h.0 tt
place_why line prov file count false a old answer new is h =
    let command : Command = commands.Verify prov file count false in
    then_why line command old answer new h
    (λ given middle first. subst (λ (r : Result (Option (List ℕ)) Refusal). Why line command old r middle) (sym first.answered) (loaded_why line prov file count old first.loaded middle first.loads))
    (λ found middle first next. decides_why line command old (place_in file.word found) middle answer new (place_plain file.word found)
    (λ refusal bad. attached old.holding ⊥ (RefusesPlace line file false old.disk old.cabinet.files refusal) a is (short_file line file a old found middle refusal first bad)) next)

inside_found : (place there : ℕ) (inside : Bool) → PlainAnswer {A = Unit {0}} (cond inside (Ok tt) (Err (refusals.BadPlace place there)))
inside_found place there true = tt
inside_found place there false = tt

inside_plain : (place there : ℕ) → PlainAnswer (if_inside place there)
inside_plain place there = inside_found place there _

-- a place that isn't there was said by the file
far_place : (line : List ℕ) (file : Span) (restart : Bool) (a : Attachment) (start : Reach) (disk : DiskState) (place : ℕ) (refusal : Refusal) → disk ≡ start.disk → (place ≡ 0) ⊎ OfFile restart line file start.cabinet.files place
    → if_inside place (media a.keying disk) ≡ Err refusal → RefusesPlace line file restart start.disk start.cabinet.files refusal a
far_place line file restart a start disk place refusal same (inl zero) bad =
    let fits : if_inside place (media a.keying disk) ≡ Ok tt = is_inside place (media a.keying disk) (omega (arith, zero)) in
    absurd (let none : ⊥ = cc (fits, bad) in none)
far_place line file restart a start disk place refusal same (inr said) bad = record {
  loads = said.loads;
  bytes = said.bytes;
  named = said.named;
  refused = inr (record { place = place; says = said.says; refused = subst (λ (d : DiskState). if_inside place (media a.keying d) ≡ Err refusal) same bad });
}

swept_why : (line : List ℕ) (command : Command) (s : Sweep) (start old : Reach) (answer : Result SweptPart Refusal) (new : Reach) → old.disk ≡ start.disk → PartAnswer s old.disk answer new.disk → Why line command start answer new
swept_why line command s start old (Ok part) new same h = tt
swept_why line command s start old (Err refusals.DeviceFault) new same h = subst (λ (d : DiskState). LineHasCause line command (record start { disk = d }) refusals.DeviceFault new) same h.fails.fails.rose
swept_why line command s start old (Err refusal) new same h = absurd h

stored_why : (line : List ℕ) (command : Command) (file : Span) (part : SweptPart) (start old : Reach) (answer : Result SweptPart Refusal) (new : Reach) → may_lack_memory command ≡ true → start.cabinet.faults ≤ old.cabinet.faults
    → StoresPlace line file part old answer new → Why line command start answer new
stored_why line command file part start old answer new memory later h =
    then_since line command start old answer new h
    (λ given middle first. storing_why line command file (le64 part.next) start old given middle memory later first.stores)
    (λ done middle first next. rw next.0 tt)

from_why : (line : List ℕ) (prov file : Span) (count : ℕ) (restart : Bool) (a : Attachment) (place : ℕ) (start old : Reach) (answer : Result SweptPart Refusal) (new : Reach) → start.holding ≡ IsAttached a → old.disk ≡ start.disk
    → (place ≡ 0) ⊎ OfFile restart line file start.cabinet.files place → SweepsFrom a place count old answer new → Why line (commands.Verify prov file count restart) start answer new
from_why line prov file count restart a place start old answer new is same found h =
    let command : Command = commands.Verify prov file count restart in
    then_since line command start old answer new h
    (λ given middle first. decides_why line command start (if_inside place (media a.keying old.disk)) old given middle (inside_plain place (media a.keying old.disk))
    (λ refusal bad. attached start.holding ⊥ (RefusesPlace line file restart start.disk start.cabinet.files refusal) a is (far_place line file restart a start old.disk place refusal same found bad)) first)
    (λ done middle first next. swept_why line command _ start middle answer new (ap (λ (r : Reach). r.disk) first.1 ∙ same) next.reads)

later_faults : (first middle last : ℕ) (before after : CabinetState) → first ≤ middle → middle ≡ before.faults → after ≡ before → last ≡ after.faults → first ≤ last
later_faults first middle last before after le is same at =
    let faults : after.faults ≡ before.faults = ap (λ (c : CabinetState). c.faults) same in omega arith

placed_why : (line : List ℕ) (prov file : Span) (count : ℕ) (restart : Bool) (a : Attachment) (old : Reach) (answer : Result SweptPart Refusal) (new : Reach) → old.holding ≡ IsAttached a
    → Then (FindsPlace restart line file) (λ place. Then (SweepsFrom a place count) (λ part. StoresPlace line file part)) old answer new → Why line (commands.Verify prov file count restart) old answer new
placed_why line prov file count restart a old answer new is h =
    let command : Command = commands.Verify prov file count restart in
    then_why line command old answer new h
    (λ given middle first. place_why line prov file count restart a old given middle is first)
    (λ place middle first next. let stays = place_stays restart line file old (Ok place) middle first in
    then_since line command old middle answer new next
    (λ given swept sweeps. from_why line prov file count restart a place old middle given swept is stays.disk (found_place restart line file old place middle first) sweeps)
    (λ part swept sweeps stores. stored_why line command file part old swept answer new refl
    (later_faults old.cabinet.faults middle.cabinet.faults swept.cabinet.faults middle.cabinet swept.cabinet stays.files.faults refl (from_stays a place count middle (Ok part) swept sweeps).outside.cabinet refl) stores))

verify_why : (line : List ℕ) (prov file : Span) (count : ℕ) (restart : Bool) (a : Attachment) (old : Reach) (answer : Result SweptPart Refusal) (new : Reach) → old.holding ≡ IsAttached a → VerifyRow line file count restart a old answer new
    → Why line (commands.Verify prov file count restart) old answer new
verify_why line prov file count restart a old answer new is h =
    let command : Command = commands.Verify prov file count restart in
    same_then_why line command old answer new h (λ done middle first. first.1) (λ given middle first. tags_by line command a (has_tags a.keying.auth) old given middle is refl refl first.0)
    (λ done first next. placed_why line prov file count restart a old answer new is next)

tags_still : (a : Attachment) → Still (NeedsTags a)
tags_still a = still_decision (λ r. if_tagged (has_tags a.keying.auth)) (λ r. tagged_uncounted (has_tags a.keying.auth))

loading_place_still : (line : List ℕ) (file : Span) → Still (LoadsPlace line file)
loading_place_still line file = record {
  counts = loading_place_counts line file;
  stays = λ old answer new h. h.loads.holding;
  unstored = λ old answer new h. record { files = h.loads.keeps.files; stores = h.loads.unstored };
}

place_still : (restart : Bool) (line : List ℕ) (file : Span) → Still (FindsPlace restart line file)
place_still true line file = done_still 0
place_still false line file =
    still_then (loading_place_still line file) (λ found. still_decision (λ r. place_in file.word found) (λ r. by_plain (place_in file.word found) (place_plain file.word found)))

sweeping_still : (a : Attachment) (place count : ℕ) → Still (Sweeps a place count)
sweeping_still a place count = read_still (λ old answer new h. part_uncounted _ old answer new h)

sweep_still : (a : Attachment) (place count : ℕ) → Still (SweepsFrom a place count)
sweep_still a place count =
    still_then (still_decision (λ r. if_inside place (media a.keying r.disk)) (λ r. by_plain (if_inside place (media a.keying r.disk)) (inside_plain place (media a.keying r.disk))))
    (λ done. sweeping_still a place count)

quiet_part : (s : Sweep) (old : DiskState) (answer : Result SweptPart Refusal) (new : DiskState) → PartAnswer s old answer new → Logs [] old new
quiet_part s old (Ok part) new h = h.1.logs
quiet_part s old (Err refusals.DeviceFault) new h = quiet_failure old new h.fails.fails
quiet_part s old (Err refusal) new h = absurd h

quiet_from : (a : Attachment) (place count : ℕ) → Quiet (SweepsFrom a place count)
quiet_from a place count =
    quiet_then (λ old answer new h. same_quiet old new h.1)
    (λ done old answer new h. quiet_part _ old.disk answer new.disk h.reads)

quiet_place : (line : List ℕ) (file : Span) (part : SweptPart) → Quiet (StoresPlace line file part)
quiet_place line file part =
    quiet_then (quiet_storing line file (le64 part.next))
    (λ done old answer new h. same_quiet old new h.1)

quiet_verify_row : (line : List ℕ) (file : Span) (count : ℕ) (restart : Bool) (a : Attachment) → Quiet (VerifyRow line file count restart a)
quiet_verify_row line file count restart a =
    quiet_then (λ old answer new h. same_quiet old new h.1)
    (λ done. quiet_then (λ old answer new h. same_disk old.disk new.disk (place_stays restart line file old answer new h).disk)
    (λ place. quiet_then (quiet_from a place count)
    (λ part. quiet_place line file part)))

-- a file of eight bytes, or none, isn't too long
long_out : (word limit there : ℕ) (file : Option (List ℕ)) → SaysPlace there file → file_answer word place_size file ≡ Err (refusals.FileTooLong word limit) → ⊥
long_out word limit there None says bad = let none : ⊥ = cc bad in none
long_out word limit there (Some bytes) says bad = not_both _ bytes (refusals.FileTooLong word limit) (eight_loaded word bytes says.0) bad

-- the file says a place that is there
number_out : (word there : ℕ) (bytes : List ℕ) (refusal : Refusal) → SaysPlace there (Some bytes) → (place_in word (Some bytes) ≡ Err refusal) ⊎ SaysTooFar word bytes there refusal → ⊥
number_out word there bytes refusal says (inl bad) = not_both _ (from_le_bytes w64 bytes) refusal (eight_says word bytes says.0) bad
number_out word there bytes refusal says (inr far) =
    let same : far.place ≡ from_le_bytes w64 bytes = cc (far.says, eight_says word bytes says.0) in
    not_both _ tt refusal (is_inside far.place there (omega (arith, says.1, same))) far.refused

place_out : (word there : ℕ) (file : Option (List ℕ)) (bytes : List ℕ) (refusal : Refusal) → SaysPlace there file → file_answer word place_size file ≡ Ok bytes → (place_in word (Some bytes) ≡ Err refusal) ⊎ SaysTooFar word bytes there refusal → ⊥
place_out word there None bytes refusal says loaded bad = let none : ⊥ = cc loaded in none
place_out word there (Some found) bytes refusal says loaded bad =
    let same : found ≡ bytes = cc (loaded, eight_loaded word found says.0) in
    number_out word there bytes refusal (subst (λ (b : List ℕ). SaysPlace there (Some b)) same says) bad

verify_file_out : (line : List ℕ) (file : Span) (restart : Bool) (old : Reach) (refusal : Refusal) (cabinet : CabinetState) (a : Attachment) → FitsVerify line file restart old.disk old.cabinet a → RefusesLong restart line file old.cabinet refusal cabinet → ⊥
verify_file_out line file restart old refusal cabinet a f h =
    let found = f.place h.loads in
    let bad : file_answer file.word place_size (found.files (bytes_at line file)) ≡ Err refusal =
    subst (λ (o : Option Files). IfSome o (λ files. file_answer file.word place_size (files (bytes_at line file)) ≡ Err refusal)) found.told h.refuses.first in
    long_out file.word place_size (media a.keying old.disk) (found.files (bytes_at line file)) found.says (bad ∙ ap Err h.long)

verify_place_out : (line : List ℕ) (file : Span) (restart : Bool) (old : Reach) (refusal : Refusal) (a : Attachment) → FitsVerify line file restart old.disk old.cabinet a → RefusesPlace line file restart old.disk old.cabinet.files refusal a → ⊥
verify_place_out line file restart old refusal a f h =
    let found = f.place h.loads in
    let loaded : file_answer file.word place_size (found.files (bytes_at line file)) ≡ Ok h.bytes = subst (λ (o : Option Files). IsFile place_size o line file h.bytes) found.told h.named in
    place_out file.word (media a.keying old.disk) (found.files (bytes_at line file)) h.bytes refusal found.says loaded h.refused

one_before : (name : List ℕ) (old middle new : CabinetState) → StoresOne name old middle → StoresNone middle new → StoresOne name old new
one_before name old middle new a b = record {
  files = subst (λ (files : Option Files). (files ≡ old.files) ⊎ ((bytes : List ℕ) × (files ≡ stored name bytes old.files))) (sym b.files) a.files;
  stores = subst (λ (n : ℕ). Counted 1 old.stores n) (sym b.stores) a.stores;
}

before : (line : List ℕ) (file : Option Span) (old middle new : CabinetState) → StoresAt line file old middle → StoresNone middle new → StoresAt line file old new
before line None old middle new a b = none_then old middle new a b
before line (Some span) old middle new (inl a) b = inl (none_then old middle new a b)
before line (Some span) old middle new (inr a) b = inr (one_before (bytes_at line span) old middle new a b)

-- what follows the first step stores nothing
then_unstored : {A B : Type 0} {First : Step A} {Next : A → Step B} (line : List ℕ) (file : Option Span) → Stored line file First → ((a : A) → Unstored (Next a)) → Stored line file (Then First Next)
then_unstored {A} {B} {First} {Next} line file first next old answer new h =
    before line file old.cabinet h.middle.cabinet new.cabinet (first old h.given h.middle h.first) (next_unstored Next h.given h.middle answer new next h.next)

-- the place is stored last
stores_still : (line : List ℕ) (file : Span) (part : SweptPart) → StillBut line (Some file) (StoresPlace line file part)
stores_still line file part =
    let stores : StillBut line (Some file) (StoresBytes line file (le64 part.next)) = storing_still line file (le64 part.next) in
    record {
      counts = then_counts stores.counts (λ stored. (done_still part).counts);
      stays = stays_then stores.stays (λ stored. (done_still part).stays);
      stored = then_unstored line (Some file) stores.stored (λ stored. (done_still part).unstored);
    }

verify_still : (line : List ℕ) (file : Span) (count : ℕ) (restart : Bool) (a : Attachment) → StillBut line (Some file) (VerifyRow line file count restart a)
verify_still line file count restart a =
    still_but_then (tags_still a) (λ done. still_but_then (place_still restart line file)
    (λ place. still_but_then (sweep_still a place count) (λ part. stores_still line file part)))

pub verify_lawful : (prov : Span) (file : Span) (count : ℕ) (restart : Bool) → IsLawful (commands.Verify prov file count restart)
verify_lawful prov file count restart = record {
  why = λ line old refusal new h. attached_why line (commands.Verify prov file count restart) verified_or (VerifyRow line file count restart) old refusal new verified_replying (λ a answer is row. verify_why line prov file count restart a old answer new is row) h;
  did = λ line old said new h. attached_quiet verified_or (VerifyRow line file count restart) old said new verified_replying (quiet_verify_row line file count restart) h;
  sound = λ line old reply new h. with_attached old.holding _ (SoundReply old reply new) (λ a is row. sound_reply verified_or _ old reply new verified_replying (still_but_sound (verify_still line file count restart a)) row) h;
  out = λ line old gate f.
      apart_out line (commands.Verify prov file count restart) old refl refl gate
      (λ refusal cabinet x. with_attached old.holding _ ⊥ (λ a is fits. verify_file_out line file restart old refusal cabinet a fits x) f)
      (λ refusal x. never_both _ _ old.holding f (λ a fits bad. verify_place_out line file restart old refusal a fits bad) x);
  tags = λ line old f needs h. never_both _ _ old.holding f (λ a fits untagged. false_is_true (sym untagged ∙ fits.tagged)) h;
  becomes = λ line old said new gate h. attached_becomes line (commands.Verify prov file count restart) verified_or (VerifyRow line file count restart) old said new gate refl (λ a. (verify_still line file count restart a).stays) h;
  keeps = λ line old reply new gate other h. attached_keeps verified_or (VerifyRow line file count restart) old reply new (λ a. (verify_still line file count restart a).stays) h;
  left = λ line old said new h. nothing_changed line old.cabinet.files old.holding said old.disk new.disk;
  stores = λ line old reply new h. with_attached old.holding _ (StoresAt line (Some file) old.cabinet new.cabinet) (λ a is row. (verify_still line file count restart a).stored old row.answer new row.row) h;
}
