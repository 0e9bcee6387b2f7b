-- What you write is what you read.
use Rattle.std.proofs.Common.{◌≡◌, ◌∙◌, ap, arith, cond, false, refl, subst, sym, true, Bool, ℕ, ◌+◌, ◌*◌, ◌/◌, ◌<◌, ◌≤◌, List, length, Option, None, Some, Result, Ok, Err, IfSome, MatchOption, nat_le, slice_get}
use Rattle.std.specs.Option.{option_map}
use Rattle.std.proofs.lemmas.Bool.Decides.{nat_tests}
use Rattle.std.proofs.Math.Nat.{mul-div_cancel}
use Rattle.command_rows.specs.Rows.{Answer, AttachedWith, Attachment, Decides, DrawerState, GoesOn, HoldKeyings, Holding, HoldsKeying, IsAttached, Reach, SectorsAnswer, World, in_range, place_of, whole_sectors}
use Rattle.command_rows.specs.Vocabulary.{Command, Content, DiskState, FitsSize, IsContentOf, IsKeying, Keying, ReadsAs, ReadsFrom, Refusal, Span, bytes_at, media, media_sectors, sha256}
use Rattle.command_words.specs.declared.commands.Command.TheVariants as commands
use Rattle.eli_base.specs.declared.refusals.Refusal.TheVariants as refusals
use Rattle.provider_readings.proofs.Data.{data-read}
use Rattle.readings.specs.Survivors as survivors
use Rattle.command_rows.proofs.Gate.{by_gate, by_gate_refusal, with_attached}
use Rattle.reply_text.specs.Answer as answers
use Rattle.command_rows.specs.verbs.Sum.{SumRow}
use Rattle.geli_core.specs.ReadsBack.{IsDigestOf, IsDoneAsAsked, LineReads, ReadsAsAsked, StandsSo}
use Rattle.geli_core.specs.Run.{ServesReading}
use Rattle.geli_core.specs.Kinds.{kind_read}
use Rattle.geli_core.specs.Trace.{Run, ServedLine}
use Rattle.geli_core.specs.Survivors.{EnduresCrashes, HasNoRequests}
use Rattle.geli_core.specs.Vocabulary.{ChangesAt, GoesThrough, IsUnknown, Needs, Play, ReadRow, ReapRow, Replies, Sep, Serves, Step, Usage, after, cell, data_read, digest_or, needs, payload_or, reach, reaped_or, refused_by}
use Rattle.geli_core.proofs.Placing.{Survived, survived, survives_so, told_holds}
use Rattle.geli_core.proofs.Playing.{keyed_by}
use Rattle.geli_core.proofs.Requested.{passed}
use Rattle.geli_core.proofs.Reaping.{reaped_bytes, reaped_done, reaped_fault}

-- ---- the steps of a row that decide

-- a result that says something of data: Ok, or a fault at an offset
abbrev TellsData : {A : Type 0} → Result A Refusal → Type 0
TellsData (Ok value) = Unit {0}
TellsData (Err (refusals.Integrity offset)) = Unit {0}
TellsData (Err refusal) = ⊥

decided : {A B : Type 0} (d : Result A Refusal) (Next : A → Reach → Result B Refusal → Reach → Type 0) (old : Reach) (answer : Result B Refusal) (new : Reach) (given : Result A Refusal) (middle : Reach)
    → Decides d old given middle → GoesOn Next given middle answer new → ((refusal : Refusal) → d ≡ Err refusal → answer ≡ Err refusal → ⊥) → (v : A) × (d ≡ Ok v) × Next v old answer new
decided d Next old answer new (Ok v) middle first next never = (v, sym first.0, subst (λ (r : Reach). Next v r answer new) first.1 next)
decided d Next old answer new (Err refusal) middle first next never = absurd (never refusal (sym first.0) next.0)

no_test : {A B : Type 0} (test : Bool) (v : A) (r : Refusal) (answer : Result B Refusal) → (answer ≡ Err r → ⊥) → (refusal : Refusal) → cond test (Ok v) (Err r) ≡ Err refusal → answer ≡ Err refusal → ⊥
no_test true v r answer never refusal d is = absurd (let none : ⊥ = cc d in none)
no_test false v r answer never refusal d is = let same : r ≡ refusal = cc d in never (is ∙ ap (λ (x : Refusal). Err x) (sym same))

-- ---- what a read finds

record Found (sector count : ℕ) (disk : DiskState) (holding : Holding) (answer : Result (List ℕ) Refusal) (new : DiskState) : Type 0 where
  attachment : Attachment
  attached : holding ≡ IsAttached attachment
  keyed : IsKeying attachment.keying
  fits : sector + count ≤ media attachment.keying disk
  reads : SectorsAnswer attachment.keying sector count disk answer new

within : (sector count there : ℕ) (done : Unit {0}) → in_range sector count there ≡ Ok done → sector + count ≤ there
within sector count there done h =
    let p : nat_le (sector + count) there ≡ true = (passed (nat_le (sector + count) there) tt done (refusals.OutOfRange sector count there) h).0 in
    grind (arith, nat_tests)

whole_of_count : (count size whole : ℕ) → 0 < size → whole_sectors size (count * size) ≡ Ok whole → whole ≡ count
whole_of_count count size whole some h = sym (passed _ (count * size / size) whole (refusals.BadLength (count * size) size) h).1 ∙ mul-div_cancel count some

read_found : (sector count : ℕ) (a : Attachment) (old : Reach) (answer : Result (List ℕ) Refusal) (new : Reach) → old.holding ≡ IsAttached a → HoldsKeying old.holding → TellsData answer → ReadRow sector count a old answer new → Found sector count old.disk old.holding answer new.disk
read_found sector count a old answer new is had told h =
    let keyed = keyed_by old.holding a is had in
    let two = decided (whole_sectors a.keying.sectorsize (count * a.keying.sectorsize)) _ old answer new h.given h.middle h.first h.next
    (no_test _ _ (refusals.BadLength (count * a.keying.sectorsize) a.keying.sectorsize) answer (λ bad. subst TellsData bad told)) in
    let same : two.0 ≡ count = whole_of_count count a.keying.sectorsize two.0 (omega (arith, keyed.at_least)) two.1 in
    let three = decided (in_range sector two.0 (media a.keying old.disk)) _ old answer new two.2.given two.2.middle two.2.first two.2.next
    (no_test _ _ (refusals.OutOfRange sector two.0 (media a.keying old.disk)) answer (λ bad. subst TellsData bad told)) in
    record {
      attachment = a;
      attached = is;
      keyed = keyed;
      fits = subst (λ (n : ℕ). sector + n ≤ media a.keying old.disk) same (within sector two.0 (media a.keying old.disk) three.0 three.1);
      reads = subst (λ (n : ℕ). SectorsAnswer a.keying sector n old.disk answer new.disk) same three.2.reads;
    }

-- ---- what the writings say

by_writings : (k : Keying) (sector count : ℕ) (before disk : DiskState) (told : Option Content) (steps : List Step) (answer : Result (List ℕ) ℕ) → before.content ≡ told → disk.content ≡ option_map (after steps) told → IfSome told (EnduresCrashes steps)
    → IsKeying k → sector + count ≤ media k disk → ReadsAs disk k sector count answer → IfSome told (λ c. data_read k sector count (cell c steps) ≡ answer)
by_writings k sector count before disk None steps answer was is e keyed fits reads = tt
by_writings k sector count before disk (Some c) steps answer was is e keyed fits reads =
    let later : IsContentOf disk.size (after steps c) = subst (FitsSize disk.size) is disk.well_formed.fits in
    let first : IsContentOf before.size c = subst (FitsSize before.size) was before.well_formed.fits in
    let content : IsContentOf (length c.base) c = subst (λ (n : ℕ). IsContentOf n c) (sym first.sectors) first in
    let size : disk.size ≡ length c.base = sym later.sectors in
    let there : sector + count ≤ survivors.content_media k c = subst (λ (n : ℕ). sector + count ≤ media_sectors k.auth k.sectorsize (512 * n)) size fits in
    sym (data-read c steps k sector count content e.fit keyed there) ∙ subst (λ (o : Option Content). ReadsFrom o k sector count answer) is reads

-- what a line finds on the drawer that it names, by what the drawer's play says
stands_by : (sep : Sep) (entry : World) (served : List ServedLine) (start : World) (line : List ℕ) (prov : Span) (Holds : Keying → Content → Play → Type 0) (place : ℕ) (before : DrawerState) (a : Attachment)
    → Run sep entry served start → HoldKeyings entry.drawers → place_of (bytes_at line prov) start.drawers ≡ Some place → slice_get start.drawers place ≡ Some before → before.holding ≡ IsAttached a
    → ((s : Survived sep entry served before) → IfSome s.before.disk.content (λ c. Holds a.keying c s.play)) → StandsSo sep entry served start line prov Holds
stands_by sep entry served start line prov Holds place before a run all named there attached holds =
    let s = survived sep served entry start run all before (place, there) in
    record {
      place = place;
      named = named;
      drawer = before;
      there = there;
      attachment = a;
      attached = attached;
      survives = survives_so sep served entry before s;
      holds = holds s;
    }

stands : (sep : Sep) (entry : World) (served : List ServedLine) (start : World) (line : List ℕ) (prov : Span) (sector count : ℕ) (answer : Result (List ℕ) ℕ) (place : ℕ) (before : DrawerState) (a : Attachment)
    → Run sep entry served start → HoldKeyings entry.drawers → place_of (bytes_at line prov) start.drawers ≡ Some place → slice_get start.drawers place ≡ Some before → before.holding ≡ IsAttached a → IsKeying a.keying
    → sector + count ≤ media a.keying before.disk → ReadsAs before.disk a.keying sector count answer → StandsSo sep entry served start line prov (λ k c m. data_read k sector count (cell c m.steps) ≡ answer)
stands sep entry served start line prov sector count answer place before a run all named there attached keyed fits reads =
    stands_by sep entry served start line prov (λ k c m. data_read k sector count (cell c m.steps) ≡ answer) place before a run all named there attached
    (λ s.
    let survives = survives_so sep served entry before s in
    by_writings a.keying sector count s.before.disk before.disk s.before.disk.content s.play.steps answer refl survives.content survives.endures keyed fits reads)

digest_there : (told : Option Content) (k : Keying) (sector count : ℕ) (steps : List Step) (bytes digest : List ℕ) → digest ≡ sha256 bytes → IfSome told (λ c. data_read k sector count (cell c steps) ≡ Ok bytes)
    → IfSome told (λ c. IsDigestOf (data_read k sector count (cell c steps)) digest)
digest_there None k sector count steps bytes digest is h = tt
digest_there (Some c) k sector count steps bytes digest is h = record { bytes = bytes; is = h; digest_is = is }

stands_digest : (sep : Sep) (entry : World) (served : List ServedLine) (start : World) (line : List ℕ) (prov : Span) (sector count : ℕ) (bytes digest : List ℕ) → digest ≡ sha256 bytes
    → StandsSo sep entry served start line prov (λ k c m. data_read k sector count (cell c m.steps) ≡ Ok bytes) → StandsSo sep entry served start line prov (λ k c m. IsDigestOf (data_read k sector count (cell c m.steps)) digest)
stands_digest sep entry served start line prov sector count bytes digest is s = record {
  place = s.place;
  named = s.named;
  drawer = s.drawer;
  there = s.there;
  attachment = s.attachment;
  attached = s.attached;
  survives = s.survives;
  holds = digest_there s.survives.before.disk.content s.attachment.keying sector count s.survives.play.steps bytes digest is s.holds;
}

-- ---- a `sum`

abbrev digested : Result (List ℕ) Refusal → Result (List ℕ) Refusal
digested (Ok bytes) = Ok (sha256 bytes)
digested (Err refusal) = Err refusal

record FoundSum (sector count : ℕ) (disk : DiskState) (holding : Holding) (answer : Result (List ℕ) Refusal) : Type 0 where
  read : Result (List ℕ) Refusal
  middle : DiskState
  found : Found sector count disk holding read middle
  is : answer ≡ digested read

sum_is : (answer : Result (List ℕ) Refusal) (new : Reach) (given : Result (List ℕ) Refusal) (middle : Reach) → GoesOn (λ bytes. Decides (Ok (sha256 bytes))) given middle answer new → answer ≡ digested given
sum_is answer new (Ok bytes) middle h = h.0
sum_is answer new (Err refusal) middle h = h.0

sum_found : (sector count : ℕ) (a : Attachment) (old : Reach) (answer : Result (List ℕ) Refusal) (new : Reach) → old.holding ≡ IsAttached a → HoldsKeying old.holding → TellsData answer → SumRow sector count a old answer new → FoundSum sector count old.disk old.holding answer
sum_found sector count a old answer new is had told h =
    let keyed = keyed_by old.holding a is had in
    let two = decided (in_range sector count (media a.keying old.disk)) _ old answer new h.given h.middle h.first h.next
    (no_test _ _ (refusals.OutOfRange sector count (media a.keying old.disk)) answer (λ bad. subst TellsData bad told)) in
    record {
      read = two.2.given;
      middle = two.2.middle.disk;
      found = record {
        attachment = a;
        attached = is;
        keyed = keyed;
        fits = within sector count (media a.keying old.disk) two.0 two.1;
        reads = two.2.first.reads;
      };
      is = sum_is answer new two.2.given two.2.middle two.2.next;
    }

-- ---- a line

pub turned : (line : List ℕ) (command : Command) (name : List ℕ) (old : World) (said : Answer) (new : World) (found : Option ℕ) → place_of name old.drawers ≡ found → MatchOption found (IsUnknown old said new) (ChangesAt (Serves line command) old said new)
    → (IsUnknown old said new → ⊥) → (place : ℕ) × (place_of name old.drawers ≡ Some place) × ChangesAt (Serves line command) old said new place
turned line command name old said new None is h never = absurd (never h)
turned line command name old said new (Some place) is h never = (place, is, h)

-- a reply that says something of data
abbrev pub TellsReply : Answer → Type 0
TellsReply (answers.Payload bytes) = Unit {0}
TellsReply (answers.Digest digest) = Unit {0}
TellsReply answers.Done = Unit {0}
TellsReply (answers.Refused (refusals.Integrity offset)) = Unit {0}
TellsReply reply = ⊥

no_gate : (wanted : Needs) (holding : Holding) (refusal : Refusal) → refused_by wanted holding ≡ Some refusal → TellsReply (answers.Refused refusal) → ⊥
no_gate wanted holding refusal is told = by_gate_refusal wanted holding refusal (λ r. TellsReply (answers.Refused r) → ⊥) is (λ h none. none) (λ h none. none) (λ h none. none) (λ h none. none) told

-- the reply comes from the row, of an attached drawer
pub from_row : (line : List ℕ) (command : Command) (old : Reach) (reply : Answer) (new : Reach) (Row : Attachment → Type 0) (Claim : Type 0) → TellsReply reply → (GoesThrough line command old reply new → AttachedWith old.holding Row)
    → ((a : Attachment) → old.holding ≡ IsAttached a → Row a → Claim) → Serves line command old reply new → Claim
from_row line command old reply new Row Claim told row goes h =
    by_gate line command old reply new Claim (λ through. with_attached old.holding Row Claim goes (row through))
    (λ refusal is refused. absurd (no_gate (needs command) old.holding refusal is (subst TellsReply refused.refused told))) h

payload_is : (answer : Result (List ℕ) Refusal) (bytes : List ℕ) → answers.Payload bytes ≡ payload_or answer → answer ≡ Ok bytes
payload_is (Ok b) bytes h = (let same : bytes ≡ b = cc h in ap (λ (l : List ℕ). Ok l) (sym same))
payload_is (Err r) bytes h = absurd (let no : ⊥ = cc h in no)

refused_is : (answer : Result (List ℕ) Refusal) (refusal : Refusal) → answers.Refused refusal ≡ payload_or answer → answer ≡ Err refusal
refused_is (Ok b) refusal h = absurd (let no : ⊥ = cc h in no)
refused_is (Err r) refusal h = (let same : refusal ≡ r = cc h in ap (λ (x : Refusal). Err x) (sym same))

digest_is : (answer : Result (List ℕ) Refusal) (digest : List ℕ) → answers.Digest digest ≡ digest_or answer → answer ≡ Ok digest
digest_is (Ok b) digest h = (let same : digest ≡ b = cc h in ap (λ (l : List ℕ). Ok l) (sym same))
digest_is (Err r) digest h = absurd (let no : ⊥ = cc h in no)

unsummed_is : (answer : Result (List ℕ) Refusal) (refusal : Refusal) → answers.Refused refusal ≡ digest_or answer → answer ≡ Err refusal
unsummed_is (Ok b) refusal h = absurd (let no : ⊥ = cc h in no)
unsummed_is (Err r) refusal h = (let same : refusal ≡ r = cc h in ap (λ (x : Refusal). Err x) (sym same))

summed : (sep : Sep) (entry : World) (served : List ServedLine) (start : World) (line : List ℕ) (prov : Span) (sector count : ℕ) (digest : List ℕ) (place : ℕ) (before : DrawerState) (read : Result (List ℕ) Refusal) (middle : DiskState)
    → Run sep entry served start → HoldKeyings entry.drawers → place_of (bytes_at line prov) start.drawers ≡ Some place → slice_get start.drawers place ≡ Some before → Found sector count before.disk before.holding read middle
    → Ok digest ≡ digested read → StandsSo sep entry served start line prov (λ k c m. IsDigestOf (data_read k sector count (cell c m.steps)) digest)
summed sep entry served start line prov sector count digest place before (Ok bytes) middle run all named there f is =
    let same : digest ≡ sha256 bytes = cc is in
    stands_digest sep entry served start line prov sector count bytes digest same
    (stands sep entry served start line prov sector count (Ok bytes) place before f.attachment run all named there f.attached f.keyed f.fits f.reads.2)
summed sep entry served start line prov sector count digest place before (Err r) middle run all named there f is = absurd (let no : ⊥ = cc is in no)

faulted : (sep : Sep) (entry : World) (served : List ServedLine) (start : World) (line : List ℕ) (prov : Span) (sector count offset place : ℕ) (before : DrawerState) (read : Result (List ℕ) Refusal) (middle : DiskState)
    → Run sep entry served start → HoldKeyings entry.drawers → place_of (bytes_at line prov) start.drawers ≡ Some place → slice_get start.drawers place ≡ Some before → Found sector count before.disk before.holding read middle
    → Err (refusals.Integrity offset) ≡ digested read → StandsSo sep entry served start line prov (λ k c m. data_read k sector count (cell c m.steps) ≡ Err offset)
faulted sep entry served start line prov sector count offset place before (Ok bytes) middle run all named there f is = absurd (let no : ⊥ = cc is in no)
faulted sep entry served start line prov sector count offset place before (Err r) middle run all named there f is =
    let same : r ≡ refusals.Integrity offset = cc is in
    let g : Found sector count before.disk before.holding (Err (refusals.Integrity offset)) middle = subst (λ (x : Refusal). Found sector count before.disk before.holding (Err x) middle) same f in
    stands sep entry served start line prov sector count (Err offset) place before g.attachment run all named there g.attached g.keyed g.fits g.reads.reads

pub reads_line : (sep : Sep) (entry : World) (served : List ServedLine) (start next : World) (read : Result (Option Command) Usage) (line : List ℕ) (answer : Option Answer) → Run sep entry served start → HoldKeyings entry.drawers
    → HoldKeyings start.drawers → ServesReading read line start answer next → LineReads sep entry served start (kind_read read) line answer
reads_line sep entry served start next (Ok (Some (commands.Read prov sector count))) line (Some (answers.Payload bytes)) run all here h =
    let t = turned line (commands.Read prov sector count) (bytes_at line prov) start (answers.Payload bytes) next (place_of (bytes_at line prov) start.drawers) refl h (λ u. (let no : ⊥ = cc (u.refused) in no)) in
    from_row line (commands.Read prov sector count) (reach t.2.before start) (answers.Payload bytes) (reach t.2.after next)
    (λ a. Replies payload_or (ReadRow sector count a) (reach t.2.before start) (answers.Payload bytes) (reach t.2.after next))
    (StandsSo sep entry served start line prov (λ k c m. data_read k sector count (cell c m.steps) ≡ Ok bytes)) tt (λ through. through)
    (λ a is step.
    let row = subst (λ (r : Result (List ℕ) Refusal). ReadRow sector count a (reach t.2.before start) r (reach t.2.after next)) (payload_is step.answer bytes step.replied) step.row in
    let f = read_found sector count a (reach t.2.before start) (Ok bytes) (reach t.2.after next) is (here t.2.before (t.0, t.2.found)) tt row in
    stands sep entry served start line prov sector count (Ok bytes) t.0 t.2.before f.attachment run all t.1 t.2.found f.attached f.keyed f.fits f.reads.2)
    t.2.step
reads_line sep entry served start next (Ok (Some (commands.Read prov sector count))) line (Some (answers.Refused (refusals.Integrity offset))) run all here h =
    let t = turned line (commands.Read prov sector count) (bytes_at line prov) start (answers.Refused (refusals.Integrity offset)) next (place_of (bytes_at line prov) start.drawers) refl h (λ u. (let no : ⊥ = cc (u.refused) in no)) in
    from_row line (commands.Read prov sector count) (reach t.2.before start) (answers.Refused (refusals.Integrity offset)) (reach t.2.after next)
    (λ a. Replies payload_or (ReadRow sector count a) (reach t.2.before start) (answers.Refused (refusals.Integrity offset)) (reach t.2.after next))
    (StandsSo sep entry served start line prov (λ k c m. data_read k sector count (cell c m.steps) ≡ Err offset)) tt (λ through. through)
    (λ a is step.
    let row = subst (λ (r : Result (List ℕ) Refusal). ReadRow sector count a (reach t.2.before start) r (reach t.2.after next)) (refused_is step.answer (refusals.Integrity offset) step.replied) step.row in
    let f = read_found sector count a (reach t.2.before start) (Err (refusals.Integrity offset)) (reach t.2.after next) is (here t.2.before (t.0, t.2.found)) tt row in
    stands sep entry served start line prov sector count (Err offset) t.0 t.2.before f.attachment run all t.1 t.2.found f.attached f.keyed f.fits f.reads.reads)
    t.2.step
reads_line sep entry served start next (Ok (Some (commands.Sum prov sector count))) line (Some (answers.Digest digest)) run all here h =
    let t = turned line (commands.Sum prov sector count) (bytes_at line prov) start (answers.Digest digest) next (place_of (bytes_at line prov) start.drawers) refl h (λ u. (let no : ⊥ = cc (u.refused) in no)) in
    from_row line (commands.Sum prov sector count) (reach t.2.before start) (answers.Digest digest) (reach t.2.after next)
    (λ a. Replies digest_or (SumRow sector count a) (reach t.2.before start) (answers.Digest digest) (reach t.2.after next))
    (StandsSo sep entry served start line prov (λ k c m. IsDigestOf (data_read k sector count (cell c m.steps)) digest)) tt (λ through. through)
    (λ a is step.
    let row = subst (λ (r : Result (List ℕ) Refusal). SumRow sector count a (reach t.2.before start) r (reach t.2.after next)) (digest_is step.answer digest step.replied) step.row in
    let f = sum_found sector count a (reach t.2.before start) (Ok digest) (reach t.2.after next) is (here t.2.before (t.0, t.2.found)) tt row in
    summed sep entry served start line prov sector count digest t.0 t.2.before f.read f.middle run all t.1 t.2.found f.found f.is)
    t.2.step
reads_line sep entry served start next (Ok (Some (commands.Sum prov sector count))) line (Some (answers.Refused (refusals.Integrity offset))) run all here h =
    let t = turned line (commands.Sum prov sector count) (bytes_at line prov) start (answers.Refused (refusals.Integrity offset)) next (place_of (bytes_at line prov) start.drawers) refl h (λ u. (let no : ⊥ = cc (u.refused) in no)) in
    from_row line (commands.Sum prov sector count) (reach t.2.before start) (answers.Refused (refusals.Integrity offset)) (reach t.2.after next)
    (λ a. Replies digest_or (SumRow sector count a) (reach t.2.before start) (answers.Refused (refusals.Integrity offset)) (reach t.2.after next))
    (StandsSo sep entry served start line prov (λ k c m. data_read k sector count (cell c m.steps) ≡ Err offset)) tt (λ through. through)
    (λ a is step.
    let row = subst (λ (r : Result (List ℕ) Refusal). SumRow sector count a (reach t.2.before start) r (reach t.2.after next)) (unsummed_is step.answer (refusals.Integrity offset) step.replied) step.row in
    let f = sum_found sector count a (reach t.2.before start) (Err (refusals.Integrity offset)) (reach t.2.after next) is (here t.2.before (t.0, t.2.found)) tt row in
    faulted sep entry served start line prov sector count offset t.0 t.2.before f.read f.middle run all t.1 t.2.found f.found f.is)
    t.2.step
reads_line sep entry served start next (Ok (Some (commands.Reap prov tag))) line (Some (answers.Payload bytes)) run all here h =
    let t = turned line (commands.Reap prov tag) (bytes_at line prov) start (answers.Payload bytes) next (place_of (bytes_at line prov) start.drawers) refl h (λ u. (let no : ⊥ = cc (u.refused) in no)) in
    let old = reach t.2.before start in
    from_row line (commands.Reap prov tag) old (answers.Payload bytes) (reach t.2.after next) (λ a. Replies reaped_or (ReapRow tag a) old (answers.Payload bytes) (reach t.2.after next))
    (StandsSo sep entry served start line prov (ReadsAsAsked tag (Ok bytes))) tt (λ through. through)
    (λ a is step.
    stands_by sep entry served start line prov (ReadsAsAsked tag (Ok bytes)) t.0 t.2.before a run all t.1 t.2.found is
    (λ s. told_holds (HasNoRequests s.before.holding) s.before.disk.content s.play t.2.before (λ c. ReadsAsAsked tag (Ok bytes) a.keying c s.play) s.tells
    (λ c f. reaped_bytes (HasNoRequests s.before.holding) c s.play a tag old step.answer (reach t.2.after next) bytes is f step.row step.replied)))
    t.2.step
reads_line sep entry served start next (Ok (Some (commands.Reap prov tag))) line (Some (answers.Refused (refusals.Integrity offset))) run all here h =
    let said_so : Answer = answers.Refused (refusals.Integrity offset) in
    let t = turned line (commands.Reap prov tag) (bytes_at line prov) start said_so next (place_of (bytes_at line prov) start.drawers) refl h (λ u. (let no : ⊥ = cc (u.refused) in no)) in
    let old = reach t.2.before start in
    from_row line (commands.Reap prov tag) old said_so (reach t.2.after next) (λ a. Replies reaped_or (ReapRow tag a) old said_so (reach t.2.after next))
    (StandsSo sep entry served start line prov (ReadsAsAsked tag (Err offset))) tt (λ through. through)
    (λ a is step.
    stands_by sep entry served start line prov (ReadsAsAsked tag (Err offset)) t.0 t.2.before a run all t.1 t.2.found is
    (λ s. told_holds (HasNoRequests s.before.holding) s.before.disk.content s.play t.2.before (λ c. ReadsAsAsked tag (Err offset) a.keying c s.play) s.tells
    (λ c f. reaped_fault (HasNoRequests s.before.holding) c s.play a tag old step.answer (reach t.2.after next) offset is f step.row step.replied)))
    t.2.step
reads_line sep entry served start next (Ok (Some (commands.Reap prov tag))) line (Some answers.Done) run all here h =
    let t = turned line (commands.Reap prov tag) (bytes_at line prov) start answers.Done next (place_of (bytes_at line prov) start.drawers) refl h (λ u. (let no : ⊥ = cc (u.refused) in no)) in
    let old = reach t.2.before start in
    from_row line (commands.Reap prov tag) old answers.Done (reach t.2.after next) (λ a. Replies reaped_or (ReapRow tag a) old answers.Done (reach t.2.after next))
    (StandsSo sep entry served start line prov (IsDoneAsAsked tag)) tt (λ through. through)
    (λ a is step.
    stands_by sep entry served start line prov (IsDoneAsAsked tag) t.0 t.2.before a run all t.1 t.2.found is
    (λ s. told_holds (HasNoRequests s.before.holding) s.before.disk.content s.play t.2.before (λ c. IsDoneAsAsked tag a.keying c s.play) s.tells
    (λ c f. reaped_done (HasNoRequests s.before.holding) c s.play a tag old step.answer (reach t.2.after next) is f step.row step.replied)))
    t.2.step
reads_line sep entry served start next read line answer run all here h = tt
