-- The lines of a course of sweeps.
use Rattle.std.proofs.Common.{◌≡◌, ◌∙◌, ℕ, ◌+◌, ◌-◌, ◌*◌, ◌^◌, ◌<◌, ◌≤◌, Bool, true, false, cond, List, [], ◌∷◌, ◌++◌, Option, Some, None, IsSome, Result, Ok, Err, refl, ap, sym, subst, arith, ◌&&◌, MatchOption, slice_get}
use Rattle.std.specs.List.{range_with_len}
use Rattle.std.specs.Option.{option_map}
use Rattle.std.specs.Str.{bytes_eq}
use Rattle.std.proofs.Math.Nat.{div-le_self}
use Rattle.std.proofs.lemmas.Slice.Eq.{bytes_eq-Decides}
use Rattle.command_rows.specs.Rows.{Answer, AttachedWith, Attachment, DrawerState, Holding, IsAttached, Reach, World, place_of}
use Rattle.command_rows.specs.Vocabulary.{Command, DiskState, Files, Keying, Refusal, Span, bytes_at, le64, media, place_after, sectors_swept, stored, sweep_at, units}
use Rattle.command_words.specs.declared.commands.Command.TheVariants as commands
use Rattle.verify_sweep.proofs.Places.{all_sectors, reaches, stays_within}
use Rattle.reply_text.specs.Answer as answers
use Rattle.command_rows.specs.verbs.Verify.{FindsPlace, ListsUnits, SweptPart, VerifyRow}
use Rattle.command_rows.proofs.SweepPlaces.{starts_anew}
use Rattle.command_rows.proofs.SweepRows.{HoldsPlace, SweptFrom, refused_leaves, swept, told_place}
use Rattle.command_rows.proofs.Untouched.{get-set}
use Rattle.geli_core.specs.Run.{ServesReading}
use Rattle.geli_core.specs.Kinds.{kind_read}
use Rattle.geli_core.specs.Trace.{EachServed, ServedLine}
use Rattle.geli_core.specs.Sweeps.{AskedSweep, BeginsCourse, Course, EachBegins, EachGoesOn, HasDrawer, IsNextPart, KeepsCourse, SweepsPart, asked_by, counts_with, place_file}
use Rattle.geli_core.specs.Vocabulary.{AnAttached, ChangesAt, IsRefused, IsUnknown, Replies, Sep, Serves, Turn, Usage, line_reading, reach, refused_by, verified_or}

-- where the parts with these counts end
abbrev end_of : Course → List ℕ → ℕ
end_of course counts = place_after course.keying course.sectors 0 counts

-- ---- one part more

place_after-more : (k : Keying) (there start : ℕ) (counts : List ℕ) (count : ℕ)
    → place_after k there start (counts ++ count ∷ []) ≡ place_after k there start counts + sectors_swept (sweep_at k there (place_after k there start counts) count)
place_after-more k there start [] count = refl
place_after-more k there start (n ∷ counts) count = place_after-more k there (start + sectors_swept (sweep_at k there start n)) counts count

-- what a sweep does from a place on
record GoesFrom (k : Keying) (there place count : ℕ) (part : SweptPart) (old new : DiskState) : Type 0 where
  next : part.next ≡ place + sectors_swept (sweep_at k there place count)
  lists : ListsUnits k (place * units k) (sectors_swept (sweep_at k there place count) * units k) part.offsets old new

next_part : (course : Course) (counts : List ℕ) (count : ℕ) (part : SweptPart) (old new : World) (d : HasDrawer course old) (after : DrawerState) → slice_get new.drawers d.place ≡ Some after
    → GoesFrom course.keying course.sectors (end_of course counts) count part d.drawer.disk after.disk → IsNextPart course counts count part.offsets part.next old new
next_part course counts count part old new d after there goes =
    let k : Keying = course.keying in
    let start : ℕ = end_of course counts in
    let n : ℕ = sectors_swept (sweep_at k course.sectors start count) in
    let next : part.next ≡ end_of course (counts ++ count ∷ []) = goes.next ∙ sym (place_after-more k course.sectors 0 counts count) in
    let many : n ≡ part.next - start = let sum : part.next ≡ start + n = goes.next in omega (arith, sum) in
    let all : end_of course (counts ++ count ∷ []) - 0 ≡ part.next = omega (arith, next) in
    record {
      before = d;
      after = after;
      there = there;
      lists = subst (λ (m : ℕ). ListsUnits k (start * units k) (m * units k) part.offsets d.drawer.disk after.disk) many goes.lists;
      next_is = next;
      each_once = all_sectors k course.sectors 0 (counts ++ count ∷ []) ∙ ap (range_with_len 0) all;
      reaches = λ enough. next ∙ reaches k course.sectors 0 (counts ++ count ∷ []) (omega arith) (omega (arith, enough));
    }

-- ---- what a line does

-- a `verify` that names the drawer goes through its row there
record GoesThere (line : List ℕ) (file : Span) (count : ℕ) (restart : Bool) (old : World) (said : Answer) (new : World) (place : ℕ) (drawer : DrawerState) (a : Attachment) : Type 0 where
  after : DrawerState
  there : slice_get new.drawers place ≡ Some after
  replies : Replies verified_or (VerifyRow line file count restart a) (reach drawer old) said (reach after new)

gone_through : (line : List ℕ) (file : Span) (count : ℕ) (restart : Bool) (old : Reach) (said : Answer) (new : Reach) (a : Attachment) (holding : Holding) → holding ≡ IsAttached a
    → MatchOption (refused_by AnAttached holding) (AttachedWith holding (λ b. Replies verified_or (VerifyRow line file count restart b) old said new)) (IsRefused old said new)
    → Replies verified_or (VerifyRow line file count restart a) old said new
gone_through line file count restart old said new a holding is h =
    subst (λ (x : Holding). MatchOption (refused_by AnAttached x) (AttachedWith x (λ b. Replies verified_or (VerifyRow line file count restart b) old said new)) (IsRefused old said new)) is h

goes_there : (course : Course) (line : List ℕ) (prov file : Span) (count : ℕ) (restart : Bool) (old : World) (said : Answer) (new : World) → bytes_at line prov ≡ course.name → (d : HasDrawer course old)
    → Turn line (commands.Verify prov file count restart) old said new → GoesThere line file count restart old said new d.place d.drawer d.attachment
goes_there course line prov file count restart old said new name d h =
    let command : Command = commands.Verify prov file count restart in
    let named : place_of (bytes_at line prov) old.drawers ≡ Some d.place = ap (λ (n : List ℕ). place_of n old.drawers) name ∙ d.named in
    let changes : ChangesAt (Serves line command) old said new d.place = subst (λ (o : Option ℕ). MatchOption o (IsUnknown old said new) (ChangesAt (Serves line command) old said new)) named h in
    let same : changes.before ≡ d.drawer = cc (changes.found, d.there) in
    let step : Serves line command (reach d.drawer old) said (reach changes.after new) = subst (λ (x : DrawerState). Serves line command (reach x old) said (reach changes.after new)) same changes.step in
    record {
      after = changes.after;
      there = subst (λ (ds : List DrawerState). slice_get ds d.place ≡ Some changes.after) (sym changes.others) (get-set old.drawers d.place changes.before changes.after changes.found);
      replies = gone_through line file count restart (reach d.drawer old) said (reach changes.after new) d.attachment d.drawer.holding d.attached step;
    }

-- ---- the file

file_stored : (told : Option Files) (name bytes : List ℕ) → IsSome told → option_map (λ (files : Files). files name) (stored name bytes told) ≡ Some (Some bytes)
file_stored None name bytes some = absurd (let none : ⊥ = cc some in none)
file_stored (Some files) name bytes some = ap (λ (b : Bool). Some (cond b (Some bytes) (files name))) ((bytes_eq-Decides name name).1 refl)

told_file : (told : Option Files) (name bytes : List ℕ) → option_map (λ (files : Files). files name) told ≡ Some (Some bytes) → (files : Files) × (told ≡ Some files) × (files name ≡ Some bytes)
told_file None name bytes is = absurd (let none : ⊥ = cc is in none)
told_file (Some files) name bytes is = (files, refl, cc is)

is_told : (told : Option Files) (name : List ℕ) (found : Option (List ℕ)) → option_map (λ (files : Files). files name) told ≡ Some found → IsSome told
is_told None name found is = absurd (let none : ⊥ = cc is in none)
is_told (Some files) name found is = refl

-- no place is too large for eight bytes
sectors_small : (course : Course) (old : World) → HasDrawer course old → course.sectors < 2 ^ 64
sectors_small course old d =
    let size = d.drawer.disk.well_formed.bound in
    let least : media course.keying d.drawer.disk ≤ 512 * d.drawer.disk.size - 512 = div-le_self (512 * d.drawer.disk.size - 512) (512 * units course.keying) in
    omega (arith, size, least, d.sectors)

-- ---- a line of the course

-- the file says where the parts before ended
record StandsAt (course : Course) (counts : List ℕ) (world : World) : Type 0 where
  holds : place_file course world ≡ Some (Some (le64 (end_of course counts)))

-- a part was swept from where the file says, and the file says where it ended
record Advances (course : Course) (counts : List ℕ) (asked : Option AskedSweep) (old : World) (answer : Option Answer) (new : World) : Type 0 where
  part : SweepsPart course counts asked old answer new
  stands : StandsAt course (counts_with counts asked answer) new

from_row : (line : List ℕ) (file : Span) (count : ℕ) (restart : Bool) (course : Course) (counts : List ℕ) (old : World) (d : HasDrawer course old) (part : SweptPart) (new : Reach) → (r : SweptFrom line file count restart d.attachment (reach d.drawer old) part new)
    → r.place ≡ end_of course counts → GoesFrom course.keying course.sectors (end_of course counts) count part d.drawer.disk new.disk
from_row line file count restart course counts old d part new r at =
    let disk : DiskState = d.drawer.disk in
    let first : GoesFrom d.attachment.keying (media d.attachment.keying disk) r.place count part disk new.disk = record { next = r.next; lists = r.lists } in
    let keyed : GoesFrom course.keying (media course.keying disk) r.place count part disk new.disk = subst (λ (k : Keying). GoesFrom k (media k disk) r.place count part disk new.disk) d.keying first in
    subst (λ (n : ℕ). GoesFrom course.keying course.sectors n count part disk new.disk) at (subst (λ (n : ℕ). GoesFrom course.keying n r.place count part disk new.disk) d.sectors keyed)

part_swept : (course : Course) (counts : List ℕ) (line : List ℕ) (file : Span) (count : ℕ) (restart : Bool) (old new : World) (d : HasDrawer course old) (after : DrawerState) (part : SweptPart) → slice_get new.drawers d.place ≡ Some after → bytes_at line file ≡ course.file
    → IsSome old.cabinet.files → ((place : ℕ) (found : Reach) → FindsPlace restart line file (reach d.drawer old) (Ok place) found → place ≡ end_of course counts)
    → VerifyRow line file count restart d.attachment (reach d.drawer old) (Ok part) (reach after new)
    → Advances course counts (Some (record { count = count; restart = restart })) old (Some (answers.Verified part.offsets part.next)) new
part_swept course counts line file count restart old new d after part there name told at row =
    let r = swept line file count restart d.attachment (reach d.drawer old) part (reach after new) row in
    let next = next_part course counts count part old new d after there (from_row line file count restart course counts old d part (reach after new) r (at r.place r.found r.finds)) in
    let holds : option_map (λ (files : Files). files (bytes_at line file)) new.cabinet.files ≡ Some (Some (le64 part.next)) =
    ap (option_map (λ (files : Files). files (bytes_at line file))) r.files ∙ file_stored old.cabinet.files (bytes_at line file) (le64 part.next) told in
    let named : place_file course new ≡ Some (Some (le64 part.next)) = subst (λ (n : List ℕ). option_map (λ (files : Files). files n) new.cabinet.files ≡ Some (Some (le64 part.next))) name holds in
    record { part = next; stands = record { holds = named ∙ ap (λ (n : ℕ). Some (Some (le64 n))) next.next_is } }

-- ---- a line that goes on

place_goes : (course : Course) (counts : List ℕ) (line : List ℕ) (file : Span) (restart : Bool) (old : World) (d : HasDrawer course old) (place : ℕ) (found : Reach) → StandsAt course counts old → bytes_at line file ≡ course.file → restart ≡ false
    → FindsPlace restart line file (reach d.drawer old) (Ok place) found → place ≡ end_of course counts
place_goes course counts line file restart old d place found stands name on h =
    let n : ℕ = end_of course counts in
    let within : n ≤ course.sectors = stays_within course.keying course.sectors 0 counts (omega arith) in
    let holds : option_map (λ (files : Files). files (bytes_at line file)) old.cabinet.files ≡ Some (Some (le64 n)) =
    subst (λ (m : List ℕ). option_map (λ (files : Files). files m) old.cabinet.files ≡ Some (Some (le64 n))) (sym name) stands.holds in
    let t = told_file old.cabinet.files (bytes_at line file) (le64 n) holds in
    let there : HoldsPlace line file old.cabinet n = record { small = omega (arith, within, sectors_small course old d); files = t.0; told = t.1; holds = t.2 } in
    told_place line file (reach d.drawer old) n place found there (subst (λ (b : Bool). FindsPlace b line file (reach d.drawer old) (Ok place) found) on h)

goes_by : (course : Course) (counts : List ℕ) (line : List ℕ) (file : Span) (count : ℕ) (restart : Bool) (old new : World) (d : HasDrawer course old) (after : DrawerState) (answer : Result SweptPart Refusal) → slice_get new.drawers d.place ≡ Some after
    → bytes_at line file ≡ course.file → restart ≡ false → StandsAt course counts old → VerifyRow line file count restart d.attachment (reach d.drawer old) answer (reach after new)
    → Advances course counts (Some (record { count = count; restart = restart })) old (Some (verified_or answer)) new
goes_by course counts line file count restart old new d after (Ok part) there name on stands row =
    part_swept course counts line file count restart old new d after part there name (is_told old.cabinet.files course.file _ stands.holds) (λ place found h. place_goes course counts line file restart old d place found stands name on h) row
goes_by course counts line file count restart old new d after (Err refusal) there name on stands row = record {
  part = tt;
  stands = record { holds = ap (option_map (λ (files : Files). files course.file)) (refused_leaves line file count restart d.attachment (reach d.drawer old) refusal (reach after new) row) ∙ stands.holds };
}

goes_on_line : (course : Course) (counts : List ℕ) (line : List ℕ) (prov file : Span) (count : ℕ) (restart : Bool) (old : World) (said : Answer) (new : World) → bytes_at line prov ≡ course.name → bytes_at line file ≡ course.file → restart ≡ false → HasDrawer course old
    → StandsAt course counts old → Turn line (commands.Verify prov file count restart) old said new → Advances course counts (Some (record { count = count; restart = restart })) old (Some said) new
goes_on_line course counts line prov file count restart old said new prov_is file_is on d stands h =
    let g = goes_there course line prov file count restart old said new prov_is d h in
    subst (λ (s : Answer). Advances course counts (Some (record { count = count; restart = restart })) old (Some s) new) (sym g.replies.replied)
    (goes_by course counts line file count restart old new d g.after g.replies.answer g.there file_is on stands g.replies.row)

-- a line that isn't of the course
apart : (course : Course) (counts : List ℕ) (old : World) (answer : Option Answer) (new : World) → StandsAt course counts old → place_file course new ≡ place_file course old → Advances course counts None old answer new
apart course counts old answer new stands same = record { part = tt; stands = record { holds = same ∙ stands.holds } }

verify_goes : (course : Course) (counts : List ℕ) (line : List ℕ) (prov file : Span) (count : ℕ) (restart named filed : Bool) (old : World) (answer : Option Answer) (new : World) → bytes_eq (bytes_at line prov) course.name ≡ named → bytes_eq (bytes_at line file) course.file ≡ filed
    → StandsAt course counts old → (let asked : Option AskedSweep = cond (named && filed) (Some (record { count = count; restart = restart })) None in KeepsCourse course asked old new)
    → ServesReading (Ok (Some (commands.Verify prov file count restart))) line old answer new
    → (let asked : Option AskedSweep = cond (named && filed) (Some (record { count = count; restart = restart })) None in Advances course counts asked old answer new)
verify_goes course counts line prov file count restart true true old (Some said) new prov_is file_is stands keeps h =
    goes_on_line course counts line prov file count restart old said new ((bytes_eq-Decides (bytes_at line prov) course.name).0 prov_is) ((bytes_eq-Decides (bytes_at line file) course.file).0 file_is) keeps.0 keeps.1 stands h
verify_goes course counts line prov file count restart true true old None new prov_is file_is stands keeps h = absurd h
verify_goes course counts line prov file count restart true false old answer new prov_is file_is stands keeps h = apart course counts old answer new stands keeps
verify_goes course counts line prov file count restart false filed old answer new prov_is file_is stands keeps h = apart course counts old answer new stands keeps

line_goes : (course : Course) (counts : List ℕ) (read : Result (Option Command) Usage) (line : List ℕ) (old : World) (answer : Option Answer) (new : World) → StandsAt course counts old → KeepsCourse course (asked_by course line (kind_read read)) old new → ServesReading read line old answer new
    → Advances course counts (asked_by course line (kind_read read)) old answer new
line_goes course counts (Ok (Some (commands.Verify prov file count restart))) line old answer new stands keeps h =
    verify_goes course counts line prov file count restart (bytes_eq (bytes_at line prov) course.name) (bytes_eq (bytes_at line file) course.file) old answer new refl refl stands keeps h
line_goes course counts read line old answer new stands keeps h = apart course counts old answer new stands keeps

each_goes_on : (course : Course) (counts : List ℕ) (sep : Sep) (start : World) (lines : List ServedLine) → EachServed sep start lines → StandsAt course counts start → EachGoesOn course counts sep start lines
each_goes_on course counts sep start [] served stands = tt
each_goes_on course counts sep start (l ∷ lines) served stands = λ keeps.
    let next = line_goes course counts (line_reading sep l.line) l.line start l.answer l.next stands keeps served.0 in
    (next.part, each_goes_on course (counts_with counts (asked_by course l.line (kind_read (line_reading sep l.line))) l.answer) sep l.next lines served.1 next.stands)

-- ---- a line that begins

begins_by : (course : Course) (line : List ℕ) (file : Span) (count : ℕ) (restart : Bool) (offsets : List ℕ) (next : ℕ) (old new : World) (d : HasDrawer course old) (after : DrawerState) (answer : Result SweptPart Refusal) → slice_get new.drawers d.place ≡ Some after
    → bytes_at line file ≡ course.file → restart ≡ true → IsSome old.cabinet.files → answers.Verified offsets next ≡ verified_or answer → VerifyRow line file count restart d.attachment (reach d.drawer old) answer (reach after new)
    → Advances course [] (Some (record { count = count; restart = restart })) old (Some (answers.Verified offsets next)) new
begins_by course line file count restart offsets next old new d after (Ok part) there name anew told is row =
    subst (λ (s : Answer). Advances course [] (Some (record { count = count; restart = restart })) old (Some s) new) (sym is)
    (part_swept course [] line file count restart old new d after part there name told
    (λ place found h. starts_anew line file (reach d.drawer old) place found (subst (λ (b : Bool). FindsPlace b line file (reach d.drawer old) (Ok place) found) anew h)) row)
begins_by course line file count restart offsets next old new d after (Err refusal) there name anew told is row = absurd (let none : ⊥ = cc is in none)

verify_begins : (course : Course) (line : List ℕ) (prov file : Span) (count : ℕ) (restart named filed : Bool) (old : World) (answer : Option Answer) (new : World) → bytes_eq (bytes_at line prov) course.name ≡ named → bytes_eq (bytes_at line file) course.file ≡ filed
    → (let asked : Option AskedSweep = cond (named && filed) (Some (record { count = count; restart = restart })) None in BeginsCourse course asked old answer)
    → ServesReading (Ok (Some (commands.Verify prov file count restart))) line old answer new
    → (let asked : Option AskedSweep = cond (named && filed) (Some (record { count = count; restart = restart })) None in Advances course [] asked old answer new)
verify_begins course line prov file count restart true true old (Some (answers.Verified offsets next)) new prov_is file_is begins h =
    let g = goes_there course line prov file count restart old (answers.Verified offsets next) new ((bytes_eq-Decides (bytes_at line prov) course.name).0 prov_is) begins.2 h in
    begins_by course line file count restart offsets next old new begins.2 g.after g.replies.answer g.there ((bytes_eq-Decides (bytes_at line file) course.file).0 file_is) begins.0 begins.1 g.replies.replied g.replies.row
verify_begins course line prov file count restart true true old answer new prov_is file_is begins h = absurd begins
verify_begins course line prov file count restart true false old answer new prov_is file_is begins h = absurd begins
verify_begins course line prov file count restart false filed old answer new prov_is file_is begins h = absurd begins

line_begins : (course : Course) (read : Result (Option Command) Usage) (line : List ℕ) (old : World) (answer : Option Answer) (new : World) → BeginsCourse course (asked_by course line (kind_read read)) old answer → ServesReading read line old answer new
    → Advances course [] (asked_by course line (kind_read read)) old answer new
line_begins course (Ok (Some (commands.Verify prov file count restart))) line old answer new begins h =
    verify_begins course line prov file count restart (bytes_eq (bytes_at line prov) course.name) (bytes_eq (bytes_at line file) course.file) old answer new refl refl begins h
line_begins course read line old answer new begins h = absurd begins

pub each_begins : (course : Course) (sep : Sep) (start : World) (lines : List ServedLine) → EachServed sep start lines → EachBegins course sep start lines
each_begins course sep start [] served = tt
each_begins course sep start (l ∷ lines) served = (
  λ begins.
      let next = line_begins course (line_reading sep l.line) l.line start l.answer l.next begins served.0 in
      (next.part, each_goes_on course (counts_with [] (asked_by course l.line (kind_read (line_reading sep l.line))) l.answer) sep l.next lines served.1 next.stands),
  each_begins course sep l.next lines served.1,
)
