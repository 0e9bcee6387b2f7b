-- Sweeps one after another: the lines of a run that sweep one drawer under one keying, by the place in one file.
use Rattle.std.specs.Prelude.{◌≡◌, ℕ, ◌-◌, ◌*◌, ◌≤◌, Bool, true, false, ◌&&◌, List, [], ◌∷◌, ◌++◌, map, sum, Option, Some, None, IsSome, if◌then◌else◌, slice_get}
use Rattle.std.specs.List.{range_with_len}
use Rattle.std.specs.Option.{option_map}
use Rattle.std.specs.Str.{bytes_eq}
use Rattle.command_rows.specs.Rows.{Answer, Attachment, DrawerState, IsAttached, OfSweep, RunKind, World, place_of}
use Rattle.command_rows.specs.Vocabulary.{Keying, bytes_at, cut_count, media, place_after, sectors_after, units}
use Rattle.reply_text.specs.Answer as answers
use Rattle.command_rows.specs.Verb.{OfOther, OfRead, OfReap, OfResume, OfSum}
use Rattle.command_rows.specs.verbs.Verify.{ListsUnits}
use Rattle.geli_core.specs.Kinds.{kind_read}
use Rattle.geli_core.specs.Trace.{ServedLine}
use Rattle.geli_core.specs.Vocabulary.{Sep, line_reading}

-- ---- a course of sweeps

-- the name of the drawer that is swept, the file of the place, the keying, and how many logical sectors there are
pub record Course : Type 0 where
  pub name : List ℕ
  pub file : List ℕ
  pub keying : Keying
  pub sectors : ℕ

-- the drawer is there, attached under the keying, and has so many sectors
pub record HasDrawer (course : Course) (world : World) : Type 0 where
  pub place : ℕ
  pub named : place_of course.name world.drawers ≡ Some place
  pub drawer : DrawerState
  pub there : slice_get world.drawers place ≡ Some drawer
  pub attachment : Attachment
  pub attached : drawer.holding ≡ IsAttached attachment
  pub keying : attachment.keying ≡ course.keying
  pub sectors : media course.keying drawer.disk ≡ course.sectors

-- what the file of the place has, if the cabinet reports that
abbrev pub place_file : Course → World → Option (Option (List ℕ))
place_file course world = option_map (λ files. files course.file) world.cabinet.files

-- ---- the lines of a course

-- what a `verify` asks for: over how many sectors it goes, and whether it begins anew
pub record AskedSweep : Type 0 where
  pub count : ℕ
  pub restart : Bool

-- a line of the course is a `verify` that names the drawer and the file
abbrev pub asked_by : Course → List ℕ → RunKind → Option AskedSweep
asked_by course line (OfSweep prov file count restart) =
    if bytes_eq (bytes_at line prov) course.name && bytes_eq (bytes_at line file) course.file then Some (record { count = count; restart = restart }) else None
asked_by course line (OfRead prov sector count) = None
asked_by course line (OfSum prov sector count) = None
asked_by course line (OfReap prov tag) = None
asked_by course line (OfResume prov words) = None
asked_by course line OfOther = None

-- the counts, and after them that of this line if it was answered that a part was swept
abbrev pub counts_with : List ℕ → Option AskedSweep → Option Answer → List ℕ
counts_with counts (Some asked) (Some (answers.Verified offsets next)) = counts ++ asked.count ∷ []
counts_with counts asked answer = counts

-- After parts with these counts, the first of which began at the first sector, a part goes from where they ended to
-- `next`: the units that fail there are listed. All together go over the sectors before `next`, each once. If their
-- counts, each cut to the sectors of a part, reach the end, so do the parts.
pub record IsNextPart (course : Course) (counts : List ℕ) (count : ℕ) (offsets : List ℕ) (next : ℕ) (old new : World) : Type 0 where
  pub before : HasDrawer course old
  pub after : DrawerState
  pub there : slice_get new.drawers before.place ≡ Some after
  pub lists : let start : ℕ = place_after course.keying course.sectors 0 counts in
      ListsUnits course.keying (start * units course.keying) ((next - start) * units course.keying) offsets before.drawer.disk after.disk
  pub next_is : next ≡ place_after course.keying course.sectors 0 (counts ++ count ∷ [])
  pub each_once : sectors_after course.keying course.sectors 0 (counts ++ count ∷ []) ≡ range_with_len 0 next
  pub reaches : course.sectors ≤ sum (map (cut_count course.keying) (counts ++ count ∷ [])) → next ≡ course.sectors

abbrev pub SweepsPart : Course → List ℕ → Option AskedSweep → World → Option Answer → World → Type 0
SweepsPart course counts (Some asked) old (Some (answers.Verified offsets next)) new = IsNextPart course counts asked.count offsets next old new
SweepsPart course counts asked old answer new = Unit {0}

-- ---- a run

-- a line of the course finds the drawer and doesn't begin anew, and any other leaves the file as it is
abbrev pub KeepsCourse : Course → Option AskedSweep → World → World → Type 0
KeepsCourse course (Some asked) old new = (asked.restart ≡ false) × HasDrawer course old
KeepsCourse course None old new = place_file course new ≡ place_file course old

-- as long as the lines keep to the course, each goes on where those before it ended
abbrev pub EachGoesOn : Course → List ℕ → Sep → World → List ServedLine → Type 0
EachGoesOn course counts sep start [] = Unit {0}
EachGoesOn course counts sep start (l ∷ lines) =
    KeepsCourse course (asked_by course l.line (kind_read (line_reading sep l.line))) start l.next →
    SweepsPart course counts (asked_by course l.line (kind_read (line_reading sep l.line))) start l.answer l.next
    × EachGoesOn course (counts_with counts (asked_by course l.line (kind_read (line_reading sep l.line))) l.answer) sep l.next lines

-- a course begins with a line that begins anew and is answered that a part was swept, if the cabinet reports its files
abbrev pub BeginsCourse : Course → Option AskedSweep → World → Option Answer → Type 0
BeginsCourse course (Some asked) old (Some (answers.Verified offsets next)) = (asked.restart ≡ true) × IsSome old.cabinet.files × HasDrawer course old
BeginsCourse course asked old answer = ⊥

-- each course that begins in the run goes on as long as its lines keep to it
abbrev pub EachBegins : Course → Sep → World → List ServedLine → Type 0
EachBegins course sep start [] = Unit {0}
EachBegins course sep start (l ∷ lines) =
    (BeginsCourse course (asked_by course l.line (kind_read (line_reading sep l.line))) start l.answer →
    SweepsPart course [] (asked_by course l.line (kind_read (line_reading sep l.line))) start l.answer l.next
    × EachGoesOn course (counts_with [] (asked_by course l.line (kind_read (line_reading sep l.line))) l.answer) sep l.next lines)
    × EachBegins course sep l.next lines
