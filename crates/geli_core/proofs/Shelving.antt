-- Disks under their names on a shelf: all of them, one after another, or why not.
use Rattle.std.proofs.Common.{◌≡◌, ◌∙◌, ap, arith, cond, drop, false, true, Bool, get_or, length, map, refl, sym, subst, append_assoc, ℕ, ◌+◌, ◌<◌, List, [], ◌∷◌, ◌++◌, None, Some, Option, slice_index_or, IsNone, IsSome}
use Rattle.std.proofs.lemmas.List.{drop_more, length-append, map-append}
use Rattle.std.specs.List.{remove}
use Rattle.std.specs.Option.{option_map}
use Rattle.std.specs.Str.{bytes_eq}
use Rattle.std.proofs.lemmas.Slice.Eq.{bytes_eq-Decides}
use Rattle.command_rows.specs.Rows.{DrawerState, Idle, NamesDiffer, place_of}
use Rattle.command_rows.specs.Vocabulary.{DiskState}
use Rattle.geli_core.specs.Images.{IsNotShelved, OutsideState, RunsOver, disks_of, idle_drawers, whole_with}
use Rattle.geli_core.specs.Lawful.{RunsLawfully}
use Rattle.geli_core.specs.Vocabulary.{AddFault}
use Rattle.run_status.specs.declared.status.Status.{Status}
use Rattle.shelf.specs.Adding.{RefusesToAdd}
use Rattle.shelf.specs.declared.drawers.AddFault.TheVariants.{Full, Taken, NoMemory}

first_disk : {D : Type 0} (state : D → DiskState) (items rest : List D) (disk : D) → 0 < length items → disk ≡ slice_index_or items 0 disk → rest ≡ remove items 0
    → map state items ≡ state disk ∷ map state rest
first_disk state [] rest disk some is left = absurd (omega (arith, some))
first_disk state (d ∷ ds) rest disk some is left = rw (is, left) refl

pub idle_next : {D S : Type 0} (state : D → DiskState) (bytes : S → List ℕ) (added : List DrawerState) (names : List S) (i : ℕ) (name : S) (items rest : List D) (disk : D)
    → i < length names → get_or names i name ≡ name → 0 < length items → disk ≡ slice_index_or items 0 disk → rest ≡ remove items 0
    → (added ++ record { name = bytes name; disk = state disk; holding = Idle } ∷ []) ++ idle_drawers (map bytes (drop (i + 1) names)) (map state rest)
    ≡ added ++ idle_drawers (map bytes (drop i names)) (map state items)
idle_next state bytes added names i name items rest disk inside is some first left =
    rw (drop_more names i name inside, is, first_disk state items rest disk some first left)
    (append_assoc added (record { name = bytes name; disk = state disk; holding = Idle } ∷ []) (idle_drawers (map bytes (drop (i + 1) names)) (map state rest)))

-- no disk is lost on the way to the shelf
pub taken_next : {D : Type 0} (state : D → DiskState) (before : List DrawerState) (name : List ℕ) (items rest : List D) (disk : D) (all : List DiskState) → 0 < length items → disk ≡ slice_index_or items 0 disk → rest ≡ remove items 0
    → disks_of before ++ map state items ≡ all → disks_of (before ++ record { name = name; disk = state disk; holding = Idle } ∷ []) ++ map state rest ≡ all
taken_next state before name items rest disk all some first left is =
    ap (λ (l : List DiskState). l ++ map state rest) (map-append (λ (drawer : DrawerState). drawer.disk) before (record { name = name; disk = state disk; holding = Idle } ∷ []))
    ∙ append_assoc (disks_of before) (state disk ∷ []) (map state rest)
    ∙ ap (λ (l : List DiskState). disks_of before ++ l) (sym (first_disk state items rest disk some first left)) ∙ is

-- the disk that is refused isn't lost either
pub refused_next : {D : Type 0} (state : D → DiskState) (before : List DrawerState) (items rest : List D) (disk : D) (all : List DiskState) → 0 < length items → disk ≡ slice_index_or items 0 disk → rest ≡ remove items 0
    → disks_of before ++ map state items ≡ all → disks_of before ++ state disk ∷ map state rest ≡ all
refused_next state before items rest disk all some first left is = ap (λ (l : List DiskState). disks_of before ++ l) (sym (first_disk state items rest disk some first left)) ∙ is

-- ---- names that differ

pub other_name : (a b : List ℕ) (back : Bool) → bytes_eq b a ≡ back → bytes_eq a b ≡ false → bytes_eq b a ≡ false
other_name a b false is h = is
other_name a b true is h =
    let same : b ≡ a = (bytes_eq-Decides b a).0 is in
    let yes : bytes_eq a b ≡ true = (bytes_eq-Decides a b).1 (sym same) in
    absurd (let none : ⊥ = cc (yes, h) in none)

cond_none : (test : Bool) (behind : Option ℕ) → cond test (Some 0) (option_map (λ (n : ℕ). n + 1) behind) ≡ None → (test ≡ false) × (behind ≡ None)
cond_none true behind h = absurd (let no : ⊥ = cc h in no)
cond_none false None h = (refl, refl)
cond_none false (Some n) h = absurd (let no : ⊥ = cc h in no)

-- among these drawers none has the name, so this one hasn't
no_such : (name : List ℕ) (before : List DrawerState) (drawer : DrawerState) (rest : List DrawerState) → place_of name ((before ++ drawer ∷ []) ++ rest) ≡ None → bytes_eq drawer.name name ≡ false
no_such name [] drawer rest h = (cond_none (bytes_eq drawer.name name) (place_of name rest) h).0
no_such name (d ∷ ds) drawer rest h = no_such name ds drawer rest (cond_none (bytes_eq d.name name) (place_of name ((ds ++ drawer ∷ []) ++ rest)) h).1

none_more : (name : List ℕ) (before : List DrawerState) (drawer : DrawerState) → place_of name before ≡ None → bytes_eq drawer.name name ≡ false → place_of name (before ++ drawer ∷ []) ≡ None
none_more name [] drawer h other = ap (λ (b : Bool). cond b (Some 0) (option_map (λ (n : ℕ). n + 1) None)) other
none_more name (d ∷ ds) drawer h other =
    let p = cond_none (bytes_eq d.name name) (place_of name ds) h in
    let behind : place_of name (ds ++ drawer ∷ []) ≡ None = none_more name ds drawer p.1 other in
    ap (λ (b : Bool). cond b (Some 0) (option_map (λ (n : ℕ). n + 1) (place_of name (ds ++ drawer ∷ [])))) p.0 ∙ ap (option_map (λ (n : ℕ). n + 1)) behind

-- one drawer more, whose name none of them has
differ_with : (before : List DrawerState) (drawer : DrawerState) → NamesDiffer before → place_of drawer.name before ≡ None → NamesDiffer (before ++ drawer ∷ [])
differ_with [] drawer h none = (refl, tt)
differ_with (d ∷ ds) drawer h none =
    let p = cond_none (bytes_eq d.name drawer.name) (place_of drawer.name ds) none in
    let other : bytes_eq drawer.name d.name ≡ false = other_name d.name drawer.name (bytes_eq drawer.name d.name) refl p.0 in
    (none_more d.name ds drawer h.0 other, differ_with ds drawer h.1 p.1)

is_none : (place : Option ℕ) → IsNone place → place ≡ None
is_none None h = refl
is_none (Some n) h = absurd (let no : ⊥ = cc h in no)

pub differ_more : (before : List DrawerState) (drawer : DrawerState) → NamesDiffer before → IsNone (place_of drawer.name before) → NamesDiffer (before ++ drawer ∷ [])
differ_more before drawer h none = differ_with before drawer h (is_none (place_of drawer.name before) none)

-- if all names differ, none before has the name of the next
differ_before : (before : List DrawerState) (drawer : DrawerState) (rest : List DrawerState) → NamesDiffer ((before ++ drawer ∷ []) ++ rest) → place_of drawer.name before ≡ None
differ_before [] drawer rest h = refl
differ_before (d ∷ ds) drawer rest h =
    let behind : place_of drawer.name ds ≡ None = differ_before ds drawer rest h.1 in
    let other : bytes_eq d.name drawer.name ≡ false = other_name drawer.name d.name (bytes_eq d.name drawer.name) refl (no_such d.name ds drawer rest h.0) in
    ap (λ (b : Bool). cond b (Some 0) (option_map (λ (n : ℕ). n + 1) (place_of drawer.name ds))) other ∙ ap (option_map (λ (n : ℕ). n + 1)) behind

some_none : (place : Option ℕ) → IsSome place → place ≡ None → ⊥
some_none None some none = let no : ⊥ = cc some in no
some_none (Some n) some none = let no : ⊥ = cc none in no

-- why the next isn't taken is why not all are
pub not_shelved : (fault : AddFault) (before : List DrawerState) (drawer : DrawerState) (rest all : List DrawerState) → (before ++ drawer ∷ []) ++ rest ≡ all → RefusesToAdd drawer.name fault before
    → IsNotShelved fault all
not_shelved Full before drawer rest all is refuses =
    let many : length all ≡ (length before + 1) + length rest = ap length (sym is) ∙ length-append (before ++ drawer ∷ []) rest ∙ ap (λ (n : ℕ). n + length rest) (length-append before (drawer ∷ [])) in
    omega (arith, many, refuses)
not_shelved Taken before drawer rest all is refuses = λ differ.
    some_none (place_of drawer.name before) refuses.1 (differ_before before drawer rest (subst NamesDiffer (sym is) differ))
not_shelved NoMemory before drawer rest all is refuses = tt

-- the run over disks, from the drawers on the shelf to those that are left
pub runs_over : (words names : List (List ℕ)) (disks : List DiskState) (old : OutsideState) (status : Status) (left : List DrawerState) (new : OutsideState) (before : List DrawerState) → before ≡ idle_drawers names disks
    → NamesDiffer (idle_drawers names disks) → RunsLawfully words (whole_with before old) status (whole_with left new) → RunsOver words names disks old status left new
runs_over words names disks old status left new before is differ lawful =
    record { differ = differ; lawful = subst (λ (drawers : List DrawerState). RunsLawfully words (whole_with drawers old) status (whole_with left new)) is lawful }
