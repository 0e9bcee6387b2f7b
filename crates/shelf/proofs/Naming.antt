-- No two drawers have one name, whatever their disks report.
use Rattle.std.proofs.Common.{◌≡◌, ◌∙◌, ◌++◌, ◌<◌, ℕ, List, [], ◌∷◌, length, get_or, refl, ap, sym, subst, Bool, true, false, None}
use Rattle.std.specs.List.{remove}
use Rattle.std.specs.Str.{bytes_eq}
use Rattle.std.proofs.Math.ListN.{set}
use Rattle.std.proofs.lemmas.List.{map-append, map-set}
use Rattle.command_rows.specs.Rows.{DrawerState, NamesDiffer, is_idle, place_of}
use Rattle.command_rows.specs.Vocabulary.{DiskState}
use Rattle.command_rows.proofs.Naming.{differ-added, differ-removed, differ-set, place_by}
use Rattle.shelf.specs.declared.drawer.Drawer.{Drawer}
use Rattle.shelf.specs.Closing.{ClosesAs, Closing}
use Rattle.shelf.specs.Shelved.{DifferInName, drawer_of, drawers_of}
use Rattle.shelf.proofs.Listing.{idle as idle_drawer}
use Rattle.shelf.proofs.Places.{map-remove, slice_get-drawers}

place_anyhow : {D : Type 0} (state other : D → DiskState) (name : List ℕ) (drawers : List (Drawer D)) → place_of name (drawers_of state drawers) ≡ place_of name (drawers_of other drawers)
place_anyhow state other name [] = refl
place_anyhow state other name (d ∷ ds) = ap (place_by (bytes_eq d.name name)) (place_anyhow state other name ds)

-- what the disks report doesn't matter
anyhow : {D : Type 0} (state other : D → DiskState) (drawers : List (Drawer D)) → NamesDiffer (drawers_of state drawers) → NamesDiffer (drawers_of other drawers)
anyhow state other [] differ = tt
anyhow state other (d ∷ ds) differ = (place_anyhow other state d.name ds ∙ differ.0, anyhow state other ds differ.1)

-- a drawer is changed under its name
pub set_differ : {D : Type 0} (drawers : List (Drawer D)) (place : ℕ) (before after : Drawer D) → place < length drawers → before ≡ get_or drawers place before → after.name ≡ before.name → DifferInName drawers
    → DifferInName (set drawers place after)
set_differ drawers place before after small here name differ = λ state.
    subst NamesDiffer (sym (map-set (drawer_of state) drawers place after))
    (differ-set (drawers_of state drawers) place (drawer_of state before) (drawer_of state after) (slice_get-drawers state drawers place before small here) name (differ state))

-- a drawer is taken out
pub removed_differ : {D : Type 0} (drawers : List (Drawer D)) (place : ℕ) (before : Drawer D) → place < length drawers → before ≡ get_or drawers place before → DifferInName drawers → DifferInName (remove drawers place)
removed_differ drawers place before small here differ = λ state.
    subst NamesDiffer (sym (map-remove (drawer_of state) drawers place))
    (differ-removed (drawers_of state drawers) place (drawer_of state before) (slice_get-drawers state drawers place before small here) (differ state))

-- a disk stands after the others, idle, under a name that none has
pub added_differ : {D : Type 0} (state : D → DiskState) (name given : List ℕ) (disk : D) (drawers left : List (Drawer D)) → place_of name (drawers_of state drawers) ≡ None → given ≡ name → left ≡ drawers ++ idle_drawer given disk ∷ []
    → DifferInName drawers → DifferInName left
added_differ {D} state name given disk drawers left free same is differ = λ other.
    let none : place_of given (drawers_of other drawers) ≡ None =
    ap (λ (n : List ℕ). place_of n (drawers_of other drawers)) same ∙ place_anyhow other state name drawers ∙ free in
    let all : drawers_of other left ≡ drawers_of other drawers ++ drawer_of other (idle_drawer given disk) ∷ [] =
    ap (drawers_of other) is ∙ map-append (drawer_of other) drawers (idle_drawer given disk ∷ []) in
    subst NamesDiffer (sym all) (differ-added (drawers_of other drawers) (drawer_of other (idle_drawer given disk)) none (differ other))

-- ---- the drawers are closed

closed_name : (idle : Bool) (old : DrawerState) (failed : Bool) (new : DrawerState) → ClosesAs idle old failed new → new.name ≡ old.name
closed_name true old failed new closes = ap (λ (d : DrawerState). d.name) closes.1
closed_name false old failed new closes = ap (λ (d : DrawerState). d.name) closes.1

place_closed : (name : List ℕ) (old : List DrawerState) (count : ℕ) (new : List DrawerState) → Closing old count new → place_of name new ≡ place_of name old
place_closed name [] count new closing = ap (place_of name) closing.1
place_closed name (d ∷ ds) count new closing =
    let same = closed_name (is_idle d.holding) d closing.0 closing.1 closing.4 in
    let behind = place_closed name ds closing.2 closing.3 closing.5 in
    ap (place_of name) closing.7 ∙ (λ i. place_by (bytes_eq (same i) name) (behind i))

names_kept : (old : List DrawerState) (count : ℕ) (new : List DrawerState) → Closing old count new → NamesDiffer old → NamesDiffer new
names_kept [] count new closing differ = subst NamesDiffer (sym closing.1) tt
names_kept (d ∷ ds) count new closing differ =
    let same = closed_name (is_idle d.holding) d closing.0 closing.1 closing.4 in
    let alone : place_of closing.1.name closing.3 ≡ None =
    place_closed closing.1.name ds closing.2 closing.3 closing.5 ∙ ap (λ (n : List ℕ). place_of n ds) same ∙ differ.0 in
    subst NamesDiffer (sym closing.7) (alone, names_kept ds closing.2 closing.3 closing.5 differ.1)

pub closed_differ : {D : Type 0} (state : D → DiskState) (old : List (Drawer D)) (count : ℕ) (new : List (Drawer D)) → Closing (drawers_of state old) count (drawers_of state new) → DifferInName old → DifferInName new
closed_differ state old count new closing differ = λ other. anyhow state other new (names_kept (drawers_of state old) count (drawers_of state new) closing (differ state))
