-- Names that differ: a drawer is changed under its name, taken out, or added under a new one.
use Rattle.std.proofs.Common.{◌≡◌, ◌∙◌, ◌+◌, ◌++◌, ℕ, zero, suc, List, [], ◌∷◌, refl, ap, sym, subst, Bool, true, false, cond, Option, None, Some, slice_get}
use Rattle.std.specs.List.{remove}
use Rattle.std.specs.Option.{option_map}
use Rattle.std.specs.Str.{bytes_eq}
use Rattle.std.proofs.Math.ListN.{set}
use Rattle.std.proofs.lemmas.Slice.Eq.{bytes_eq-Decides}
use Rattle.command_rows.specs.Rows.{DrawerState, NamesDiffer, place_of}

-- the place of a name by whether the first drawer has it, and its place after that
abbrev pub place_by : Bool → Option ℕ → Option ℕ
place_by same behind = cond same (Some 0) (option_map (λ n. n + 1) behind)

none_by : (same : Bool) (behind : Option ℕ) → place_by same behind ≡ None → (same ≡ false) × (behind ≡ None)
none_by true behind h = absurd (let no : ⊥ = cc h in no)
none_by false None h = (refl, refl)
none_by false (Some n) h = absurd (let no : ⊥ = cc h in no)

none_with : (same : Bool) (behind : Option ℕ) → same ≡ false → behind ≡ None → place_by same behind ≡ None
none_with same behind other none = (λ i. place_by (other i) (none i))

same_name : (a b : DrawerState) → Some a ≡ Some b → a.name ≡ b.name
same_name a b h = ap (λ (d : DrawerState). d.name) (let same : a ≡ b = cc h in same)

-- ---- a drawer is changed under its name

pub place-set : (name : List ℕ) (drawers : List DrawerState) (place : ℕ) (before after : DrawerState) → slice_get drawers place ≡ Some before → after.name ≡ before.name → place_of name (set drawers place after) ≡ place_of name drawers
place-set name [] place before after found same = refl
place-set name (d ∷ ds) zero before after found same = ap (λ (n : List ℕ). place_by (bytes_eq n name) (place_of name ds)) (same ∙ sym (same_name d before found))
place-set name (d ∷ ds) (suc place) before after found same = ap (place_by (bytes_eq d.name name)) (place-set name ds place before after found same)

pub differ-set : (drawers : List DrawerState) (place : ℕ) (before after : DrawerState) → slice_get drawers place ≡ Some before → after.name ≡ before.name → NamesDiffer drawers → NamesDiffer (set drawers place after)
differ-set [] place before after found same differ = tt
differ-set (d ∷ ds) zero before after found same differ =
    (subst (λ (n : List ℕ). place_of n ds ≡ None) (sym (same ∙ sym (same_name d before found))) differ.0, differ.1)
differ-set (d ∷ ds) (suc place) before after found same differ =
    (place-set d.name ds place before after found same ∙ differ.0, differ-set ds place before after found same differ.1)

-- ---- a drawer is taken out

none-removed : (name : List ℕ) (drawers : List DrawerState) (place : ℕ) (before : DrawerState) → slice_get drawers place ≡ Some before → place_of name drawers ≡ None → place_of name (remove drawers place) ≡ None
none-removed name [] place before found none = absurd (let no : ⊥ = cc found in no)
none-removed name (d ∷ ds) zero before found none = (none_by (bytes_eq d.name name) (place_of name ds) none).1
none-removed name (d ∷ ds) (suc place) before found none =
    let parts = none_by (bytes_eq d.name name) (place_of name ds) none in
    none_with (bytes_eq d.name name) (place_of name (remove ds place)) parts.0 (none-removed name ds place before found parts.1)

pub differ-removed : (drawers : List DrawerState) (place : ℕ) (before : DrawerState) → slice_get drawers place ≡ Some before → NamesDiffer drawers → NamesDiffer (remove drawers place)
differ-removed [] place before found differ = absurd (let no : ⊥ = cc found in no)
differ-removed (d ∷ ds) zero before found differ = differ.1
differ-removed (d ∷ ds) (suc place) before found differ = (none-removed d.name ds place before found differ.0, differ-removed ds place before found differ.1)

-- ---- a drawer is added after the others

other_name : (a b : List ℕ) (back : Bool) → bytes_eq b a ≡ back → bytes_eq a b ≡ false → bytes_eq b a ≡ false
other_name a b false is other = is
other_name a b true is other =
    let same : bytes_eq a b ≡ true = (bytes_eq-Decides a b).1 (sym ((bytes_eq-Decides b a).0 is)) in
    absurd (let no : ⊥ = cc (same, other) in no)

none-added : (name : List ℕ) (drawers : List DrawerState) (drawer : DrawerState) → place_of name drawers ≡ None → bytes_eq drawer.name name ≡ false → place_of name (drawers ++ drawer ∷ []) ≡ None
none-added name [] drawer none other = none_with (bytes_eq drawer.name name) None other refl
none-added name (d ∷ ds) drawer none other =
    let parts = none_by (bytes_eq d.name name) (place_of name ds) none in
    none_with (bytes_eq d.name name) (place_of name (ds ++ drawer ∷ [])) parts.0 (none-added name ds drawer parts.1 other)

pub differ-added : (drawers : List DrawerState) (drawer : DrawerState) → place_of drawer.name drawers ≡ None → NamesDiffer drawers → NamesDiffer (drawers ++ drawer ∷ [])
differ-added [] drawer free differ = (refl, tt)
differ-added (d ∷ ds) drawer free differ =
    let parts = none_by (bytes_eq d.name drawer.name) (place_of drawer.name ds) free in
    (none-added d.name ds drawer differ.0 (other_name d.name drawer.name (bytes_eq drawer.name d.name) refl parts.0), differ-added ds drawer parts.1 differ.1)
