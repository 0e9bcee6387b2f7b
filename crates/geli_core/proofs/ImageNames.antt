-- The names of the images of words: at most sixteen, and they differ, so a shelf has room for each.
use Rattle.std.proofs.Common.{◌≡◌, ◌∙◌, ap, arith, cond, false, true, Bool, length, refl, subst, sym, ℕ, ◌+◌, ◌≤◌, List, [], ◌∷◌, None, Some, Option, ◌&&◌, codes, nat_le, not, option_and_then}
use Rattle.std.specs.List.{list_any}
use Rattle.std.specs.Option.{option_map}
use Rattle.std.specs.Str.{bytes_eq}
use Rattle.std.proofs.lemmas.Bool.{and_parts, leb-true, or_parts}
use Rattle.command_rows.specs.Rows.{NamesDiffer, place_of}
use Rattle.command_rows.specs.Vocabulary.{DiskState, Span, provider_of}
use Rattle.geli_core.specs.Images.{IsNotShelved, idle_drawers}
use Rattle.geli_core.specs.Vocabulary.{AddFault, all_differ, are_images, command_in, image_names, line_of, name_at, names_or, script_images}
use Rattle.geli_core.proofs.Shelving.{other_name}
use Rattle.shelf.specs.declared.drawers.AddFault.TheVariants.{Full, Taken, NoMemory}

none_named : (name : List ℕ) (names : List (List ℕ)) (disks : List DiskState) → list_any (bytes_eq name) names ≡ false → place_of name (idle_drawers names disks) ≡ None
none_named name [] disks h = refl
none_named name (n ∷ names) [] h = refl
none_named name (n ∷ names) (d ∷ disks) h =
    let p = or_parts (bytes_eq name n) (list_any (bytes_eq name) names) h in
    let other : bytes_eq n name ≡ false = other_name name n (bytes_eq n name) refl p.0 in
    let behind : place_of name (idle_drawers names disks) ≡ None = none_named name names disks p.1 in
    ap (λ (b : Bool). cond b (Some 0) (option_map (λ (k : ℕ). k + 1) (place_of name (idle_drawers names disks)))) other ∙ ap (option_map (λ (k : ℕ). k + 1)) behind

not_true : (b : Bool) → not b ≡ true → b ≡ false
not_true false h = refl
not_true true h = absurd (let none : ⊥ = cc h in none)

differ_by : (names : List (List ℕ)) (disks : List DiskState) → all_differ names ≡ true → NamesDiffer (idle_drawers names disks)
differ_by [] disks h = tt
differ_by (n ∷ names) [] h = tt
differ_by (n ∷ names) (d ∷ disks) h =
    let p = and_parts (not (list_any (bytes_eq n) names)) (all_differ names) h in
    (none_named n names disks (not_true (list_any (bytes_eq n) names) p.0), differ_by names disks p.1)

-- one name at most, or those of a script
abbrev AreFew : List (List ℕ) → Type 0
AreFew names = (all_differ names ≡ true) × (length names ≤ 16)

one_name : (line : List ℕ) (span : Option Span) → AreFew (name_at line span)
one_name line None = (refl, omega arith)
one_name line (Some span) = (refl, omega arith)

script_by : (test : Bool) (names found : List (List ℕ)) → cond test (Some names) None ≡ Some found → (test ≡ true) × (names ≡ found)
script_by true names found h = (refl, (let same : names ≡ found = cc h in same))
script_by false names found h = absurd (let none : ⊥ = cc h in none)

few_script : (words : List (List ℕ)) (found : List (List ℕ)) → script_images words ≡ Some found → AreFew found
few_script [] found h = absurd (let none : ⊥ = cc h in none)
few_script (word ∷ names) found h =
    let p = script_by (bytes_eq word (codes "script") && are_images names) names found h in
    let all = and_parts (bytes_eq word (codes "script")) (are_images names) p.0 in
    let each = and_parts (nat_le 1 (length names) && nat_le (length names) 16) (all_differ names) all.1 in
    let count = and_parts (nat_le 1 (length names)) (nat_le (length names) 16) each.0 in
    subst AreFew p.1 (each.1, leb-true (length names) 16 count.1)

few_names : (asks : Option (List (List ℕ))) (words : List (List ℕ)) (line : List ℕ) (span : Option Span) → script_images words ≡ asks → AreFew (names_or asks (name_at line span))
few_names None words line span is = one_name line span
few_names (Some found) words line span is = few_script words found is

few_images : (words : List (List ℕ)) → AreFew (image_names words)
few_images words = few_names (script_images words) words (line_of words) (option_and_then provider_of (command_in (line_of words))) refl

as_many : (names : List (List ℕ)) (disks : List DiskState) → length (idle_drawers names disks) ≤ length names
as_many [] disks = omega arith
as_many (n ∷ names) [] = omega arith
as_many (n ∷ names) (d ∷ disks) = omega (arith, as_many names disks)

-- the names fit a shelf, so only memory may be wanting
pub images_fit : (words names : List (List ℕ)) (disks : List DiskState) (fault : AddFault) → names ≡ image_names words → IsNotShelved fault (idle_drawers names disks) → fault ≡ NoMemory
images_fit words names disks Full is h =
    let few : length names ≤ 16 = subst (λ (n : List (List ℕ)). length n ≤ 16) (sym is) (few_images words).1 in
    absurd (omega (arith, h, as_many names disks, few))
images_fit words names disks Taken is h =
    let differ : all_differ names ≡ true = subst (λ (n : List (List ℕ)). all_differ n ≡ true) (sym is) (few_images words).0 in
    absurd (h (differ_by names disks differ))
images_fit words names disks NoMemory is h = refl
