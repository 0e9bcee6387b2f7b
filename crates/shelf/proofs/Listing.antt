-- The drawers one after the other: the first one with a name, their entries, and one more after the others.
use Rattle.std.proofs.Common.{◌≡◌, ◌∙◌, ◌++◌, ◌+◌, ◌<◌, ℕ, List, [], ◌∷◌, length, get_or, take, drop, map, suc, add-one, ap, sym, subst, arith, refl, Bool, false, cond, Option, None, Some, option_map, bytes_eq, IsNone, is_some}
use Rattle.std.proofs.Math.Seq.{drop-cons}
use Rattle.std.proofs.lemmas.List.{length-map, map-append, take_more}
use Rattle.command_rows.specs.Rows.{place_of}
use Rattle.command_rows.specs.Turn.{entry_of}
use Rattle.command_rows.specs.Vocabulary.{DiskState}
use Rattle.reply_text.specs.declared.rows.Row.{Row}
use Rattle.shelf.specs.Adding.{Adds}
use Rattle.shelf.specs.Shelved.{drawer_of, drawers_of}
use Rattle.shelf.specs.declared.drawer.Drawer.{Drawer}
use Rattle.shelf.specs.declared.drawer.Held.TheVariants as held

shifted : (place : ℕ) (found : Option ℕ) → option_map (λ n. n + place) (option_map (λ n. n + 1) found) ≡ option_map (λ n. n + suc place) found
shifted place None = refl
shifted place (Some n) = ap (λ (m : ℕ). Some m) (omega arith)

-- a drawer has another name, so that the first one with the name is after it
pub place_behind : {D : Type 0} (state : D → DiskState) (name : List ℕ) (drawers : List (Drawer D)) (place : ℕ) (drawer : Drawer D) → place < length drawers → drawer ≡ get_or drawers place drawer → bytes_eq drawer.name name ≡ false
    → place_of name (drawers_of state drawers) ≡ option_map (λ n. n + place) (place_of name (drawers_of state (drop place drawers)))
    → place_of name (drawers_of state drawers) ≡ option_map (λ n. n + (place + 1)) (place_of name (drawers_of state (drop (place + 1) drawers)))
place_behind {D} state name drawers place drawer small here other before =
    let rest : List (Drawer D) = drop (suc place) drawers in
    let behind : Option ℕ = place_of name (drawers_of state rest) in
    let cut : drop place drawers ≡ drawer ∷ rest = drop-cons drawers place drawer small ∙ ap (λ (d : Drawer D). d ∷ rest) (sym here) in
    let past : place_of name (drawers_of state (drawer ∷ rest)) ≡ option_map (λ n. n + 1) behind = ap (λ (same : Bool). cond same (Some 0) (option_map (λ n. n + 1) behind)) other in
    let all : place_of name (drawers_of state drawers) ≡ option_map (λ n. n + suc place) behind =
    before ∙ ap (λ (ds : List (Drawer D)). option_map (λ n. n + place) (place_of name (drawers_of state ds))) cut ∙ ap (λ (o : Option ℕ). option_map (λ n. n + place) o) past ∙ shifted place behind in
    rw add-one all

-- the entries of the drawers up to a place, and that of the next one
pub entries_more : {D : Type 0} (state : D → DiskState) (drawers : List (Drawer D)) (place : ℕ) (drawer : Drawer D) (entries : List Row) (entry : Row) → place < length drawers → drawer ≡ get_or drawers place drawer
    → entries ≡ map entry_of (drawers_of state (take place drawers)) → entry ≡ entry_of (drawer_of state drawer)
    → entries ++ entry ∷ [] ≡ map entry_of (drawers_of state (take (place + 1) drawers))
entries_more {D} state drawers place drawer entries entry small here before is =
    let more : take (place + 1) drawers ≡ take place drawers ++ drawer ∷ [] = take_more drawers place drawer small ∙ ap (λ (d : Drawer D). take place drawers ++ d ∷ []) (sym here) in
    let split : map entry_of (drawers_of state (take (place + 1) drawers)) ≡ map entry_of (drawers_of state (take place drawers)) ++ entry_of (drawer_of state drawer) ∷ [] =
    ap (λ (ds : List (Drawer D)). map entry_of (drawers_of state ds)) more
    ∙ ap (map entry_of) (map-append (drawer_of state) (take place drawers) (drawer ∷ []))
    ∙ map-append entry_of (drawers_of state (take place drawers)) (drawer_of state drawer ∷ []) in
    (λ i. before i ++ is i ∷ []) ∙ sym split

pub none_found : (found : Option ℕ) → is_some found ≡ false → found ≡ None
none_found None h = refl
none_found (Some n) h = absurd (let no : ⊥ = cc h in no)

abbrev pub idle : {D : Type 0} → List ℕ → D → Drawer D
idle name disk = record { name = name; held = held.Idle disk }

-- a disk stands after the others, idle
pub added : {D : Type 0} (state : D → DiskState) (name given : List ℕ) (disk : D) (drawers left : List (Drawer D)) → length drawers < 16 → place_of name (drawers_of state drawers) ≡ None → given ≡ name
    → left ≡ drawers ++ idle given disk ∷ [] → Adds name (state disk) (drawers_of state drawers) (drawers_of state left)
added {D} state name given disk drawers left room free same is =
    let behind : left ≡ drawers ++ idle name disk ∷ [] = is ∙ ap (λ (n : List ℕ). drawers ++ idle n disk ∷ []) same in
    record {
      free = record { room = subst (λ (n : ℕ). n < 16) (sym (length-map drawers (drawer_of state))) room; new_name = subst (λ (o : Option ℕ). IsNone o) (sym free) refl };
      added = ap (drawers_of state) behind ∙ map-append (drawer_of state) drawers (idle name disk ∷ []);
    }
