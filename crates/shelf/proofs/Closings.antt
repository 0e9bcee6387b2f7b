-- One more drawer is closed.
use Rattle.std.proofs.Common.{◌≡◌, ◌∙◌, ℕ, ◌+◌, ◌≤◌, ◌<◌, List, [], ◌∷◌, ◌++◌, length, take, drop, get_or, refl, ap, sym, subst, arith, Bool, true, false, get_or-set_same}
use Rattle.std.proofs.Math.ListN.{length-set, set}
use Rattle.std.proofs.lemmas.List.{drop-drop, drop-set-lt, get_or-drop, map-append, take-set, take_more}
use Rattle.command_rows.specs.Rows.{DrawerState}
use Rattle.command_rows.specs.Vocabulary.{DiskState}
use Rattle.shelf.specs.declared.drawer.Drawer.{Drawer}
use Rattle.shelf.specs.Closing.{Closes, Closing, failures}
use Rattle.shelf.specs.Shelved.{drawer_of, drawers_of}

Closing-more : (old : List DrawerState) (count : ℕ) (new : List DrawerState) (drawer : DrawerState) (failed : Bool) (closed : DrawerState)
    → Closing old count new → Closes drawer failed closed → Closing (old ++ drawer ∷ []) (count + failures failed) (new ++ closed ∷ [])
Closing-more [] count new drawer failed closed h c =
    (failed, closed, 0, [], c, (refl, refl), omega (arith, h.0), ap (λ (l : List DrawerState). l ++ closed ∷ []) h.1)
Closing-more (d ∷ ds) count new drawer failed closed h c =
    (h.0, h.1, h.2 + failures failed, h.3 ++ closed ∷ [], h.4, Closing-more ds h.2 h.3 drawer failed closed h.5 c, omega (arith, h.6), ap (λ (l : List DrawerState). l ++ closed ∷ []) h.7)

pub one_at_most : (failed : Bool) → failures failed ≤ 1
one_at_most false = omega arith
one_at_most true = omega arith

taken : {D : Type 0} (state : D → DiskState) (xs : List (Drawer D)) (place : ℕ) (d : Drawer D) → place < length xs → drawers_of state (take (place + 1) xs) ≡ drawers_of state (take place xs) ++ drawer_of state (get_or xs place d) ∷ []
taken state xs place d small = ap (drawers_of state) (take_more xs place d small) ∙ map-append (drawer_of state) (take place xs) (get_or xs place d ∷ [])

same_there : {X : Type 0} (xs ys : List X) (place : ℕ) (d : X) → drop place xs ≡ drop place ys → get_or xs (place + 0) d ≡ get_or ys (place + 0) d
same_there xs ys place d h = sym (get_or-drop place xs 0 d) ∙ ap (λ (l : List _). get_or l 0 d) h ∙ get_or-drop place ys 0 d

pub same_behind : {X : Type 0} (xs ys : List X) (place : ℕ) (x : X) → drop place xs ≡ drop place ys → drop (place + 1) (set xs place x) ≡ drop (place + 1) ys
same_behind xs ys place x h =
    let small : place < place + 1 = omega arith in
    drop-set-lt (place + 1) xs place x small ∙ sym (drop-drop 1 place xs) ∙ ap (λ (l : List _). drop 1 l) h ∙ drop-drop 1 place ys

pub close_more : {D : Type 0} (state : D → DiskState) (olds xs : List (Drawer D)) (place count : ℕ) (before after : Drawer D) (failed : Bool) → place < length xs → length xs ≡ length olds
    → Closing (drawers_of state (take place olds)) count (drawers_of state (take place xs)) → drop place xs ≡ drop place olds → before ≡ get_or xs place before
    → Closes (drawer_of state before) failed (drawer_of state after)
    → Closing (drawers_of state (take (place + 1) olds)) (count + failures failed) (drawers_of state (take (place + 1) (set xs place after)))
close_more {D} state olds xs place count before after failed small same closing behind here closes =
    let there : place + 0 ≡ place = omega arith in
    let old : before ≡ get_or olds place before =
    here ∙ subst (λ (n : ℕ). get_or xs n before ≡ get_or olds n before) there (same_there xs olds place before behind) in
    let within : place < length olds = omega arith in
    let long : place < length (set xs place after) = omega (arith, length-set {A = Drawer D}) in
    let a = taken state olds place before within ∙ ap (λ (d : Drawer D). drawers_of state (take place olds) ++ drawer_of state d ∷ []) (sym old) in
    let b = taken state (set xs place after) place before long
    ∙ ap (λ (l : List (Drawer D)). drawers_of state l ++ drawer_of state (get_or (set xs place after) place before) ∷ []) (take-set xs place after)
    ∙ ap (λ (d : Drawer D). drawers_of state (take place xs) ++ drawer_of state d ∷ []) (get_or-set_same xs place after before small) in
    rw (a, b) (Closing-more (drawers_of state (take place olds)) count (drawers_of state (take place xs)) (drawer_of state before) failed (drawer_of state after) closing closes)
