-- A drawer is taken out, changed and put back.
use Rattle.std.proofs.Math.Seq.{take-append_seam}
use Rattle.std.proofs.Common.{◌∙◌, ◌++◌, drop, subst, take, map, Bool, true, false, ◌≡◌, ℕ, ◌<◌, List, [], ◌∷◌, length, refl, ap, sym, arith, suc, zero, get_or, slice_get, Some}
use Rattle.std.specs.List.{insert, remove}
use Rattle.std.proofs.Math.ListN.{set}
use Rattle.std.proofs.lemmas.List.{map-set}
use Rattle.command_rows.specs.Rows.{Answer, DrawerState, Reach, World}
use Rattle.command_rows.specs.Vocabulary.{Command, DiskState}
use Rattle.shelf.specs.declared.drawer.Drawer.{Drawer}
use Rattle.reply_text.specs.Answer as answers
use Rattle.shelf.specs.Shelved.{drawer_of, drawers_of}
use Rattle.command_rows.specs.Turn.{ChangesAt, Serves, ServesAt, reach, takes_out}

pub insert-remove : {X : Type 0} (xs : List X) (i : ℕ) (y : X) → i < length xs → insert (remove xs i) i y ≡ set xs i y
insert-remove [] i y small = absurd (omega arith)
insert-remove (x ∷ xs) zero y small = refl
insert-remove (x ∷ xs) (suc i) y small = ap (λ (ys : List _). x ∷ ys) (insert-remove xs i y (omega arith))

-- the drawer at a place, as plain data
pub slice_get-drawers : {D : Type 0} (state : D → DiskState) (drawers : List (Drawer D)) (place : ℕ) (drawer : Drawer D) → place < length drawers → drawer ≡ get_or drawers place drawer
    → slice_get (drawers_of state drawers) place ≡ Some (drawer_of state drawer)
slice_get-drawers state [] place drawer small here = absurd (omega arith)
slice_get-drawers state (d ∷ ds) zero drawer small here = ap (λ (x : Drawer _). Some (drawer_of state x)) (sym here)
slice_get-drawers state (d ∷ ds) (suc place) drawer small here = slice_get-drawers state ds place drawer (omega arith) here

pub ChangesAt-set : {D : Type 0} (state : D → DiskState) (R : Reach → Answer → Reach → Type 0) (old new : World) (reply : Answer) (drawers : List (Drawer D)) (place : ℕ) (before after : Drawer D)
    → place < length drawers → before ≡ get_or drawers place before → after.name ≡ before.name → old.drawers ≡ drawers_of state drawers → new.drawers ≡ drawers_of state (set drawers place after)
    → R (reach (drawer_of state before) old) reply (reach (drawer_of state after) new) → ChangesAt R old reply new place
ChangesAt-set state R old new reply drawers place before after small here name is_old is_new step = record {
  before = drawer_of state before;
  found = rw is_old (slice_get-drawers state drawers place before small here);
  after = drawer_of state after;
  name = name;
  step = step;
  others = rw (is_new, is_old) (map-set (drawer_of state) drawers place after);
}

pub map-remove : {X Y : Type 0} (f : X → Y) (xs : List X) (place : ℕ) → map f (remove xs place) ≡ remove (map f xs) place
map-remove f [] zero = refl
map-remove f [] (suc place) = refl
map-remove f (x ∷ xs) zero = refl
map-remove f (x ∷ xs) (suc place) = ap (λ (ys : List _). f x ∷ ys) (map-remove f xs place)

-- a command that stays in the list goes through its row
pub ServesAt-row : (line : List ℕ) (command : Command) (old : World) (reply : Answer) (new : World) (place : ℕ) → takes_out command ≡ false → ChangesAt (Serves line command) old reply new place
    → ServesAt (takes_out command) line command old reply new place
ServesAt-row line command old reply new place is h = subst (λ (out : Bool). ServesAt out line command old reply new place) (sym is) h

-- a drawer is taken out
pub ServesAt-out : {D : Type 0} (state : D → DiskState) (line : List ℕ) (command : Command) (old new : World) (drawers : List (Drawer D)) (place : ℕ) (before : Drawer D) → place < length drawers → before ≡ get_or drawers place before
    → takes_out command ≡ true → old.drawers ≡ drawers_of state drawers → new ≡ record { drawers = drawers_of state (remove drawers place); cabinet = old.cabinet; entropy = old.entropy }
    → ServesAt (takes_out command) line command old answers.Done new place
ServesAt-out state line command old new drawers place before small here out is_old is_new =
    subst (λ (out : Bool). ServesAt out line command old answers.Done new place) (sym out) (record {
      before = drawer_of state before;
      found = rw is_old (slice_get-drawers state drawers place before small here);
      done = refl;
      left =
          is_new
          ∙ ap (λ (l : List DrawerState). (let w : World = record { drawers = l; cabinet = old.cabinet; entropy = old.entropy } in w)) (map-remove (drawer_of state) drawers place ∙ ap (λ (l : List DrawerState). remove l place) (sym is_old));
    })

-- a buffer whose front was written whole
pub whole_buffer : (new old : List ℕ) (len : ℕ) → length new ≡ len → take len (new ++ drop (length new) old) ≡ new
whole_buffer new old len is = subst (λ (n : ℕ). take n (new ++ drop (length new) old) ≡ new) is (take-append_seam new (drop (length new) old))
