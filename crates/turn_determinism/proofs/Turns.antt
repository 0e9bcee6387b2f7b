-- Each turn does one thing to the world.
use Rattle.std.proofs.Common.{◌≡◌, ◌∙◌, ℕ, zero, suc, List, [], ◌∷◌, ◌++◌, take, drop, refl, ap, sym, subst, Bool, true, false, Option, None, Some, slice_get, map, IfSome, IsSome, MatchOption}
use Rattle.std.proofs.Math.ListN.{set}
use Rattle.command_rows.specs.Rows.{Answer, DrawerState, Holding, Idle, IsAttached, IsSuspended, Reach, World, place_of}
use Rattle.command_rows.specs.Vocabulary.{Command, DiskState, Span, bytes_at, provider_of}
use Rattle.eli_base.specs.declared.refusals.Refusal.TheVariants as refusals
use Rattle.reply_text.specs.Answer as answers
use Rattle.command_rows.specs.Counts.{CountsFailures}
use Rattle.command_rows.specs.Fits.{FailsNowhere}
use Rattle.command_rows.specs.Turn.{ChangesAt, IsUnknown, ListsDrawers, ListsAs, Serves, ServesAt, TakesOutDrawer, Turn, TurnOf, entry_by, entry_of, reach, takes_out}
use Rattle.command_rows.proofs.Lines.{line_did}
use Rattle.command_rows.proofs.Untouched.{get-set}
use Rattle.command_rows.proofs.LineCounts.{turn_counts}
use Rattle.turn_determinism.specs.Quiet.{HasMemory, IsQuiet, StaysQuietAt}
use Rattle.turn_determinism.specs.Same.{AreSameDrawers, IsSameDrawer, IsSameTurn, IsSameWorld}
use Rattle.turn_determinism.specs.Told.{IsTold, TellsAt}
use Rattle.turn_determinism.proofs.Alike.{Alike, unrisen}
use Rattle.turn_determinism.proofs.Lines.{SameLine, line_is_one, loads_always}

-- ---- the same drawers

same_drawer : (d : DrawerState) → IsSameDrawer d d
same_drawer d = record { name = refl; disk = record { size = refl; shows = refl; content = refl; faults = refl; reads = refl }; holding = refl }

same_drawers : (ds : List DrawerState) → AreSameDrawers ds ds
same_drawers [] = tt
same_drawers (d ∷ ds) = (same_drawer d, same_drawers ds)

pub same_world : (w : World) → IsSameWorld w w
same_world w = record {
  drawers = same_drawers w.drawers;
  cabinet = record { files = refl; faults = refl; stores = refl };
  entropy = record { left = refl; faults = refl; calls = refl };
}

place_same : (name : List ℕ) (xs ys : List DrawerState) → AreSameDrawers xs ys → place_of name ys ≡ place_of name xs
place_same name [] [] same = refl
place_same name [] (y ∷ ys) same = absurd same
place_same name (x ∷ xs) [] same = absurd same
place_same name (x ∷ xs) (y ∷ ys) same = rw (same.0.name, place_same name xs ys same.1) refl

found_same : (xs ys : List DrawerState) (place : ℕ) (d d' : DrawerState) → AreSameDrawers xs ys → slice_get xs place ≡ Some d → slice_get ys place ≡ Some d' → IsSameDrawer d d'
found_same [] ys place d d' same h h' = absurd (let no : ⊥ = cc h in no)
found_same (x ∷ xs) [] place d d' same h h' = absurd same
found_same (x ∷ xs) (y ∷ ys) zero d d' same h h' =
    let is : x ≡ d = cc h in
    let is' : y ≡ d' = cc h' in
    let P : DrawerState → Type 0 = λ z. IsSameDrawer z d' in
    let Q : DrawerState → Type 0 = λ z. IsSameDrawer x z in
    subst P is (subst Q is' same.0)
found_same (x ∷ xs) (y ∷ ys) (suc place) d d' same h h' = found_same xs ys place d d' same.1 h h'

set_same : (xs ys : List DrawerState) (place : ℕ) (a b : DrawerState) → AreSameDrawers xs ys → IsSameDrawer a b → AreSameDrawers (set xs place a) (set ys place b)
set_same [] [] place a b same put = tt
set_same [] (y ∷ ys) place a b same put = absurd same
set_same (x ∷ xs) [] place a b same put = absurd same
set_same (x ∷ xs) (y ∷ ys) zero a b same put = (put, same.1)
set_same (x ∷ xs) (y ∷ ys) (suc place) a b same put = (same.0, set_same xs ys place a b same.1 put)

take_same : (n : ℕ) (xs ys : List DrawerState) → AreSameDrawers xs ys → AreSameDrawers (take n xs) (take n ys)
take_same zero xs ys same = tt
take_same (suc n) [] [] same = tt
take_same (suc n) [] (y ∷ ys) same = absurd same
take_same (suc n) (x ∷ xs) [] same = absurd same
take_same (suc n) (x ∷ xs) (y ∷ ys) same = (same.0, take_same n xs ys same.1)

drop_same : (n : ℕ) (xs ys : List DrawerState) → AreSameDrawers xs ys → AreSameDrawers (drop n xs) (drop n ys)
drop_same zero xs ys same = same
drop_same (suc n) [] [] same = tt
drop_same (suc n) [] (y ∷ ys) same = absurd same
drop_same (suc n) (x ∷ xs) [] same = absurd same
drop_same (suc n) (x ∷ xs) (y ∷ ys) same = drop_same n xs ys same.1

append_same : (xs ys us vs : List DrawerState) → AreSameDrawers xs ys → AreSameDrawers us vs → AreSameDrawers (xs ++ us) (ys ++ vs)
append_same [] [] us vs same more = more
append_same [] (y ∷ ys) us vs same more = absurd same
append_same (x ∷ xs) [] us vs same more = absurd same
append_same (x ∷ xs) (y ∷ ys) us vs same more = (same.0, append_same xs ys us vs same.1 more)

-- the entries of a list
entry_by_same : (name : List ℕ) (disk disk' : DiskState) (holding : Holding) → disk'.size ≡ disk.size → entry_by name disk' holding ≡ entry_by name disk holding
entry_by_same name disk disk' Idle size = refl
entry_by_same name disk disk' (IsAttached a) size = rw size refl
entry_by_same name disk disk' (IsSuspended kept) size = refl

entry_same : (d d' : DrawerState) → IsSameDrawer d d' → entry_of d' ≡ entry_of d
entry_same d d' same = rw (same.name, same.holding) (entry_by_same d.name d.disk d'.disk d.holding same.disk.size)

entries_same : (xs ys : List DrawerState) → AreSameDrawers xs ys → map entry_of ys ≡ map entry_of xs
entries_same [] [] same = refl
entries_same [] (y ∷ ys) same = absurd same
entries_same (x ∷ xs) [] same = absurd same
entries_same (x ∷ xs) (y ∷ ys) same = rw (entry_same x y same.0, entries_same xs ys same.1) refl

-- ---- lines that change no drawer

-- the worlds stay the same
still_turn : (old : World) (answer : Answer) (new : World) (old' : World) (answer' : Answer) (new' : World) → IsSameWorld old old' → answer' ≡ answer → new ≡ old → new' ≡ old' → IsSameTurn old answer new old' answer' new'
still_turn old answer new old' answer' new' same agrees is is' = record {
  answered = agrees;
  worlds = rw (is, is') same;
  loads = λ many. rw (is, is') (loads_always answer old.cabinet old'.cabinet many);
}

-- ---- a line that changes a drawer

some_in : {X : Type 0} (o : Option X) → IsSome o → (x : X) × (o ≡ Some x)
some_in None h = absurd (let no : ⊥ = cc h in no)
some_in (Some x) h = (x, refl)

-- what the turns reach is alike
same_alike : (before before' : DrawerState) (old old' : World) → IsSameDrawer before before' → IsSameWorld old old' → IsSome before.disk.content → IsSome old.cabinet.files → IsSome old.entropy.left → Alike (reach before old) (reach before' old')
same_alike before before' old old' drawer world content files left =
    let c = some_in before.disk.content content in
    let f = some_in old.cabinet.files files in
    let l = some_in old.entropy.left left in
    record {
      disk = record { content = c.0; told = c.1; told' = drawer.disk.content ∙ c.1; size = drawer.disk.size; shows = drawer.disk.shows; reads = drawer.disk.reads };
      holding = drawer.holding;
      cabinet = record { files = f.0; told = f.1; told' = world.cabinet.files ∙ f.1; stores = world.cabinet.stores };
      entropy = record { left = l.0; told = l.1; told' = world.entropy.left ∙ l.1; calls = world.entropy.calls };
    }

-- what a turn did to the drawer at a place
record Did (line : List ℕ) (command : Command) (old : World) (answer : Answer) (new : World) (place : ℕ) (before : DrawerState) : Type 0 where
  after : DrawerState
  name : after.name ≡ before.name
  step : Serves line command (reach before old) answer (reach after new)
  others : new.drawers ≡ set old.drawers place after
  quiet : FailsNowhere (reach before old) (reach after new)
  faults : after.disk.faults ≡ before.disk.faults
  cabinet : new.cabinet.faults ≡ old.cabinet.faults
  entropy : new.entropy.faults ≡ old.entropy.faults

did : (line : List ℕ) (command : Command) (name : List ℕ) (old : World) (answer : Answer) (new : World) (place : ℕ) (before : DrawerState) → place_of name old.drawers ≡ Some place → slice_get old.drawers place ≡ Some before
    → StaysQuietAt name old new → IsQuiet line command old new → CountsFailures old answer new → ChangesAt (Serves line command) old answer new place → Did line command old answer new place before
did line command name old answer new place before named found still quiet counts h =
    let e : Some h.before ≡ Some before = sym h.found ∙ found in
    let is : h.before ≡ before = cc e in
    let Steps : DrawerState → Type 0 = λ b. Serves line command (reach b old) answer (reach h.after new) in
    let Names : DrawerState → Type 0 = λ b. h.after.name ≡ b.name in
    let step : Serves line command (reach before old) answer (reach h.after new) = subst Steps is h.step in
    let same : h.after.name ≡ before.name = subst Names is h.name in
    let there : slice_get new.drawers place ≡ Some h.after = ap (λ (ds : List DrawerState). slice_get ds place) h.others ∙ get-set old.drawers place before h.after found in
    let calm = still place before h.after (named, found) there same in
    let logs = (line_did line command (reach before old) answer (reach h.after new) step).logs in
    record {
      after = h.after;
      name = same;
      step = step;
      others = h.others;
      quiet = record { disk = calm; cabinet = quiet.cabinet; entropy = quiet.entropy };
      faults = unrisen before.disk.faults h.after.disk.faults logs.faults calm;
      cabinet = unrisen old.cabinet.faults new.cabinet.faults counts.faults quiet.cabinet;
      entropy = unrisen old.entropy.faults new.entropy.faults counts.entropy quiet.entropy;
    }

changed_one : (line : List ℕ) (command : Command) (old old' : World) (answer answer' : Answer) (new new' : World) (place : ℕ) (before before' : DrawerState) → IsSameWorld old old' → IsSameDrawer before before'
    → Alike (reach before old) (reach before' old') → HasMemory answer → HasMemory answer' → Did line command old answer new place before → Did line command old' answer' new' place before' → IsSameTurn old answer new old' answer' new'
changed_one line command old old' answer answer' new new' place before before' world kept alike memory memory' h h' =
    let r : Reach = reach before old in
    let r' : Reach = reach before' old' in
    let t : Reach = reach h.after new in
    let t' : Reach = reach h'.after new' in
    let s : SameLine false answer answer' t t' =
    line_is_one line command r r' answer answer' t t' (record { counts = false; same = alike; loads = λ on. absurd (let no : ⊥ = cc on in no); quiet = h.quiet; quiet' = h'.quiet }) memory memory' h.step h'.step in
    let drawer : IsSameDrawer h.after h'.after = record {
      name = h'.name ∙ kept.name ∙ sym h.name;
      disk = record {
        size = s.same.disk.size;
        shows = s.same.disk.shows;
        content = s.same.disk.told' ∙ sym s.same.disk.told;
        faults = h'.faults ∙ kept.disk.faults ∙ sym h.faults;
        reads = s.same.disk.reads;
      };
      holding = s.same.holding;
    } in
    let P : List DrawerState → Type 0 = λ ds. AreSameDrawers ds (set old'.drawers place h'.after) in
    let Q : List DrawerState → Type 0 = λ ds. AreSameDrawers new.drawers ds in
    record {
      answered = s.agrees;
      worlds = record {
        drawers = subst Q (sym h'.others) (subst P (sym h.others) (set_same old.drawers old'.drawers place h.after h'.after world.drawers drawer));
        cabinet = record { files = s.same.cabinet.told' ∙ sym s.same.cabinet.told; faults = h'.cabinet ∙ world.cabinet.faults ∙ sym h.cabinet; stores = s.same.cabinet.stores };
        entropy = record { left = s.same.entropy.told' ∙ sym s.same.entropy.told; faults = h'.entropy ∙ world.entropy.faults ∙ sym h.entropy; calls = s.same.entropy.calls };
      };
      loads = λ many.
          (line_is_one line command r r' answer answer' t t' (record { counts = true; same = alike; loads = λ on. many; quiet = h.quiet; quiet' = h'.quiet }) memory memory' h.step h'.step).loads refl;
    }

-- ---- the other lines

listed : (drawers : List DrawerState) (answer : Answer) → HasMemory answer → ListsAs drawers answer → answer ≡ answers.Rows (map entry_of drawers)
listed drawers (answers.Rows rows) memory h = ap answers.Rows h
listed drawers (answers.Refused refusals.NoMemory) memory h = absurd (memory refl)
listed drawers answer memory h = absurd h

lists_one : (old old' : World) (answer answer' : Answer) (new new' : World) → IsSameWorld old old' → HasMemory answer → HasMemory answer' → ListsDrawers old answer new → ListsDrawers old' answer' new' → IsSameTurn old answer new old' answer' new'
lists_one old old' answer answer' new new' same memory memory' h h' =
    still_turn old answer new old' answer' new' same
    (listed old'.drawers answer' memory' h'.rows ∙ ap answers.Rows (entries_same old.drawers old'.drawers same.drawers) ∙ sym (listed old.drawers answer memory h.rows)) h.unchanged h'.unchanged

left_one : (old old' : World) (answer answer' : Answer) (new new' : World) (place : ℕ) → IsSameWorld old old' → TakesOutDrawer old answer new place → TakesOutDrawer old' answer' new' place → IsSameTurn old answer new old' answer' new'
left_one old old' answer answer' new new' place same h h' = record {
  answered = h'.done ∙ sym h.done;
  worlds = rw (h.left, h'.left) (record {
    drawers = append_same (take place old.drawers) (take place old'.drawers) (drop (suc place) old.drawers) (drop (suc place) old'.drawers) (take_same place old.drawers old'.drawers same.drawers)
        (drop_same (suc place) old.drawers old'.drawers same.drawers);
    cabinet = same.cabinet;
    entropy = same.entropy;
  });
  loads = λ many. rw (h.left, h'.left) (loads_always answer old.cabinet old'.cabinet many);
}

-- ---- a turn

-- what is known of two turns of a line
record Turns (line : List ℕ) (command : Command) (old old' : World) (answer answer' : Answer) (new new' : World) : Type 0 where
  same : IsSameWorld old old'
  told : IsTold line command old
  quiet : IsQuiet line command old new
  quiet' : IsQuiet line command old' new'
  memory : HasMemory answer
  memory' : HasMemory answer'
  counts : CountsFailures old answer new
  counts' : CountsFailures old' answer' new'

out_one : (out : Bool) (line : List ℕ) (command : Command) (name : List ℕ) (old old' : World) (answer answer' : Answer) (new new' : World) (place : ℕ) → Turns line command old old' answer answer' new new' → place_of name old.drawers ≡ Some place
    → TellsAt name old → StaysQuietAt name old new → StaysQuietAt name old' new' → ServesAt out line command old answer new place → ServesAt out line command old' answer' new' place → IsSameTurn old answer new old' answer' new'
out_one true line command name old old' answer answer' new new' place t named tells still still' h h' = left_one old old' answer answer' new new' place t.same h h'
out_one false line command name old old' answer answer' new new' place t named tells still still' h h' =
    let drawer = found_same old.drawers old'.drawers place h.before h'.before t.same.drawers h.found h'.found in
    changed_one line command old old' answer answer' new new' place h.before h'.before t.same drawer
    (same_alike h.before h'.before old old' drawer t.same (tells place h.before (named, h.found)) t.told.files t.told.random) t.memory t.memory'
    (did line command name old answer new place h.before named h.found still t.quiet t.counts h)
    (did line command name old' answer' new' place h'.before (place_same name old.drawers old'.drawers t.same.drawers ∙ named) h'.found still' t.quiet' t.counts' h')

place_one : (line : List ℕ) (command : Command) (name : List ℕ) (old old' : World) (answer answer' : Answer) (new new' : World) (place : Option ℕ) → Turns line command old old' answer answer' new new' → place_of name old.drawers ≡ place
    → TellsAt name old → StaysQuietAt name old new → StaysQuietAt name old' new' → MatchOption place (IsUnknown old answer new) (ServesAt (takes_out command) line command old answer new)
    → MatchOption place (IsUnknown old' answer' new') (ServesAt (takes_out command) line command old' answer' new') → IsSameTurn old answer new old' answer' new'
place_one line command name old old' answer answer' new new' None t named tells still still' h h' = still_turn old answer new old' answer' new' t.same (h'.refused ∙ sym h.refused) h.unchanged h'.unchanged
place_one line command name old old' answer answer' new new' (Some place) t named tells still still' h h' = out_one (takes_out command) line command name old old' answer answer' new new' place t named tells still still' h h'

named_one : (line : List ℕ) (command : Command) (named : Option Span) (old old' : World) (answer answer' : Answer) (new new' : World) → Turns line command old old' answer answer' new new' → IfSome named (λ prov. TellsAt (bytes_at line prov) old)
    → IfSome named (λ prov. StaysQuietAt (bytes_at line prov) old new) → IfSome named (λ prov. StaysQuietAt (bytes_at line prov) old' new')
    → MatchOption named (ListsDrawers old answer new) (λ prov. TurnOf (ServesAt (takes_out command) line command) (bytes_at line prov) old answer new)
    → MatchOption named (ListsDrawers old' answer' new') (λ prov. TurnOf (ServesAt (takes_out command) line command) (bytes_at line prov) old' answer' new') → IsSameTurn old answer new old' answer' new'
named_one line command None old old' answer answer' new new' t tells still still' h h' = lists_one old old' answer answer' new new' t.same t.memory t.memory' h h'
named_one line command (Some prov) old old' answer answer' new new' t tells still still' h h' =
    let name : List ℕ = bytes_at line prov in
    let P : Option ℕ → Type 0 = λ o. MatchOption o (IsUnknown old' answer' new') (ServesAt (takes_out command) line command old' answer' new') in
    place_one line command name old old' answer answer' new new' (place_of name old.drawers) t refl tells still still' h (subst P (place_same name old.drawers old'.drawers t.same.drawers) h')

pub turns_are_same : (line : List ℕ) (command : Command) (old old' : World) (answer answer' : Answer) (new new' : World) → IsSameWorld old old' → IsTold line command old → IsQuiet line command old new → IsQuiet line command old' new'
    → HasMemory answer → HasMemory answer' → Turn line command old answer new → Turn line command old' answer' new' → IsSameTurn old answer new old' answer' new'
turns_are_same line command old old' answer answer' new new' same told quiet quiet' memory memory' h h' =
    named_one line command (provider_of command) old old' answer answer' new new'
    (record { same = same; told = told; quiet = quiet; quiet' = quiet'; memory = memory; memory' = memory'; counts = turn_counts line command old answer new h; counts' = turn_counts line command old' answer' new' h' })
    told.disk quiet.disk quiet'.disk h h'
