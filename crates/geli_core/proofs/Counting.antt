-- The lines that are answered with a failure of a disk are counted by its faults.
use Rattle.std.proofs.Common.{◌≡◌, ◌∙◌, ◌⊎◌, inl, inr, ℕ, ◌+◌, ◌-◌, ◌≤◌, zero, suc, List, [], ◌∷◌, refl, ap, sym, subst, arith, Bool, true, false, cond, Option, None, Some, Result, Ok, Err, slice_get, ◌<◌, ◌^◌, ◌&&◌, MatchOption, option_and_then}
use Rattle.std.specs.List.{AllByRecursion, remove}
use Rattle.std.specs.Option.{option_map}
use Rattle.std.specs.Str.{bytes_eq}
use Rattle.std.proofs.Math.ListN.{set}
use Rattle.std.proofs.lemmas.Slice.Eq.{bytes_eq-Decides}
use Rattle.command_rows.specs.Rows.{Answer, DrawerState, NamesDiffer, World, place_of}
use Rattle.command_rows.specs.Vocabulary.{Command, Rose, Span, bytes_at, provider_of}
use Rattle.eli_base.specs.declared.refusals.Refusal.TheVariants as refusals
use Rattle.reply_text.specs.Answer as answers
use Rattle.command_rows.proofs.LineCauses.{refusal_caused}
use Rattle.command_rows.proofs.Naming.{differ-removed, differ-set, place-set}
use Rattle.command_rows.proofs.Untouched.{get-set, get-set_other, turn_only_steps}
use Rattle.geli_core.specs.Bounds.{KeepsAll, RisesBy, RisesNamed, RisesUntilOut, device_faults, is_device_fault}
use Rattle.geli_core.specs.Histories.{ejects, is_done, names, names_by, says_eject, says_name}
use Rattle.geli_core.specs.Run.{ServesReading}
use Rattle.geli_core.specs.Trace.{EachServed, Run, ServedLine, world_behind}
use Rattle.geli_core.specs.Vocabulary.{CausedAt, CausedBy, ChangesBy, IsUnknown, ListsDrawers, OnlyAt, Sep, ServesAt, Turn, TurnOf, Usage, line_reading, place_named, takes_out}
use Rattle.geli_core.proofs.Drawn.{here_or, same_some}
use Rattle.geli_core.proofs.OutsideCounts.{false_is}

-- ---- places

named_place : (named : Option Span) (line name : List ℕ) (ds : List DrawerState) → names_by named line name ≡ true → option_and_then (λ prov. place_of (bytes_at line prov) ds) named ≡ place_of name ds
named_place None line name ds h = absurd (let none : ⊥ = cc h in none)
named_place (Some prov) line name ds h = ap (λ (x : List ℕ). place_of x ds) (sym ((bytes_eq-Decides name (bytes_at line prov)).0 h))

-- ---- one line

record Counts (named : Bool) (name : List ℕ) (answer : Option Answer) (place : ℕ) (before : DrawerState) (new : World) : Type 0 where
  after : DrawerState
  there : slice_get new.drawers place ≡ Some after
  stands : place_of name new.drawers ≡ Some place
  later : before.disk.faults ≤ after.disk.faults
  rose : named ≡ true → answer ≡ Some (answers.Refused refusals.DeviceFault) → Rose before.disk.faults after.disk.faults

caused_place : (line : List ℕ) (command : Command) (old new : World) (n : ℕ) (place : Option ℕ) → place ≡ Some n
    → MatchOption place (refusals.DeviceFault ≡ refusals.UnknownProvider) (CausedAt line command refusals.DeviceFault old new) → CausedAt line command refusals.DeviceFault old new n
caused_place line command old new n place is h =
    subst (λ (o : Option ℕ). MatchOption o (refusals.DeviceFault ≡ refusals.UnknownProvider) (CausedAt line command refusals.DeviceFault old new)) is h

caused_here : (named : Option Span) (line : List ℕ) (command : Command) (old new : World) (n : ℕ) → option_and_then (λ prov. place_of (bytes_at line prov) old.drawers) named ≡ Some n
    → CausedBy named line command refusals.DeviceFault old new → CausedAt line command refusals.DeviceFault old new n
caused_here None line command old new n is h = absurd (let none : ⊥ = cc is in none)
caused_here (Some prov) line command old new n is h = caused_place line command old new n (place_of (bytes_at line prov) old.drawers) is h

rose_at : (line : List ℕ) (command : Command) (old new : World) (said : Answer) (n : ℕ) (before after : DrawerState) → slice_get old.drawers n ≡ Some before → slice_get new.drawers n ≡ Some after
    → place_named line command old.drawers ≡ Some n → Turn line command old said new → Some said ≡ Some (answers.Refused refusals.DeviceFault) → Rose before.disk.faults after.disk.faults
rose_at line command old new said n before after found there at h is =
    let c = caused_here (provider_of command) line command old new n at
    (refusal_caused line command old refusals.DeviceFault new (subst (λ (a : Answer). Turn line command old a new) (same_some said (answers.Refused refusals.DeviceFault) is) h)) in
    let first : c.before ≡ before = same_some c.before before (sym c.found ∙ found) in
    let last : c.after ≡ after = same_some c.after after (sym c.there ∙ there) in
    subst (λ (d : DrawerState). Rose d.disk.faults after.disk.faults) first (subst (λ (d : DrawerState). Rose c.before.disk.faults d.disk.faults) last c.cause)

-- another place than that of the drawer isn't named by its name
other_place : (line name : List ℕ) (command : Command) (old : World) (n : ℕ) (place : Option ℕ) → place_of name old.drawers ≡ Some n → place_named line command old.drawers ≡ place → (place ≡ Some n → ⊥)
    → names_by (provider_of command) line name ≡ true → ⊥
other_place line name command old n place stands at other named = other (sym at ∙ named_place (provider_of command) line name old.drawers named ∙ stands)

counts_at : (line name : List ℕ) (command : Command) (said : Answer) (old new : World) (n : ℕ) (before : DrawerState) (place : ℕ) (out : Bool) → takes_out command ≡ out → out ≡ false → place_of name old.drawers ≡ Some n
    → slice_get old.drawers n ≡ Some before → place_named line command old.drawers ≡ Some place → Turn line command old said new → ChangesBy out line command said old.drawers new.drawers place → (place ≡ n) ⊎ (place ≡ n → ⊥)
    → Counts (names_by (provider_of command) line name) name (Some said) n before new
counts_at line name command said old new n before place true is keeps stands found at turn h where_ = absurd (let none : ⊥ = cc keeps in none)
counts_at line name command said old new n before place false is keeps stands found at turn h (inl here) =
    let first : h.before ≡ before = same_some h.before before (sym h.found ∙ ap (slice_get old.drawers) here ∙ found) in
    let there : slice_get new.drawers n ≡ Some h.after =
    ap (λ (l : List DrawerState). slice_get l n) h.others ∙ subst (λ (k : ℕ). slice_get (set old.drawers place h.after) k ≡ Some h.after) here (get-set old.drawers place h.before h.after h.found) in
    record {
      after = h.after;
      there = there;
      stands = ap (place_of name) h.others ∙ place-set name old.drawers place h.before h.after h.found h.steps.name ∙ stands;
      later = subst (λ (d : DrawerState). d.disk.faults ≤ h.after.disk.faults) first h.steps.logs.faults;
      rose = λ named answered. rose_at line command old new said n before h.after found there (at ∙ ap Some here) turn answered;
    }
counts_at line name command said old new n before place false is keeps stands found at turn h (inr other) =
    record {
      after = before;
      there = ap (λ (l : List DrawerState). slice_get l n) h.others ∙ get-set_other old.drawers place n h.after other ∙ found;
      stands = ap (place_of name) h.others ∙ place-set name old.drawers place h.before h.after h.found h.steps.name ∙ stands;
      later = omega arith;
      rose = λ named answered. absurd (other_place line name command old n (Some place) stands at (λ same. other (same_some place n same)) named);
    }

counts_placed : (line name : List ℕ) (command : Command) (said : Answer) (old new : World) (n : ℕ) (before : DrawerState) (place : Option ℕ) → takes_out command ≡ false → place_of name old.drawers ≡ Some n
    → slice_get old.drawers n ≡ Some before → place_named line command old.drawers ≡ place → Turn line command old said new → OnlyAt line command said old.drawers new.drawers place
    → Counts (names_by (provider_of command) line name) name (Some said) n before new
counts_placed line name command said old new n before None keeps stands found at turn h =
    record {
      after = before;
      there = ap (λ (l : List DrawerState). slice_get l n) h ∙ found;
      stands = ap (place_of name) h ∙ stands;
      later = omega arith;
      rose = λ named answered. absurd (other_place line name command old n None stands at (λ same. (let none : ⊥ = cc same in none)) named);
    }
counts_placed line name command said old new n before (Some place) keeps stands found at turn h =
    counts_at line name command said old new n before place (takes_out command) refl keeps stands found at turn h (here_or place n)

counts_same : (name : List ℕ) (answer : Option Answer) (old new : World) (n : ℕ) (before : DrawerState) → new ≡ old → place_of name old.drawers ≡ Some n → slice_get old.drawers n ≡ Some before → Counts false name answer n before new
counts_same name answer old new n before is stands found =
    record {
      after = before;
      there = ap (λ (w : World). slice_get w.drawers n) is ∙ found;
      stands = ap (λ (w : World). place_of name w.drawers) is ∙ stands;
      later = omega arith;
      rose = λ named answered. false_is named;
    }

counts_read : (read : Result (Option Command) Usage) (line name : List ℕ) (answer : Option Answer) (old new : World) (n : ℕ) (before : DrawerState) → KeepsAll read → place_of name old.drawers ≡ Some n
    → slice_get old.drawers n ≡ Some before → ServesReading read line old answer new → Counts (says_name read line name) name answer n before new
counts_read (Ok None) line name answer old new n before keeps stands found h = counts_same name answer old new n before h.1 stands found
counts_read (Err usage) line name answer old new n before keeps stands found h = counts_same name answer old new n before h.1 stands found
counts_read (Ok (Some command)) line name None old new n before keeps stands found h = absurd h
counts_read (Ok (Some command)) line name (Some said) old new n before keeps stands found h =
    counts_placed line name command said old new n before (place_named line command old.drawers) keeps stands found refl h (turn_only_steps line command old said new h)

-- ---- a run

fault_is : (answer : Option Answer) → is_device_fault answer ≡ true → answer ≡ Some (answers.Refused refusals.DeviceFault)
fault_is (Some (answers.Refused refusals.DeviceFault)) h = refl
fault_is answer h = false_is h

-- one line, and so many after it
one_more : (named fault : Bool) (b m a rest : ℕ) → b ≤ m → (named ≡ true → fault ≡ true → Rose b m) → m ≤ a → (a < 2 ^ 64 - 1 → m + rest ≤ a) → a < 2 ^ 64 - 1 → b + (cond (named && fault) 1 0 + rest) ≤ a
one_more true true b m a rest le rose later bound small = let r = rose refl refl in let s = bound small in omega (arith, r, s, later, small)
one_more true false b m a rest le rose later bound small = let s = bound small in omega (arith, le, s)
one_more false fault b m a rest le rose later bound small = let s = bound small in omega (arith, le, s)

pub run_rises : (sep : Sep) (lines : List ServedLine) (old new : World) (name : List ℕ) (place : ℕ) (before : DrawerState) → Run sep old lines new → AllByRecursion (λ (l : ServedLine). KeepsAll (line_reading sep l.line)) lines
    → place_of name old.drawers ≡ Some place → slice_get old.drawers place ≡ Some before → RisesBy (device_faults sep name lines) before place new
run_rises sep [] old new name place before h keeps stands found =
    record { after = before; there = ap (λ (w : World). slice_get w.drawers place) h.1 ∙ found; later = omega arith; bound = λ small. omega arith }
run_rises sep (l ∷ lines) old new name place before h keeps stands found =
    let c = counts_read (line_reading sep l.line) l.line name l.answer old l.next place before keeps.0 stands found h.0.0 in
    let r = run_rises sep lines l.next new name place c.after (h.0.1, h.1) keeps.1 c.stands c.there in
    let l1 = c.later in
    let l2 = r.later in
    record {
      after = r.after;
      there = r.there;
      later = omega (arith, l1, l2);
      bound = λ small. one_more (names sep l.line name) (is_device_fault l.answer) before.disk.faults c.after.disk.faults r.after.disk.faults (device_faults sep name lines) c.later
          (λ named fault. c.rose named (fault_is l.answer fault)) r.later r.bound small;
    }

-- ---- names when a drawer is taken out

none_more : (same : Bool) (place : Option ℕ) → cond same (Some 0) (option_map (λ n. n + 1) place) ≡ None → (same ≡ false) × (place ≡ None)
none_more true place h = absurd (let none : ⊥ = cc h in none)
none_more false None h = (refl, refl)
none_more false (Some k) h = absurd (let none : ⊥ = cc h in none)

none_still : (same : Bool) (place : Option ℕ) → same ≡ false → place ≡ None → cond same (Some 0) (option_map (λ n. n + 1) place) ≡ None
none_still true place s h = absurd (let none : ⊥ = cc s in none)
none_still false None s h = refl
none_still false (Some k) s h = absurd (let none : ⊥ = cc h in none)

first_still : (same : Bool) (place : Option ℕ) → same ≡ true → cond same (Some 0) (option_map (λ n. n + 1) place) ≡ Some 0
first_still true place s = refl
first_still false place s = false_is s

further_still : (same : Bool) (place : Option ℕ) (k : ℕ) → same ≡ false → place ≡ Some k → cond same (Some 0) (option_map (λ n. n + 1) place) ≡ Some (suc k)
further_still true place k s h = absurd (let none : ⊥ = cc s in none)
further_still false None k s h = absurd (let none : ⊥ = cc h in none)
further_still false (Some found) k s h = let is : found ≡ k = same_some found k h in let more : found + 1 ≡ suc k = omega (arith, is) in ap Some more

-- the first drawer has the name, or it doesn't and another after it has
where_named : (same : Bool) (place : Option ℕ) (n : ℕ) → cond same (Some 0) (option_map (λ k. k + 1) place) ≡ Some n → ((same ≡ true) × (n ≡ 0)) ⊎ ((k : ℕ) × (same ≡ false) × (place ≡ Some k) × (n ≡ suc k))
where_named true place n h = inl (refl, sym (same_some 0 n h))
where_named false None n h = absurd (let none : ⊥ = cc h in none)
where_named false (Some k) n h = inr (k, refl, refl, (let p : k + 1 ≡ n = same_some (k + 1) n h in omega (arith, p)))

none_removed : (name : List ℕ) (ds : List DrawerState) (p : ℕ) (b : DrawerState) → slice_get ds p ≡ Some b → place_of name ds ≡ None → place_of name (remove ds p) ≡ None
none_removed name [] p b found h = absurd (let none : ⊥ = cc found in none)
none_removed name (d ∷ ds) zero b found h = (none_more (bytes_eq d.name name) (place_of name ds) h).1
none_removed name (d ∷ ds) (suc p) b found h =
    let m = none_more (bytes_eq d.name name) (place_of name ds) h in
    none_still (bytes_eq d.name name) (place_of name (remove ds p)) m.0 (none_removed name ds p b found m.1)

gone_more : (name : List ℕ) (d : DrawerState) (ds : List DrawerState) (p : ℕ) → place_of d.name ds ≡ None → ((k : ℕ) → place_of name ds ≡ Some k → place_of name (remove ds k) ≡ None)
    → ((bytes_eq d.name name ≡ true) × (p ≡ 0)) ⊎ ((k : ℕ) × (bytes_eq d.name name ≡ false) × (place_of name ds ≡ Some k) × (p ≡ suc k)) → place_of name (remove (d ∷ ds) p) ≡ None
gone_more name d ds p alone behind (inl h) =
    subst (λ (m : ℕ). place_of name (remove (d ∷ ds) m) ≡ None) (sym h.1) (subst (λ (x : List ℕ). place_of x ds ≡ None) ((bytes_eq-Decides d.name name).0 h.0) alone)
gone_more name d ds p alone behind (inr h) =
    subst (λ (m : ℕ). place_of name (remove (d ∷ ds) m) ≡ None) (sym h.3) (none_still (bytes_eq d.name name) (place_of name (remove ds h.0)) h.1 (behind h.0 h.2))

-- no drawer has the name any more
gone : (name : List ℕ) (ds : List DrawerState) (p : ℕ) → NamesDiffer ds → place_of name ds ≡ Some p → place_of name (remove ds p) ≡ None
gone name [] p differ h = absurd (let none : ⊥ = cc h in none)
gone name (d ∷ ds) p differ h = gone_more name d ds p differ.0 (λ k. gone name ds k differ.1) (where_named (bytes_eq d.name name) (place_of name ds) p h)

record Stands (name : List ℕ) (ds : List DrawerState) (b : DrawerState) : Type 0 where
  place : ℕ
  named : place_of name ds ≡ Some place
  found : slice_get ds place ≡ Some b

removed_more : (name other : List ℕ) (d : DrawerState) (ds : List DrawerState) (q p : ℕ) (b : DrawerState) → bytes_eq name other ≡ false
    → ((j k : ℕ) → place_of other ds ≡ Some j → place_of name ds ≡ Some k → slice_get ds k ≡ Some b → Stands name (remove ds j) b)
    → ((bytes_eq d.name other ≡ true) × (q ≡ 0)) ⊎ ((j : ℕ) × (bytes_eq d.name other ≡ false) × (place_of other ds ≡ Some j) × (q ≡ suc j))
    → ((bytes_eq d.name name ≡ true) × (p ≡ 0)) ⊎ ((k : ℕ) × (bytes_eq d.name name ≡ false) × (place_of name ds ≡ Some k) × (p ≡ suc k)) → slice_get (d ∷ ds) p ≡ Some b → Stands name (remove (d ∷ ds) q) b
removed_more name other d ds q p b differ behind (inl o) (inl n) found =
    let both : bytes_eq name other ≡ true = subst (λ (x : List ℕ). bytes_eq x other ≡ true) ((bytes_eq-Decides d.name name).0 n.0) o.0 in
    false_is (sym differ ∙ both)
removed_more name other d ds q p b differ behind (inl o) (inr n) found =
    subst (λ (m : ℕ). Stands name (remove (d ∷ ds) m) b) (sym o.1) (record { place = n.0; named = n.2; found = subst (λ (m : ℕ). slice_get (d ∷ ds) m ≡ Some b) n.3 found })
removed_more name other d ds q p b differ behind (inr o) (inl n) found =
    subst (λ (m : ℕ). Stands name (remove (d ∷ ds) m) b) (sym o.3)
    (record { place = 0; named = first_still (bytes_eq d.name name) (place_of name (remove ds o.0)) n.0; found = subst (λ (m : ℕ). slice_get (d ∷ ds) m ≡ Some b) n.1 found })
removed_more name other d ds q p b differ behind (inr o) (inr n) found =
    let s = behind o.0 n.0 o.2 n.2 (subst (λ (m : ℕ). slice_get (d ∷ ds) m ≡ Some b) n.3 found) in
    subst (λ (m : ℕ). Stands name (remove (d ∷ ds) m) b) (sym o.3)
    (record { place = suc s.place; named = further_still (bytes_eq d.name name) (place_of name (remove ds o.0)) s.place n.1 s.named; found = s.found })

-- a drawer of another name is taken out
removed_other : (name other : List ℕ) (ds : List DrawerState) (q p : ℕ) (b : DrawerState) → bytes_eq name other ≡ false → place_of other ds ≡ Some q → place_of name ds ≡ Some p → slice_get ds p ≡ Some b → Stands name (remove ds q) b
removed_other name other [] q p b differ out stands found = absurd (let none : ⊥ = cc out in none)
removed_other name other (d ∷ ds) q p b differ out stands found =
    removed_more name other d ds q p b differ (λ j k. removed_other name other ds j k b differ) (where_named (bytes_eq d.name other) (place_of other ds) q out) (where_named (bytes_eq d.name name) (place_of name ds) p stands) found

ejected_other : (prov : Option Span) (line name : List ℕ) (ds : List DrawerState) (q p : ℕ) (b : DrawerState) → option_and_then (λ x. place_of (bytes_at line x) ds) prov ≡ Some q → names_by prov line name ≡ false → place_of name ds ≡ Some p
    → slice_get ds p ≡ Some b → Stands name (remove ds q) b
ejected_other None line name ds q p b out other stands found = absurd (let none : ⊥ = cc out in none)
ejected_other (Some prov) line name ds q p b out other stands found = removed_other name (bytes_at line prov) ds q p b other out stands found

-- ---- one line, which may take a drawer out

record Kept (named : Bool) (name : List ℕ) (answer : Option Answer) (before : DrawerState) (new : World) : Type 0 where
  place : ℕ
  counts : Counts named name answer place before new
  differ : NamesDiffer new.drawers

record Left (read : Result (Option Command) Usage) (line name : List ℕ) (answer : Option Answer) (new : World) : Type 0 where
  says : says_eject read line name ≡ true
  done : is_done answer ≡ true
  quiet : is_device_fault answer ≡ false
  absent : place_of name new.drawers ≡ None

both_are : (a b : Bool) → a ≡ true → b ≡ true → (a && b) ≡ true
both_are true b p q = q
both_are false b p q = false_is p

out_by : (line name : List ℕ) (command : Command) (said : Answer) (old new : World) (n : ℕ) (before : DrawerState) (place : ℕ) (named : Bool) → names_by (provider_of command) line name ≡ named → takes_out command ≡ true → NamesDiffer old.drawers
    → place_of name old.drawers ≡ Some n → slice_get old.drawers n ≡ Some before → place_named line command old.drawers ≡ Some place → ChangesBy true line command said old.drawers new.drawers place
    → Kept (names_by (provider_of command) line name) name (Some said) before new ⊎ Left (Ok (Some command)) line name (Some said) new
out_by line name command said old new n before place true is out differ stands found at h =
    let same : Some place ≡ Some n = sym at ∙ named_place (provider_of command) line name old.drawers is ∙ stands in
    inr (record {
      says = both_are (takes_out command) (names_by (provider_of command) line name) out is;
      done = subst (λ (a : Answer). is_done (Some a) ≡ true) (sym h.done) refl;
      quiet = subst (λ (a : Answer). is_device_fault (Some a) ≡ false) (sym h.done) refl;
      absent = ap (place_of name) h.others ∙ gone name old.drawers place differ (stands ∙ sym same);
    })
out_by line name command said old new n before place false is out differ stands found at h =
    let s = ejected_other (provider_of command) line name old.drawers place n before at is stands found in
    inl (record {
      place = s.place;
      counts = record {
        after = before;
        there = ap (λ (l : List DrawerState). slice_get l s.place) h.others ∙ s.found;
        stands = ap (place_of name) h.others ∙ s.named;
        later = omega arith;
        rose = λ named answered. false_is (sym is ∙ named);
      };
      differ = subst (λ (l : List DrawerState). NamesDiffer l) (sym h.others) (differ-removed old.drawers place h.before h.found differ);
    })

line_at : (line name : List ℕ) (command : Command) (said : Answer) (old new : World) (n : ℕ) (before : DrawerState) (place : ℕ) (out : Bool) → takes_out command ≡ out → NamesDiffer old.drawers → place_of name old.drawers ≡ Some n
    → slice_get old.drawers n ≡ Some before → place_named line command old.drawers ≡ Some place → Turn line command old said new → ChangesBy out line command said old.drawers new.drawers place
    → Kept (names_by (provider_of command) line name) name (Some said) before new ⊎ Left (Ok (Some command)) line name (Some said) new
line_at line name command said old new n before place true is differ stands found at turn h =
    out_by line name command said old new n before place (names_by (provider_of command) line name) refl is differ stands found at h
line_at line name command said old new n before place false is differ stands found at turn h =
    inl (record {
      place = n;
      counts = counts_at line name command said old new n before place false is refl stands found at turn h (here_or place n);
      differ = subst (λ (l : List DrawerState). NamesDiffer l) (sym h.others) (differ-set old.drawers place h.before h.after h.found h.steps.name differ);
    })

line_placed : (line name : List ℕ) (command : Command) (said : Answer) (old new : World) (n : ℕ) (before : DrawerState) (place : Option ℕ) → NamesDiffer old.drawers → place_of name old.drawers ≡ Some n
    → slice_get old.drawers n ≡ Some before → place_named line command old.drawers ≡ place → Turn line command old said new → OnlyAt line command said old.drawers new.drawers place
    → Kept (names_by (provider_of command) line name) name (Some said) before new ⊎ Left (Ok (Some command)) line name (Some said) new
line_placed line name command said old new n before None differ stands found at turn h =
    inl (record {
      place = n;
      counts = record {
        after = before;
        there = ap (λ (l : List DrawerState). slice_get l n) h ∙ found;
        stands = ap (place_of name) h ∙ stands;
        later = omega arith;
        rose = λ named answered. absurd (other_place line name command old n None stands at (λ same. (let none : ⊥ = cc same in none)) named);
      };
      differ = subst (λ (l : List DrawerState). NamesDiffer l) (sym h) differ;
    })
line_placed line name command said old new n before (Some place) differ stands found at turn h =
    line_at line name command said old new n before place (takes_out command) refl differ stands found at turn h

kept_same : (name : List ℕ) (answer : Option Answer) (old new : World) (n : ℕ) (before : DrawerState) → new ≡ old → NamesDiffer old.drawers → place_of name old.drawers ≡ Some n → slice_get old.drawers n ≡ Some before
    → Kept false name answer before new
kept_same name answer old new n before is differ stands found =
    record { place = n; counts = counts_same name answer old new n before is stands found; differ = subst (λ (w : World). NamesDiffer w.drawers) (sym is) differ }

line_read : (read : Result (Option Command) Usage) (line name : List ℕ) (answer : Option Answer) (old new : World) (n : ℕ) (before : DrawerState) → NamesDiffer old.drawers → place_of name old.drawers ≡ Some n
    → slice_get old.drawers n ≡ Some before → ServesReading read line old answer new → Kept (says_name read line name) name answer before new ⊎ Left read line name answer new
line_read (Ok None) line name answer old new n before differ stands found h = inl (kept_same name answer old new n before h.1 differ stands found)
line_read (Err usage) line name answer old new n before differ stands found h = inl (kept_same name answer old new n before h.1 differ stands found)
line_read (Ok (Some command)) line name None old new n before differ stands found h = absurd h
line_read (Ok (Some command)) line name (Some said) old new n before differ stands found h =
    line_placed line name command said old new n before (place_named line command old.drawers) differ stands found refl h (turn_only_steps line command old said new h)

-- ---- lines when no drawer has the name

unknown_by : (At : World → Answer → World → ℕ → Type 0) (old : World) (said : Answer) (new : World) (place : Option ℕ) → place ≡ None → MatchOption place (IsUnknown old said new) (At old said new)
    → said ≡ answers.Refused refusals.UnknownProvider
unknown_by At old said new None absent h = h.refused
unknown_by At old said new (Some place) absent h = absurd (let none : ⊥ = cc absent in none)

quiet_by : (At : World → Answer → World → ℕ → Type 0) (name other : List ℕ) (old : World) (said : Answer) (new : World) (same : Bool) → bytes_eq name other ≡ same → place_of name old.drawers ≡ None → TurnOf At other old said new
    → ◌≡◌ {A = ℕ} (cond (same && is_device_fault (Some said)) 1 0) 0
quiet_by At name other old said new false is absent h = refl
quiet_by At name other old said new true is absent h =
    let unknown : said ≡ answers.Refused refusals.UnknownProvider =
    unknown_by At old said new (place_of other old.drawers) (subst (λ (x : List ℕ). place_of x old.drawers ≡ None) ((bytes_eq-Decides name other).0 is) absent) h in
    subst (λ (a : Answer). ◌≡◌ {A = ℕ} (cond (true && is_device_fault (Some a)) 1 0) 0) (sym unknown) refl

quiet_named : (At : World → Answer → World → ℕ → Type 0) (prov : Option Span) (line name : List ℕ) (old : World) (said : Answer) (new : World) → place_of name old.drawers ≡ None
    → MatchOption prov (ListsDrawers old said new) (λ p. TurnOf At (bytes_at line p) old said new) → ◌≡◌ {A = ℕ} (cond (names_by prov line name && is_device_fault (Some said)) 1 0) 0
quiet_named At None line name old said new absent h = refl
quiet_named At (Some prov) line name old said new absent h = quiet_by At name (bytes_at line prov) old said new (bytes_eq name (bytes_at line prov)) refl absent h

absent_by : (out : Bool) (line name : List ℕ) (command : Command) (said : Answer) (old new : List DrawerState) (place : ℕ) → place_of name old ≡ None → ChangesBy out line command said old new place → place_of name new ≡ None
absent_by true line name command said old new place absent h = ap (place_of name) h.others ∙ none_removed name old place h.before h.found absent
absent_by false line name command said old new place absent h = ap (place_of name) h.others ∙ place-set name old place h.before h.after h.found h.steps.name ∙ absent

absent_at : (line name : List ℕ) (command : Command) (said : Answer) (old new : List DrawerState) (place : Option ℕ) → place_of name old ≡ None → OnlyAt line command said old new place → place_of name new ≡ None
absent_at line name command said old new None absent h = ap (place_of name) h ∙ absent
absent_at line name command said old new (Some place) absent h = absent_by (takes_out command) line name command said old new place absent h

quiet_read : (read : Result (Option Command) Usage) (line name : List ℕ) (answer : Option Answer) (old new : World) → place_of name old.drawers ≡ None → ServesReading read line old answer new
    → (◌≡◌ {A = ℕ} (cond (says_name read line name && is_device_fault answer) 1 0) 0) × (place_of name new.drawers ≡ None)
quiet_read (Ok None) line name answer old new absent h = (refl, ap (λ (w : World). place_of name w.drawers) h.1 ∙ absent)
quiet_read (Err usage) line name answer old new absent h = (refl, ap (λ (w : World). place_of name w.drawers) h.1 ∙ absent)
quiet_read (Ok (Some command)) line name None old new absent h = absurd h
quiet_read (Ok (Some command)) line name (Some said) old new absent h = (
  quiet_named (ServesAt (takes_out command) line command) (provider_of command) line name old said new absent h,
  absent_at line name command said old.drawers new.drawers (place_named line command old.drawers) absent (turn_only_steps line command old said new h),
)

quiet_run : (sep : Sep) (lines : List ServedLine) (start : World) (name : List ℕ) → place_of name start.drawers ≡ None → EachServed sep start lines → device_faults sep name lines ≡ 0
quiet_run sep [] start name absent h = refl
quiet_run sep (l ∷ lines) start name absent h =
    let q = quiet_read (line_reading sep l.line) l.line name l.answer start l.next absent h.0 in
    let one : ◌≡◌ {A = ℕ} (cond (names sep l.line name && is_device_fault l.answer) 1 0) 0 = q.0 in
    let rest : device_faults sep name lines ≡ 0 = quiet_run sep lines l.next name q.1 h.1 in
    omega (arith, one, rest)

-- ---- a run that may take drawers out

none_both : (a b : Bool) → b ≡ false → ◌≡◌ {A = ℕ} (cond (a && b) 1 0) 0
none_both true true h = absurd (let none : ⊥ = cc h in none)
none_both true false h = refl
none_both false b h = refl

rises_more : (named : Bool) (name : List ℕ) (answer : Option Answer) (before : DrawerState) (place : ℕ) (middle : World) (rest : ℕ) (new : World) (c : Counts named name answer place before middle) → RisesNamed rest c.after name new
    → RisesNamed (cond (named && is_device_fault answer) 1 0 + rest) before name new
rises_more named name answer before place middle rest new c r =
    let l1 = c.later in
    let l2 = r.rises.later in
    record {
      place = r.place;
      named = r.named;
      rises = record {
        after = r.rises.after;
        there = r.rises.there;
        later = omega (arith, l1, l2);
        bound = λ small. one_more named (is_device_fault answer) before.disk.faults c.after.disk.faults r.rises.after.disk.faults rest c.later (λ is fault. c.rose is (fault_is answer fault)) r.rises.later r.rises.bound small;
      };
    }

abbrev RisesOr : Sep → List ServedLine → DrawerState → List ℕ → World → World → Type 0
RisesOr sep lines before name old new = RisesNamed (device_faults sep name lines) before name new ⊎ RisesUntilOut sep old lines (device_faults sep name lines) before name

kept_on : (sep : Sep) (l : ServedLine) (lines : List ServedLine) (old new : World) (name : List ℕ) (before : DrawerState) (k : Kept (names sep l.line name) name l.answer before l.next) → RisesOr sep lines k.counts.after name l.next new
    → RisesOr sep (l ∷ lines) before name old new
kept_on sep l lines old new name before k (inl r) = inl (rises_more (names sep l.line name) name l.answer before k.place l.next (device_faults sep name lines) new k.counts r)
kept_on sep l lines old new name before k (inr r) =
    inr (record {
      served = l ∷ r.served;
      out = r.out;
      behind = r.behind;
      are = ap (λ (ls : List ServedLine). l ∷ ls) r.are;
      took_out = r.took_out;
      rises = rises_more (names sep l.line name) name l.answer before k.place l.next (device_faults sep name lines) (world_behind l.next r.served) k.counts r.rises;
    })

line_on : (sep : Sep) (l : ServedLine) (lines : List ServedLine) (old new : World) (name : List ℕ) (place : ℕ) (before : DrawerState) → EachServed sep l.next lines → place_of name old.drawers ≡ Some place → slice_get old.drawers place ≡ Some before
    → ((k : Kept (names sep l.line name) name l.answer before l.next) → RisesOr sep lines k.counts.after name l.next new)
    → Kept (names sep l.line name) name l.answer before l.next ⊎ Left (line_reading sep l.line) l.line name l.answer l.next → RisesOr sep (l ∷ lines) before name old new
line_on sep l lines old new name place before h stands found goes_on (inl k) = kept_on sep l lines old new name before k (goes_on k)
line_on sep l lines old new name place before h stands found goes_on (inr left) =
    let one : ◌≡◌ {A = ℕ} (cond (names sep l.line name && is_device_fault l.answer) 1 0) 0 = none_both (names sep l.line name) (is_device_fault l.answer) left.quiet in
    let rest : device_faults sep name lines ≡ 0 = quiet_run sep lines l.next name left.absent h in
    inr (record {
      served = [];
      out = l;
      behind = lines;
      are = refl;
      took_out = both_are (ejects sep l.line name) (is_done l.answer) left.says left.done;
      rises = record { place = place; named = stands; rises = record { after = before; there = found; later = omega arith; bound = λ small. omega (arith, one, rest) } };
    })

pub run_rises_or : (sep : Sep) (lines : List ServedLine) (old new : World) (name : List ℕ) (place : ℕ) (before : DrawerState) → Run sep old lines new → NamesDiffer old.drawers → place_of name old.drawers ≡ Some place → slice_get old.drawers place ≡ Some before
    → RisesOr sep lines before name old new
run_rises_or sep [] old new name place before h differ stands found =
    inl (record {
      place = place;
      named = ap (λ (w : World). place_of name w.drawers) h.1 ∙ stands;
      rises = record { after = before; there = ap (λ (w : World). slice_get w.drawers place) h.1 ∙ found; later = omega arith; bound = λ small. omega arith };
    })
run_rises_or sep (l ∷ lines) old new name place before h differ stands found =
    line_on sep l lines old new name place before h.0.1 stands found (λ k. run_rises_or sep lines l.next new name k.place k.counts.after (h.0.1, h.1) k.differ k.counts.stands k.counts.there)
    (line_read (line_reading sep l.line) l.line name l.answer old l.next place before differ stands found h.0.0)
