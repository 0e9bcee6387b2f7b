-- Two disks as one, by what both report and what is reported of them.
use Rattle.std.proofs.Common.{◌≡◌, ℕ, zero, suc, ◌+◌, ◌-◌, ◌<◌, ◌≤◌, false, List, [], ◌∷◌, ◌++◌, length, take, drop, get_or, refl, sym, ap, ◌∙◌, subst, subst₂, arith, All, length-append, Option, Some, None, Result, Ok, Err, OnOk, OnErr}
use Rattle.std.proofs.lemmas.List.{drop_at, get_or_append_left, get_or-append_right}
use Rattle.std.proofs.Math.Seq.{take-length}
use Rattle.std.proofs.lemmas.List.Elements.{All-nil, All-cons, All-head, All-tail, All-append, All-drop}
use Rattle.block_traits.specs.declared.disk.DiskFailed.{DiskFailed}
use Rattle.block_traits.specs.declared.disk.Event.{Event}
use Rattle.block_traits.specs.declared.disk.Event.TheVariants.{Write, Flush}
use Rattle.block_traits.specs.Content.{Content, IsContentOf, IsEventOf, IsSector, kept_values, logged, with_events}
use Rattle.block_traits.specs.Disk.{DiskState, FailsIn, FitsSize, GivesFrom, Logs, writes_from}
use Rattle.block_traits.proofs.Keeping.{kept_values-more}
use Rattle.block_traits.proofs.Logs.{logged-none}
use Rattle.disk_layers.specs.Covering.{CoversValues}
use Rattle.disk_layers.specs.History.{moved, told_history, unflushed}
use Rattle.disk_layers.specs.Joined.{CoversBoth, CoversEach, joined_content, joined_history}
use Rattle.disk_layers.proofs.BehindLemmas.{fits-more}
use Rattle.disk_layers.proofs.Covered.{covers_events, covers_itself, covers_unflushed, kept_before, kept_behind, kept_moved, present-covered-at, some_kept}

-- ---- writes alone

-- no flush
pub AreWrites : List Event → Type 0
AreWrites [] = Unit {0}
AreWrites (Write n bytes ∷ events) = AreWrites events
AreWrites (Flush ∷ events) = ⊥

pub AreWrites-one : (n : ℕ) (bytes : List ℕ) → AreWrites (Write n bytes ∷ [])
unfolding AreWrites
AreWrites-one n bytes = tt

pub AreWrites-from : (n : ℕ) (sectors : List (List ℕ)) → AreWrites (writes_from n sectors)
unfolding AreWrites
AreWrites-from n [] = tt
AreWrites-from n (sector ∷ sectors) = AreWrites-from (n + 1) sectors

pub take-unflushed : (count : ℕ) (events : List Event) → AreWrites events → unflushed (take count events) ≡ take count events
unfolding AreWrites
take-unflushed zero events are = refl
take-unflushed (suc count) [] are = refl
take-unflushed (suc count) (Write n bytes ∷ events) are = ap (λ (l : List Event). Write n bytes ∷ l) (take-unflushed count events are)
take-unflushed (suc count) (Flush ∷ events) are = absurd are

pub all-unflushed : (events : List Event) → AreWrites events → unflushed events ≡ events
unfolding AreWrites
all-unflushed [] are = refl
all-unflushed (Write n bytes ∷ events) are = ap (λ (l : List Event). Write n bytes ∷ l) (all-unflushed events are)
all-unflushed (Flush ∷ events) are = absurd are

pub flush-unflushed : (count : ℕ) → unflushed (take count (Flush ∷ [])) ≡ []
flush-unflushed zero = refl
flush-unflushed (suc zero) = refl
flush-unflushed (suc (suc count)) = refl

pub take-moved : (by count : ℕ) (events : List Event) → moved by (take count events) ≡ take count (moved by events)
take-moved by zero events = refl
take-moved by (suc count) [] = refl
take-moved by (suc count) (Write n bytes ∷ events) = ap (λ (l : List Event). Write (n + by) bytes ∷ l) (take-moved by count events)
take-moved by (suc count) (Flush ∷ events) = ap (λ (l : List Event). Flush ∷ l) (take-moved by count events)

pub moved-from : (by n : ℕ) (sectors : List (List ℕ)) → moved by (writes_from n sectors) ≡ writes_from (n + by) sectors
moved-from by n [] = refl
moved-from by n (sector ∷ sectors) =
    let next : n + 1 + by ≡ n + by + 1 = omega arith in
    ap (λ (l : List Event). Write (n + by) sector ∷ l) (moved-from by (n + 1) sectors ∙ ap (λ (m : ℕ). writes_from m sectors) next)

-- ---- events that fit

All-unflushed : (size more : ℕ) (events : List Event) → All (IsEventOf size) events → All (IsEventOf (size + more)) (unflushed events)
All-unflushed size more [] fit = All-nil (IsEventOf (size + more))
All-unflushed size more (Write n bytes ∷ events) fit =
    let one = All-head (IsEventOf size) (Write n bytes) events fit in
    let small = one.0 in
    All-cons (IsEventOf (size + more)) (Write n bytes) (unflushed events) (omega arith, one.1) (All-unflushed size more events (All-tail (IsEventOf size) (Write n bytes) events fit))
All-unflushed size more (Flush ∷ events) fit = All-unflushed size more events (All-tail (IsEventOf size) Flush events fit)

All-moved : (by size : ℕ) (events : List Event) → All (IsEventOf size) events → All (IsEventOf (by + size)) (moved by (unflushed events))
All-moved by size [] fit = All-nil (IsEventOf (by + size))
All-moved by size (Write n bytes ∷ events) fit =
    let one = All-head (IsEventOf size) (Write n bytes) events fit in
    let small = one.0 in
    All-cons (IsEventOf (by + size)) (Write (n + by) bytes) (moved by (unflushed events)) (omega arith, one.1) (All-moved by size events (All-tail (IsEventOf size) (Write n bytes) events fit))
All-moved by size (Flush ∷ events) fit = All-moved by size events (All-tail (IsEventOf size) Flush events fit)

own_events : (size : ℕ) (events : List Event) (c : Content) → IsContentOf size (with_events events c) → All (IsEventOf size) events
own_events size events c fits = subst (All (IsEventOf size)) (drop_at c.history events (length c.history) refl) (All-drop (IsEventOf size) (length c.history) (c.history ++ events) fits.events)

-- ---- what is reported

-- what a disk logged since
abbrev pub seen : Option Content → Option Content → List Event
seen old new = drop (length (told_history old)) (told_history new)

seen-logged : (events : List Event) (c : Content) → seen (Some c) (Some (with_events events c)) ≡ events
seen-logged events c = drop_at c.history events (length c.history) refl

joined-more : (past events : List Event) (a b : Option Content) → joined_content (past ++ events) a b ≡ logged events (joined_content past a b)
joined-more past events None b = refl
joined-more past events (Some a) None = refl
joined-more past events (Some a) (Some b) = refl

-- the same history, whatever was done below
pub joined-first : (past events : List Event) (a b : Option Content) → joined_content past (logged events a) b ≡ joined_content past a b
joined-first past events None b = refl
joined-first past events (Some a) None = refl
joined-first past events (Some a) (Some b) = refl

pub joined-second : (past events : List Event) (a b : Option Content) → joined_content past a (logged events b) ≡ joined_content past a b
joined-second past events None b = refl
joined-second past events (Some a) None = refl
joined-second past events (Some a) (Some b) = refl

first-now : (past events : List Event) (a b : Option Content) → joined_content (past ++ unflushed (seen a (logged events a))) (logged events a) b ≡ logged (unflushed events) (joined_content past a b)
first-now past events None b = refl
first-now past events (Some a) None = refl
first-now past events (Some a) (Some b) = ap (λ (l : List Event). joined_content (past ++ unflushed l) (Some a) (Some b)) (seen-logged events a)

second-now : (size : ℕ) (past events : List Event) (a b : Option Content) → joined_content (past ++ moved size (unflushed (seen b (logged events b)))) a (logged events b) ≡ logged (moved size (unflushed events)) (joined_content past a b)
second-now size past events None b = refl
second-now size past events (Some a) None = refl
second-now size past events (Some a) (Some b) = ap (λ (l : List Event). joined_content (past ++ moved size (unflushed l)) (Some a) (Some b)) (seen-logged events b)

fits-first : (size more : ℕ) (events : List Event) (past : List Event) (a b : Option Content) → FitsSize size (logged events a) → FitsSize (size + more) (joined_content past a b) → FitsSize (size + more) (logged (unflushed events) (joined_content past a b))
fits-first size more events past None b own fits = tt
fits-first size more events past (Some a) None own fits = tt
fits-first size more events past (Some a) (Some b) own fits =
    fits-more (size + more) (unflushed events) (joined_content past (Some a) (Some b)) (All-unflushed size more events (own_events size events a own)) fits

fits-second : (size more : ℕ) (events : List Event) (past : List Event) (a b : Option Content) → FitsSize more (logged events b) → FitsSize (size + more) (joined_content past a b)
    → FitsSize (size + more) (logged (moved size (unflushed events)) (joined_content past a b))
fits-second size more events past None b own fits = tt
fits-second size more events past (Some a) None own fits = tt
fits-second size more events past (Some a) (Some b) own fits =
    fits-more (size + more) (moved size (unflushed events)) (joined_content past (Some a) (Some b)) (All-moved size more events (own_events more events b own)) fits

-- ---- covering

-- events of one disk alone
pub first_alone : (size : ℕ) (events : List Event) (a b above : Content) → All (IsEventOf size) events → CoversEach size a b above → CoversEach size (with_events events a) b (with_events (unflushed events) above)
first_alone size events a b above fit covers = record {
  first = λ n small. subst₂ CoversValues (sym (kept_values-more a events n)) (sym (kept_values-more above (unflushed events) n))
      (covers_unflushed events n (kept_values a n) (kept_values above n) (some_kept above n) (covers.first n small));
  second = λ n behind. subst (CoversValues (kept_values b (n - size)))
      (sym (kept_values-more above (unflushed events) n ∙ kept_behind size n events (kept_values above n) behind fit)) (covers.second n behind);
}

pub second_alone : (size : ℕ) (events : List Event) (a b above : Content) → CoversEach size a b above → CoversEach size a (with_events events b) (with_events (moved size (unflushed events)) above)
second_alone size events a b above covers = record {
  first = λ n small. subst (CoversValues (kept_values a n))
      (sym (kept_values-more above (moved size (unflushed events)) n ∙ kept_before size n events (kept_values above n) small)) (covers.first n small);
  second = λ n behind. subst₂ CoversValues (sym (kept_values-more b events (n - size))) (sym (kept_values-more above (moved size (unflushed events)) n ∙ kept_moved size n (unflushed events) (kept_values above n) behind))
      (covers_unflushed events (n - size) (kept_values b (n - size)) (kept_values above n) (some_kept above n) (covers.second n behind));
}

covers-first : (size : ℕ) (events : List Event) (a b above : Option Content) → FitsSize size (logged events a) → CoversBoth size a b above → CoversBoth size (logged events a) b (logged (unflushed events) above)
covers-first size events None b above own covers = tt
covers-first size events (Some a) None above own covers = tt
covers-first size events (Some a) (Some b) None own covers = absurd covers
covers-first size events (Some a) (Some b) (Some above) own covers = first_alone size events a b above (own_events size events a own) covers

covers-second : (size : ℕ) (events : List Event) (a b above : Option Content) → CoversBoth size a b above → CoversBoth size a (logged events b) (logged (moved size (unflushed events)) above)
covers-second size events None b above covers = tt
covers-second size events (Some a) None above covers = tt
covers-second size events (Some a) (Some b) None covers = absurd covers
covers-second size events (Some a) (Some b) (Some above) covers = second_alone size events a b above covers

pub covers-flush : (size : ℕ) (a b above : Option Content) → CoversBoth size a b above → CoversBoth size (logged (Flush ∷ []) a) (logged (Flush ∷ []) b) (logged (Flush ∷ []) above)
covers-flush size None b above covers = tt
covers-flush size (Some a) None above covers = tt
covers-flush size (Some a) (Some b) None covers = absurd covers
covers-flush size (Some a) (Some b) (Some above) covers = record {
  first = λ n small. subst₂ CoversValues (sym (kept_values-more a (Flush ∷ []) n)) (sym (kept_values-more above (Flush ∷ []) n))
      (covers_events (Flush ∷ []) n (kept_values a n) (kept_values above n) (some_kept above n) (covers.first n small));
  second = λ n behind. subst₂ CoversValues (sym (kept_values-more b (Flush ∷ []) (n - size))) (sym (kept_values-more above (Flush ∷ []) n))
      (covers_events (Flush ∷ []) n (kept_values b (n - size)) (kept_values above n) (some_kept above n) (covers.second n behind));
}

-- ---- the two disks at first

start-covers : (size : ℕ) (a b : Content) → IsContentOf size a → CoversEach size (record { base = a.base; history = [] }) (record { base = b.base; history = [] }) (record { base = a.base ++ b.base; history = [] })
start-covers size a b fits = record {
  first = λ n small.
      let inside : n < length a.base = omega (arith, fits.sectors) in
      let here : get_or (a.base ++ b.base) n [] ≡ get_or a.base n [] = get_or_append_left a.base b.base [] n inside in
      subst (λ (v : List ℕ). CoversValues (get_or a.base n [] ∷ []) (v ∷ [])) (sym here) (covers_itself (get_or a.base n [] ∷ []));
  second = λ n behind.
      let here : get_or (a.base ++ b.base) n [] ≡ get_or b.base (n - size) [] = get_or-append_right a.base b.base size n [] fits.sectors behind in
      subst (λ (v : List ℕ). CoversValues (get_or b.base (n - size) [] ∷ []) (v ∷ [])) (sym here) (covers_itself (get_or b.base (n - size) [] ∷ []));
}

pub new-covers : (size : ℕ) (a b : Option Content) → FitsSize size a → CoversBoth size a b (joined_content (joined_history size a b) a b)
new-covers size None b fits = tt
new-covers size (Some a) None fits = tt
new-covers size (Some a) (Some b) fits =
    let a0 : Content = record { base = a.base; history = [] } in
    let b0 : Content = record { base = b.base; history = [] } in
    let above : Content = record { base = a.base ++ b.base; history = [] } in
    covers-second size b.history (Some a) (Some b0) (logged (unflushed a.history) (Some above))
    (covers-first size a.history (Some a0) (Some b0) (Some above) fits (start-covers size a b fits))

pub new-fits : (size more : ℕ) (a b : Option Content) → FitsSize size a → FitsSize more b → FitsSize (size + more) (joined_content (joined_history size a b) a b)
new-fits size more None b one other = tt
new-fits size more (Some a) None one other = tt
new-fits size more (Some a) (Some b) one other =
    let a0 : Content = record { base = a.base; history = [] } in
    let b0 : Content = record { base = b.base; history = [] } in
    let start : IsContentOf (size + more) (record { base = a.base ++ b.base; history = [] }) = record {
      sectors = length-append a.base b.base ∙ (λ i. one.sectors i + other.sectors i);
      base = All-append IsSector a.base b.base one.base other.base;
      events = All-nil (IsEventOf (size + more));
    } in
    fits-second size more b.history (unflushed a.history) (Some a) (Some b0) other (fits-first size more a.history [] (Some a0) (Some b0) one start)

-- ---- the calls

-- some of the events were logged below
pub record Part (events : List Event) (old new : DiskState) : Type 0 where
  pub count : ℕ
  pub content : new.content ≡ logged (take count events) old.content
  pub size : new.size ≡ old.size

pub Part-answer : (events : List Event) (result : Result (Unit {0}) DiskFailed) {old new : DiskState} → OnOk result (Logs events old new) → OnErr result (FailsIn events old new) → Part events old new
Part-answer events (Ok done) {old} {new} ok err = record {
  count = length events;
  content = ok.content ∙ ap (λ (es : List Event). logged es old.content) (sym (take-length events));
  size = ok.size;
}
Part-answer events (Err failed) ok err = record { count = err.count; content = err.logs.content; size = err.logs.size }

module _ (events : List Event) (past : List Event) (old new other : DiskState) (part : Part events old new) where
  own : FitsSize old.size (logged (take part.count events) old.content)
  own = subst₂ FitsSize part.size part.content new.well_formed.fits

  pub first-fits : FitsSize (old.size + other.size) (joined_content past old.content other.content) → FitsSize (new.size + other.size) (joined_content (past ++ unflushed (seen old.content new.content)) new.content other.content)
  first-fits fits =
      let P : ℕ → Option Content → Type 0 = λ size told. FitsSize (size + other.size) (joined_content (past ++ unflushed (seen old.content told)) told other.content) in
      subst₂ P (sym part.size) (sym part.content)
      (subst (FitsSize (old.size + other.size)) (sym (first-now past (take part.count events) old.content other.content)) (fits-first old.size other.size (take part.count events) past old.content other.content own fits))

  pub first-covers : CoversBoth old.size old.content other.content (joined_content past old.content other.content)
      → CoversBoth new.size new.content other.content (joined_content (past ++ unflushed (seen old.content new.content)) new.content other.content)
  first-covers covers =
      let P : ℕ → Option Content → Type 0 = λ size told. CoversBoth size told other.content (joined_content (past ++ unflushed (seen old.content told)) told other.content) in
      subst₂ P (sym part.size) (sym part.content)
      (subst (CoversBoth old.size (logged (take part.count events) old.content) other.content) (sym (first-now past (take part.count events) old.content other.content))
      (covers-first old.size (take part.count events) old.content other.content (joined_content past old.content other.content) own covers))

  pub second-fits : (size : ℕ) → size ≡ other.size → FitsSize (other.size + old.size) (joined_content past other.content old.content)
      → FitsSize (other.size + new.size) (joined_content (past ++ moved size (unflushed (seen old.content new.content))) other.content new.content)
  second-fits size is fits =
      let P : ℕ → Option Content → Type 0 = λ more told. FitsSize (other.size + more) (joined_content (past ++ moved other.size (unflushed (seen old.content told))) other.content told) in
      let Q : ℕ → Type 0 = λ by. FitsSize (other.size + new.size) (joined_content (past ++ moved by (unflushed (seen old.content new.content))) other.content new.content) in
      subst Q (sym is) (subst₂ P (sym part.size) (sym part.content)
      (subst (FitsSize (other.size + old.size)) (sym (second-now other.size past (take part.count events) other.content old.content)) (fits-second other.size old.size (take part.count events) past other.content old.content own fits)))

  pub second-covers : (size : ℕ) → size ≡ other.size → CoversBoth other.size other.content old.content (joined_content past other.content old.content)
      → CoversBoth other.size other.content new.content (joined_content (past ++ moved size (unflushed (seen old.content new.content))) other.content new.content)
  second-covers size is covers =
      let P : Option Content → Type 0 = λ told. CoversBoth other.size other.content told (joined_content (past ++ moved other.size (unflushed (seen old.content told))) other.content told) in
      let Q : ℕ → Type 0 = λ by. CoversBoth other.size other.content new.content (joined_content (past ++ moved by (unflushed (seen old.content new.content))) other.content new.content) in
      subst Q (sym is) (subst P (sym part.content)
      (subst (CoversBoth other.size other.content (logged (take part.count events) old.content)) (sym (second-now other.size past (take part.count events) other.content old.content))
      (covers-second other.size (take part.count events) other.content old.content (joined_content past other.content old.content) covers)))

-- what is reported then, if these were writes
pub first-content : (past events : List Event) (old new other : Option Content) (count : ℕ) → AreWrites events → new ≡ logged (take count events) old
    → joined_content (past ++ unflushed (seen old new)) new other ≡ logged (take count events) (joined_content past old other)
first-content past events old new other count are is =
    let P : Option Content → Type 0 = λ told. joined_content (past ++ unflushed (seen old told)) told other ≡ logged (take count events) (joined_content past old other) in
    subst P (sym is) (first-now past (take count events) old other ∙ ap (λ (l : List Event). logged l (joined_content past old other)) (take-unflushed count events are))

pub second-content : (size by : ℕ) (past events : List Event) (old new other : Option Content) (count : ℕ) → size ≡ by → AreWrites events → new ≡ logged (take count events) old
    → joined_content (past ++ moved by (unflushed (seen old new))) other new ≡ logged (take count (moved by events)) (joined_content past other old)
second-content size by past events old new other count same are is =
    let P : Option Content → Type 0 = λ told. joined_content (past ++ moved by (unflushed (seen old told))) other told ≡ logged (take count (moved by events)) (joined_content past other old) in
    subst P (sym is) (second-now by past (take count events) other old
    ∙ ap (λ (l : List Event). logged (moved by l) (joined_content past other old)) (take-unflushed count events are)
    ∙ ap (λ (l : List Event). logged l (joined_content past other old)) (take-moved by count events))

-- ---- a read

pub gives-first : (size n : ℕ) (bytes : List ℕ) (past : List Event) (a b : Option Content) → n < size → CoversBoth size a b (joined_content past a b) → GivesFrom a n bytes → GivesFrom (joined_content past a b) n bytes
gives-first size n bytes past None b small covers gives = tt
gives-first size n bytes past (Some a) None small covers gives = tt
gives-first size n bytes past (Some a) (Some b) small covers gives = gives ∙ present-covered-at a (record { base = a.base ++ b.base; history = past }) n n (covers.first n small)

pub gives-second : (size n : ℕ) (bytes : List ℕ) (past : List Event) (a b : Option Content) → size ≤ n → CoversBoth size a b (joined_content past a b) → GivesFrom b (n - size) bytes → GivesFrom (joined_content past a b) n bytes
gives-second size n bytes past None b behind covers gives = tt
gives-second size n bytes past (Some a) None behind covers gives = tt
gives-second size n bytes past (Some a) (Some b) behind covers gives = gives ∙ present-covered-at b (record { base = a.base ++ b.base; history = past }) (n - size) n (covers.second n behind)

-- ---- what is reported, by the calls of the disks

pub on_ok : {T E : Type 0} {X Y : Type 0} (result : Result T E) → (X → Y) → OnOk result X → OnOk result Y
on_ok (Ok done) f h = f h
on_ok (Err failed) f h = tt

pub on_err : {T E : Type 0} {X Y : Type 0} (result : Result T E) → (X → Y) → OnErr result X → OnErr result Y
on_err (Ok done) f h = tt
on_err (Err failed) f h = f h

-- what was noted is what was logged since
pub noted-first : (past now before : List Event) (old new : Option Content) → before ≡ told_history old → now ≡ past ++ unflushed (drop (length before) (told_history new)) → now ≡ past ++ unflushed (seen old new)
noted-first past now before old new was is = is ∙ ap (λ (l : List Event). past ++ unflushed (drop (length l) (told_history new))) was

pub noted-second : (size : ℕ) (past now before : List Event) (old new : Option Content) → before ≡ told_history old → now ≡ past ++ moved size (unflushed (drop (length before) (told_history new))) → now ≡ past ++ moved size (unflushed (seen old new))
noted-second size past now before old new was is = is ∙ ap (λ (l : List Event). past ++ moved size (unflushed (drop (length l) (told_history new)))) was

-- the two as one
pub record IsWhole (past : List Event) (a b whole : DiskState) : Type 0 where
  pub content : whole.content ≡ joined_content past a.content b.content
  pub size : whole.size ≡ a.size + b.size
  pub shows : whole.shows ≡ false
  pub faults : whole.faults ≡ a.faults + b.faults

module _ (past now : List Event) (a new b old_whole whole : DiskState) (was : IsWhole past a b old_whole) (is : IsWhole now new b whole) where
  pub first-logs : (events : List Event) → AreWrites events → now ≡ past ++ unflushed (seen a.content new.content) → Logs events a new → Logs events old_whole whole
  first-logs events are noted logs =
      let all : take (length events) events ≡ events = take-length events in
      let grew : new.content ≡ logged (take (length events) events) a.content = logs.content ∙ ap (λ (l : List Event). logged l a.content) (sym all) in
      record {
        content =
            is.content ∙ ap (λ (l : List Event). joined_content l new.content b.content) noted
            ∙ first-content past events a.content new.content b.content (length events) are grew
            ∙ (λ i. logged (all i) (sym was.content i));
        size = is.size ∙ ap (λ (m : ℕ). m + b.size) logs.size ∙ sym was.size;
        shows = is.shows ∙ sym was.shows;
        faults = omega (arith, was.faults, is.faults, logs.faults);
      }

  pub first-fails : (events : List Event) → AreWrites events → now ≡ past ++ unflushed (seen a.content new.content) → FailsIn events a new → FailsIn events old_whole whole
  first-fails events are noted fails = record {
    count = fails.count;
    within = fails.within;
    logs = record {
      content =
          is.content ∙ ap (λ (l : List Event). joined_content l new.content b.content) noted
          ∙ first-content past events a.content new.content b.content fails.count are fails.logs.content
          ∙ ap (logged (take fails.count events)) (sym was.content);
      size = is.size ∙ ap (λ (m : ℕ). m + b.size) fails.logs.size ∙ sym was.size;
      shows = is.shows ∙ sym was.shows;
      faults = omega (arith, was.faults, is.faults, fails.logs.faults);
    };
    rose = omega (arith, was.faults, is.faults, fails.rose);
  }

length-moved : (by : ℕ) (events : List Event) → length (moved by events) ≡ length events
length-moved by [] = refl
length-moved by (Write n bytes ∷ events) = ap suc (length-moved by events)
length-moved by (Flush ∷ events) = ap suc (length-moved by events)

module _ (past now : List Event) (a b new old_whole whole : DiskState) (was : IsWhole past a b old_whole) (is : IsWhole now a new whole) where
  pub second-logs : (size : ℕ) (events all : List Event) → AreWrites events → moved size events ≡ all → now ≡ past ++ moved size (unflushed (seen b.content new.content)) → Logs events b new → Logs all old_whole whole
  second-logs size events all are same noted logs =
      let whole_list : take (length events) events ≡ events = take-length events in
      let grew : new.content ≡ logged (take (length events) events) b.content = logs.content ∙ ap (λ (l : List Event). logged l b.content) (sym whole_list) in
      let moves : take (length events) (moved size events) ≡ all = sym (take-moved size (length events) events) ∙ ap (moved size) whole_list ∙ same in
      record {
        content =
            is.content ∙ ap (λ (l : List Event). joined_content l a.content new.content) noted
            ∙ second-content size size past events b.content new.content a.content (length events) refl are grew
            ∙ (λ i. logged (moves i) (sym was.content i));
        size = is.size ∙ ap (λ (m : ℕ). a.size + m) logs.size ∙ sym was.size;
        shows = is.shows ∙ sym was.shows;
        faults = omega (arith, was.faults, is.faults, logs.faults);
      }

  pub second-fails : (size : ℕ) (events all : List Event) → AreWrites events → moved size events ≡ all → now ≡ past ++ moved size (unflushed (seen b.content new.content)) → FailsIn events b new → FailsIn all old_whole whole
  second-fails size events all are same noted fails = record {
    count = fails.count;
    within = omega (arith, fails.within, length-moved size events, ap length same);
    logs = record {
      content =
          is.content ∙ ap (λ (l : List Event). joined_content l a.content new.content) noted
          ∙ second-content size size past events b.content new.content a.content fails.count refl are fails.logs.content
          ∙ (λ i. logged (take fails.count (same i)) (sym was.content i));
      size = is.size ∙ ap (λ (m : ℕ). a.size + m) fails.logs.size ∙ sym was.size;
      shows = is.shows ∙ sym was.shows;
      faults = omega (arith, was.faults, is.faults, fails.logs.faults);
    };
    rose = omega (arith, was.faults, is.faults, fails.rose);
  }

-- ---- a flush of each

module _ (past : List Event) where
  pub flush-first-fits : (a new b : DiskState) → Part (Flush ∷ []) a new → FitsSize (a.size + b.size) (joined_content past a.content b.content) → FitsSize (new.size + b.size) (joined_content past new.content b.content)
  flush-first-fits a new b part fits =
      let P : ℕ → Option Content → Type 0 = λ size told. FitsSize (size + b.size) (joined_content past told b.content) in
      subst₂ P (sym part.size) (sym part.content) (subst (FitsSize (a.size + b.size)) (sym (joined-first past (take part.count (Flush ∷ [])) a.content b.content)) fits)

  pub flush-second-fits : (a b new : DiskState) → Part (Flush ∷ []) b new → FitsSize (a.size + b.size) (joined_content past a.content b.content) → FitsSize (a.size + new.size) (joined_content past a.content new.content)
  flush-second-fits a b new part fits =
      let P : ℕ → Option Content → Type 0 = λ size told. FitsSize (a.size + size) (joined_content past a.content told) in
      subst₂ P (sym part.size) (sym part.content) (subst (FitsSize (a.size + b.size)) (sym (joined-second past (take part.count (Flush ∷ [])) a.content b.content)) fits)

  pub flush-first-covers : (a new b : DiskState) → Part (Flush ∷ []) a new → CoversBoth a.size a.content b.content (joined_content past a.content b.content) → CoversBoth new.size new.content b.content (joined_content past new.content b.content)
  flush-first-covers a new b part covers =
      let events : List Event = take part.count (Flush ∷ []) in
      let P : ℕ → Option Content → Type 0 = λ size told. CoversBoth size told b.content (joined_content past told b.content) in
      let own : FitsSize a.size (logged events a.content) = subst₂ FitsSize part.size part.content new.well_formed.fits in
      let above : logged (unflushed events) (joined_content past a.content b.content) ≡ joined_content past (logged events a.content) b.content =
      ap (λ (l : List Event). logged l (joined_content past a.content b.content)) (flush-unflushed part.count) ∙ logged-none (joined_content past a.content b.content) ∙ sym (joined-first past events a.content b.content) in
      subst₂ P (sym part.size) (sym part.content)
      (subst (CoversBoth a.size (logged events a.content) b.content) above (covers-first a.size events a.content b.content (joined_content past a.content b.content) own covers))

  pub flush-second-covers : (a b new : DiskState) → Part (Flush ∷ []) b new → CoversBoth a.size a.content b.content (joined_content past a.content b.content) → CoversBoth a.size a.content new.content (joined_content past a.content new.content)
  flush-second-covers a b new part covers =
      let events : List Event = take part.count (Flush ∷ []) in
      let P : Option Content → Type 0 = λ told. CoversBoth a.size a.content told (joined_content past a.content told) in
      let above : logged (moved a.size (unflushed events)) (joined_content past a.content b.content) ≡ joined_content past a.content (logged events b.content) =
      ap (λ (l : List Event). logged (moved a.size l) (joined_content past a.content b.content)) (flush-unflushed part.count) ∙ logged-none (joined_content past a.content b.content) ∙ sym (joined-second past events a.content b.content) in
      subst P (sym part.content)
      (subst (CoversBoth a.size a.content (logged events b.content)) above (covers-second a.size events a.content b.content (joined_content past a.content b.content) covers))

  flush-now : (a b : Option Content) → joined_content (past ++ Flush ∷ []) (logged (Flush ∷ []) a) (logged (Flush ∷ []) b) ≡ logged (Flush ∷ []) (joined_content past a b)
  flush-now a b =
      joined-first (past ++ Flush ∷ []) (Flush ∷ []) a (logged (Flush ∷ []) b) ∙ joined-second (past ++ Flush ∷ []) (Flush ∷ []) a b ∙ joined-more past (Flush ∷ []) a b

  flush-fitting : (size : ℕ) (told : Option Content) → FitsSize size told → FitsSize size (logged (Flush ∷ []) told)
  flush-fitting size told fits = fits-more size (Flush ∷ []) told (All-cons (IsEventOf size) Flush [] tt (All-nil (IsEventOf size))) fits

  module _ (now : List Event) (a new_a b new_b : DiskState) (one : Logs (Flush ∷ []) a new_a) (other : Logs (Flush ∷ []) b new_b) (noted : now ≡ past ++ Flush ∷ []) where
    pub flush-content : joined_content now new_a.content new_b.content ≡ logged (Flush ∷ []) (joined_content past a.content b.content)
    flush-content = (λ i. joined_content (noted i) (one.content i) (other.content i)) ∙ flush-now a.content b.content

    pub both-fit : FitsSize (a.size + b.size) (joined_content past a.content b.content) → FitsSize (new_a.size + new_b.size) (joined_content now new_a.content new_b.content)
    both-fit fits =
        let size : a.size + b.size ≡ new_a.size + new_b.size = λ i. sym one.size i + sym other.size i in
        subst₂ FitsSize size (sym flush-content) (flush-fitting (a.size + b.size) (joined_content past a.content b.content) fits)

    pub both-cover : CoversBoth a.size a.content b.content (joined_content past a.content b.content) → CoversBoth new_a.size new_a.content new_b.content (joined_content now new_a.content new_b.content)
    both-cover covers =
        let here = covers-flush a.size a.content b.content (joined_content past a.content b.content) covers in
        let P : ℕ → Option Content → Type 0 = λ size told. CoversBoth size told (logged (Flush ∷ []) b.content) (logged (Flush ∷ []) (joined_content past a.content b.content)) in
        let Q : Option Content → Option Content → Type 0 = λ told above. CoversBoth new_a.size new_a.content told above in
        subst₂ Q (sym other.content) (sym flush-content) (subst₂ P (sym one.size) (sym one.content) here)
