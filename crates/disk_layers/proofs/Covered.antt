-- What covers other values covers them still after more events.
use Rattle.std.proofs.Common.{◌≡◌, ℕ, zero, suc, ◌+◌, ◌-◌, ◌<◌, ◌≤◌, ◌==◌, Bool, true, false, cond, List, [], ◌∷◌, ◌++◌, length, take, get_or, refl, sym, ap, ◌∙◌, subst, subst₂, inl, inr, arith, eq-eqb, ne_eqb, IsTrue, All, Option, Some, None, length-append, bytes_eq}
use Rattle.std.proofs.lemmas.Bool.{false≢true, eqb-true, eqb-false, or_cases, or_left, or_right}
use Rattle.std.proofs.lemmas.List.Elements.{All-nil, All-cons, All-head, All-tail, All-push, All-weaker}
use Rattle.std.proofs.lemmas.Slice.Eq.{bytes_eq-Decides}
use Rattle.block_traits.specs.declared.disk.Event.{Event}
use Rattle.block_traits.specs.declared.disk.Event.TheVariants.{Write, Flush}
use Rattle.block_traits.specs.Content.{Content, IsEventOf, kept_after, kept_values, last_of, logged, present, with_events}
use Rattle.block_traits.proofs.Contents.{last_of-push, last_of-kept_values, some-kept_after}
use Rattle.block_traits.proofs.Keeping.{kept_values-more}
use Rattle.disk_layers.specs.Covering.{CoversContent, CoversTold, CoversValues, KeepsNoMore, is_one_of}
use Rattle.disk_layers.specs.History.{moved, unflushed}
use Rattle.disk_layers.specs.Waiting.{writes_of}
use Rattle.disk_layers.specs.declared.write_behind.Waiting.{Waiting}

-- ---- values among others

among-first : (value : List ℕ) (values : List (List ℕ)) → is_one_of (value ∷ values) value ≡ true
among-first value values = or_left (bytes_eq value value) (is_one_of values value) ((bytes_eq-Decides value value).1 refl)

among-next : (first value : List ℕ) (values : List (List ℕ)) → is_one_of values value ≡ true → is_one_of (first ∷ values) value ≡ true
among-next first value values is = or_right (bytes_eq first value) (is_one_of values value) is

among-more : (values more : List (List ℕ)) (value : List ℕ) → is_one_of values value ≡ true → is_one_of (values ++ more) value ≡ true
among-more [] more value is = absurd (false≢true is)
among-more (first ∷ values) more value is = elim (or_cases (bytes_eq first value) (is_one_of values value) is) [
  | inl here ↦ or_left (bytes_eq first value) (is_one_of (values ++ more) value) here
  | inr there ↦ among-next first value (values ++ more) (among-more values more value there)
]

among-push : (values : List (List ℕ)) (value : List ℕ) → is_one_of (values ++ value ∷ []) value ≡ true
among-push [] value = among-first value []
among-push (first ∷ values) value = among-next first value (values ++ value ∷ []) (among-push values value)

among-last : (values : List (List ℕ)) → 0 < length values → is_one_of values (last_of values) ≡ true
among-last [] some = absurd (omega arith)
among-last (value ∷ []) some = among-first value []
among-last (value ∷ next ∷ values) some = among-next value (last_of (next ∷ values)) (next ∷ values) (among-last (next ∷ values) (omega arith))

among_itself : (values : List (List ℕ)) → All (λ value. IsTrue (is_one_of values value)) values
among_itself [] = All-nil (λ value. IsTrue (is_one_of [] value))
among_itself (first ∷ values) =
    let P : List ℕ → Type 0 = λ value. IsTrue (is_one_of (first ∷ values) value) in
    let Q : List ℕ → Type 0 = λ value. IsTrue (is_one_of values value) in
    All-cons P first values (among-first first values) (All-weaker Q P (λ value is. among-next first value values is) values (among_itself values))

-- each value among some that are among others is one of the others
among-through : (middle above : List (List ℕ)) (value : List ℕ) → All (λ v. IsTrue (is_one_of above v)) middle → is_one_of middle value ≡ true → is_one_of above value ≡ true
among-through [] above value all is = absurd (false≢true is)
among-through (first ∷ middle) above value all is =
    let P : List ℕ → Type 0 = λ v. IsTrue (is_one_of above v) in
    elim (or_cases (bytes_eq first value) (is_one_of middle value) is) [
      | inl here ↦ subst P ((bytes_eq-Decides first value).0 here) (All-head P first middle all)
      | inr there ↦ among-through middle above value (All-tail P first middle all) there
    ]

-- ---- covering

pub covers_itself : (values : List (List ℕ)) → CoversValues values values
covers_itself values = record { last = refl; among = among_itself values; several = λ more. more }

pub covers_through : (below middle above : List (List ℕ)) → CoversValues below middle → CoversValues middle above → CoversValues below above
covers_through below middle above one two =
    let P : List ℕ → Type 0 = λ v. IsTrue (is_one_of middle v) in
    let Q : List ℕ → Type 0 = λ v. IsTrue (is_one_of above v) in
    record {
      last = one.last ∙ two.last;
      among = All-weaker P Q (λ v is. among-through middle above v two.among is) below one.among;
      several = λ more. two.several (one.several more);
    }

-- a write above and below
covers_push : (below above : List (List ℕ)) (value : List ℕ) → 0 < length above → CoversValues below above → CoversValues (below ++ value ∷ []) (above ++ value ∷ [])
covers_push below above value some covers =
    let P : List ℕ → Type 0 = λ v. IsTrue (is_one_of above v) in
    let Q : List ℕ → Type 0 = λ v. IsTrue (is_one_of (above ++ value ∷ []) v) in
    record {
      last = last_of-push below value ∙ sym (last_of-push above value);
      among = All-push Q below value (All-weaker P Q (λ v is. among-more above (value ∷ []) v is) below covers.among) (among-push above value);
      several = λ more. omega (arith, length-append above (value ∷ []));
    }

covers_written : (here : Bool) (below above : List (List ℕ)) (value : List ℕ) → 0 < length above → CoversValues below above
    → CoversValues (cond here (below ++ value ∷ []) below) (cond here (above ++ value ∷ []) above)
covers_written true below above value some covers = covers_push below above value some covers
covers_written false below above value some covers = covers

some_written : (here : Bool) (values : List (List ℕ)) (value : List ℕ) → 0 < length values → 0 < length (cond here (values ++ value ∷ []) values)
some_written true values value some = omega (arith, length-append values (value ∷ []))
some_written false values value some = some

-- a flush below alone
pub covers_last : (below above : List (List ℕ)) → 0 < length above → CoversValues below above → CoversValues (last_of below ∷ []) above
covers_last below above some covers =
    let P : List ℕ → Type 0 = λ v. IsTrue (is_one_of above v) in
    record {
      last = covers.last;
      among = All-cons P (last_of below) [] (subst P (sym covers.last) (among-last above some)) (All-nil P);
      several = λ more. absurd (omega arith);
    }

-- a flush above and below
covers_flush : (below above : List (List ℕ)) → CoversValues below above → CoversValues (last_of below ∷ []) (last_of above ∷ [])
covers_flush below above covers =
    let P : List ℕ → Type 0 = λ v. IsTrue (is_one_of (last_of above ∷ []) v) in
    record {
      last = covers.last;
      among = All-cons P (last_of below) [] (subst P (sym covers.last) (among-first (last_of above) [])) (All-nil P);
      several = λ more. more;
    }

-- one write that was done twice below
pub covers_twice : (values : List (List ℕ)) (value : List ℕ) → 0 < length values → CoversValues ((values ++ value ∷ []) ++ value ∷ []) (values ++ value ∷ [])
covers_twice values value some =
    let P : List ℕ → Type 0 = λ v. IsTrue (is_one_of (values ++ value ∷ []) v) in
    record {
      last = last_of-push (values ++ value ∷ []) value ∙ sym (last_of-push values value);
      among = All-push P (values ++ value ∷ []) value (among_itself (values ++ value ∷ [])) (among-push values value);
      several = λ more. omega (arith, length-append values (value ∷ []));
    }

-- events above and below
pub covers_events : (events : List Event) (n : ℕ) (below above : List (List ℕ)) → 0 < length above → CoversValues below above → CoversValues (kept_after events n below) (kept_after events n above)
covers_events [] n below above some covers = covers
covers_events (Write m value ∷ events) n below above some covers =
    covers_events events n (cond (m == n) (below ++ value ∷ []) below) (cond (m == n) (above ++ value ∷ []) above) (some_written (m == n) above value some)
    (covers_written (m == n) below above value some covers)
covers_events (Flush ∷ events) n below above some covers = covers_events events n (last_of below ∷ []) (last_of above ∷ []) (omega arith) (covers_flush below above covers)

-- events below, of which the writes alone are above
pub covers_unflushed : (events : List Event) (n : ℕ) (below above : List (List ℕ)) → 0 < length above → CoversValues below above → CoversValues (kept_after events n below) (kept_after (unflushed events) n above)
covers_unflushed [] n below above some covers = covers
covers_unflushed (Write m value ∷ events) n below above some covers =
    covers_unflushed events n (cond (m == n) (below ++ value ∷ []) below) (cond (m == n) (above ++ value ∷ []) above) (some_written (m == n) above value some)
    (covers_written (m == n) below above value some covers)
covers_unflushed (Flush ∷ events) n below above some covers = covers_unflushed events n (last_of below ∷ []) above some (covers_last below above some covers)

-- ---- writes of other sectors

-- of sectors below a size
pub kept_behind : (size n : ℕ) (events : List Event) (values : List (List ℕ)) → size ≤ n → All (IsEventOf size) events → kept_after (unflushed events) n values ≡ values
kept_behind size n [] values behind fit = refl
kept_behind size n (Write m value ∷ events) values behind fit =
    let small = All-head (IsEventOf size) (Write m value) events fit in
    let other : (m == n) ≡ false = ne_eqb m n (λ e. let here = small.0 in omega arith) in
    ap (λ (b : Bool). kept_after (unflushed events) n (cond b (values ++ value ∷ []) values)) other
    ∙ kept_behind size n events values behind (All-tail (IsEventOf size) (Write m value) events fit)
kept_behind size n (Flush ∷ events) values behind fit = kept_behind size n events values behind (All-tail (IsEventOf size) Flush events fit)

-- of sectors from a size on
pub kept_before : (size n : ℕ) (events : List Event) (values : List (List ℕ)) → n < size → kept_after (moved size (unflushed events)) n values ≡ values
kept_before size n [] values small = refl
kept_before size n (Write m value ∷ events) values small =
    let other : ((m + size) == n) ≡ false = ne_eqb (m + size) n (λ e. omega arith) in
    ap (λ (b : Bool). kept_after (moved size (unflushed events)) n (cond b (values ++ value ∷ []) values)) other
    ∙ kept_before size n events values small
kept_before size n (Flush ∷ events) values small = kept_before size n events values small

same_place : (size n m : ℕ) (here : Bool) → size ≤ n → (m == (n - size)) ≡ here → ((m + size) == n) ≡ here
same_place size n m true behind test = let same = eqb-true m (n - size) test in eq-eqb (m + size) n (omega arith)
same_place size n m false behind test = ne_eqb (m + size) n (λ e. eqb-false m (n - size) test (omega arith))

pub kept_moved : (size n : ℕ) (events : List Event) (values : List (List ℕ)) → size ≤ n → kept_after (moved size events) n values ≡ kept_after events (n - size) values
kept_moved size n [] values behind = refl
kept_moved size n (Write m value ∷ events) values behind =
    ap (λ (b : Bool). kept_after (moved size events) n (cond b (values ++ value ∷ []) values)) (same_place size n m (m == (n - size)) behind refl)
    ∙ kept_moved size n events (cond (m == (n - size)) (values ++ value ∷ []) values) behind
kept_moved size n (Flush ∷ events) values behind = kept_moved size n events (last_of values ∷ []) behind

-- ---- contents

pub some_kept : (c : Content) (n : ℕ) → 0 < length (kept_values c n)
some_kept c n = some-kept_after c.history n (get_or c.base n [] ∷ []) (omega arith)

pub Covers_through : (below middle above : Option Content) → CoversTold below middle → CoversTold middle above → CoversTold below above
Covers_through None middle above one two = tt
Covers_through (Some b) None above one two = absurd one
Covers_through (Some b) (Some m) None one two = absurd two
Covers_through (Some b) (Some m) (Some a) one two = λ n. covers_through (kept_values b n) (kept_values m n) (kept_values a n) (one n) (two n)

pub Covers_itself : (told : Option Content) → CoversTold told told
Covers_itself None = tt
Covers_itself (Some c) = λ n. covers_itself (kept_values c n)

pub Covers_logged : (events : List Event) (below above : Option Content) → CoversTold below above → CoversTold (logged events below) (logged events above)
Covers_logged events None above covers = tt
Covers_logged events (Some b) None covers = absurd covers
Covers_logged events (Some b) (Some a) covers = λ n.
    subst₂ CoversValues (sym (kept_values-more b events n)) (sym (kept_values-more a events n)) (covers_events events n (kept_values b n) (kept_values a n) (some_kept a n) (covers n))

-- ---- at each moment of a call

pub within_covers : (below above : List (List ℕ)) → CoversValues below above → KeepsNoMore below above
within_covers below above covers = record { among = covers.among; several = covers.several }

pub within_through : (below middle above : List (List ℕ)) → KeepsNoMore below middle → KeepsNoMore middle above → KeepsNoMore below above
within_through below middle above one two =
    let P : List ℕ → Type 0 = λ v. IsTrue (is_one_of middle v) in
    let Q : List ℕ → Type 0 = λ v. IsTrue (is_one_of above v) in
    record {
      among = All-weaker P Q (λ v is. among-through middle above v two.among is) below one.among;
      several = λ more. two.several (one.several more);
    }

pub within_itself : (values : List (List ℕ)) → KeepsNoMore values values
within_itself values = within_covers values values (covers_itself values)

within_written : (here : Bool) (values : List (List ℕ)) (value : List ℕ) → KeepsNoMore values (cond here (values ++ value ∷ []) values)
within_written true values value =
    let P : List ℕ → Type 0 = λ v. IsTrue (is_one_of values v) in
    let Q : List ℕ → Type 0 = λ v. IsTrue (is_one_of (values ++ value ∷ []) v) in
    record {
      among = All-weaker P Q (λ v is. among-more values (value ∷ []) v is) values (among_itself values);
      several = λ more. omega (arith, length-append values (value ∷ []));
    }
within_written false values value = within_itself values

-- more writes
within_writes : (waiting : List Waiting) (n : ℕ) (values : List (List ℕ)) → KeepsNoMore values (kept_after (writes_of waiting) n values)
within_writes [] n values = within_itself values
within_writes (write ∷ waiting) n values =
    let next : List (List ℕ) = cond (write.n == n) (values ++ write.bytes ∷ []) values in
    within_through values next (kept_after (writes_of waiting) n next) (within_written (write.n == n) values write.bytes) (within_writes waiting n next)

flushed_within : (values : List (List ℕ)) → 0 < length values → KeepsNoMore (last_of values ∷ []) values
flushed_within values some = within_covers (last_of values ∷ []) values (covers_last values values some (covers_itself values))

moment : (waiting : List Waiting) (count n : ℕ) (values : List (List ℕ)) → 0 < length values
    → KeepsNoMore (kept_after (take count (writes_of waiting ++ Flush ∷ [])) n values) (kept_after (writes_of waiting) n values)
moment waiting zero n values some = within_writes waiting n values
moment [] (suc zero) n values some = flushed_within values some
moment [] (suc (suc count)) n values some = flushed_within values some
moment (write ∷ waiting) (suc count) n values some =
    moment waiting count n (cond (write.n == n) (values ++ write.bytes ∷ []) values) (some_written (write.n == n) values write.bytes some)

-- while what waits is written, and then flushed
pub each_moment : (c above : Content) (waiting : List Waiting) (count n : ℕ) → CoversContent (with_events (writes_of waiting) c) above
    → KeepsNoMore (kept_values (with_events (take count (writes_of waiting ++ Flush ∷ [])) c) n) (kept_values above n)
each_moment c above waiting count n covers =
    let here : List Event = take count (writes_of waiting ++ Flush ∷ []) in
    within_through (kept_values (with_events here c) n) (kept_values (with_events (writes_of waiting) c) n) (kept_values above n)
    (subst₂ KeepsNoMore (sym (kept_values-more c here n)) (sym (kept_values-more c (writes_of waiting) n)) (moment waiting count n (kept_values c n) (some_kept c n)))
    (within_covers (kept_values (with_events (writes_of waiting) c) n) (kept_values above n) (covers n))

-- ---- reading

-- what stands above is what stands below
pub present-covered-at : (below above : Content) (m n : ℕ) → CoversValues (kept_values below m) (kept_values above n) → present below m ≡ present above n
present-covered-at below above m n covers = sym (last_of-kept_values below m) ∙ covers.last ∙ last_of-kept_values above n

pub present-covered : (below above : Content) (n : ℕ) → CoversValues (kept_values below n) (kept_values above n) → present below n ≡ present above n
present-covered below above n covers = sym (last_of-kept_values below n) ∙ covers.last ∙ last_of-kept_values above n
