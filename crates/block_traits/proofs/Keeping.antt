-- What sectors may hold whenever power fails, from what the events write.
use Rattle.std.proofs.Common.{◌≡◌, ℕ, zero, suc, ◌+◌, ◌-◌, ◌<◌, ◌≤◌, ◌==◌, List, [], ◌∷◌, ◌++◌, length, take, get_or, refl, ap, sym, subst, ◌∙◌, arith, cond, true, false, Bool, All, Contains, Option, Some, None, inl, inr}
use Rattle.std.proofs.lemmas.Bool.{eqb-true}
use Rattle.std.proofs.lemmas.List.Elements.{All-nil, All-cons, All-head, All-tail, All-push, All-take, All-weaker, All-contains_itself}
use Rattle.std.proofs.Math.Seq.{take-append-add, take-length, drop-append_seam}
use Rattle.block_traits.specs.declared.disk.Event.{Event}
use Rattle.block_traits.specs.declared.disk.Event.TheVariants.{Write, Flush}
use Rattle.block_traits.specs.Content.{Content, last_of, kept_after, kept_values, at_moment, with_events, logged}
use Rattle.block_traits.specs.Disk.{DiskState, Logs, FailsIn}
use Rattle.block_traits.specs.Moments.{AtEachMoment, IsFlushedSince, IsOldOr, HoldsOldOr, WaitsForFlush}
use Rattle.block_traits.proofs.Contents.{last_of-push, kept_after-append, some-kept_after}

-- what an event writes to sector n, P holds of
abbrev pub WritesHere : (List ℕ → Type 0) → ℕ → Event → Type 0
WritesHere P n (Write m new) = m ≡ n → P new
WritesHere P n Flush = Unit {0}

-- what holds of all values holds of the last
All-last_of : (P : List ℕ → Type 0) (values : List (List ℕ)) → 0 < length values → All P values → P (last_of values)
All-last_of P [] some all = absurd (omega arith)
All-last_of P (value ∷ []) some all = All-head P value [] all
All-last_of P (value ∷ next ∷ values) some all = All-last_of P (next ∷ values) (omega arith) (All-tail P value (next ∷ values) all)

-- P holds of the values, and of their last
pub record AllHold (P : List ℕ → Type 0) (values : List (List ℕ)) : Type 0 where
  pub all : All P values
  pub last : P (last_of values)

pub AllHold-one : (P : List ℕ → Type 0) (value : List ℕ) → P value → AllHold P (value ∷ [])
AllHold-one P value one = record { all = All-cons P value [] one (All-nil P); last = one }

AllHold-some : (P : List ℕ → Type 0) (values : List (List ℕ)) → 0 < length values → All P values → AllHold P values
AllHold-some P values some all = record { all = all; last = All-last_of P values some all }

-- P holds still after a write that may be to this sector, if it holds of what is written there
AllHold-written : (here : Bool) (P : List ℕ → Type 0) (values : List (List ℕ)) (value : List ℕ) → AllHold P values → (here ≡ true → P value) → AllHold P (cond here (values ++ value ∷ []) values)
AllHold-written true P values value many one = record {
  all = All-push P values value many.all (one refl);
  last = subst P (sym (last_of-push values value)) (one refl);
}
AllHold-written false P values value many one = many

pub AllHold-kept_after : (events : List Event) (P : List ℕ → Type 0) (n : ℕ) (values : List (List ℕ)) → All (WritesHere P n) events → AllHold P values → AllHold P (kept_after events n values)
AllHold-kept_after [] P n values only many = many
AllHold-kept_after (Write m value ∷ events) P n values only many =
    AllHold-kept_after events P n (cond (m == n) (values ++ value ∷ []) values) (All-tail (WritesHere P n) (Write m value) events only)
    (AllHold-written (m == n) P values value many (λ here. All-head (WritesHere P n) (Write m value) events only (eqb-true m n here)))
AllHold-kept_after (Flush ∷ events) P n values only many =
    AllHold-kept_after events P n (last_of values ∷ []) (All-tail (WritesHere P n) Flush events only) (AllHold-one P (last_of values) many.last)

pub kept_values-more : (c : Content) (events : List Event) (n : ℕ) → kept_values (with_events events c) n ≡ kept_after events n (kept_values c n)
kept_values-more c events n = kept_after-append c.history events n (get_or c.base n [] ∷ [])

-- the events since a content are those that followed
pub flushed-more : (c : Content) (events : List Event) → IsFlushedSince c (with_events events c) → Contains events Flush
flushed-more c events = subst (λ (since : List Event). Contains since Flush) (drop-append_seam c.history events)

since-more : (c : Content) (events : List Event) → Contains events Flush → IsFlushedSince c (with_events events c)
since-more c events = subst (λ (since : List Event). Contains since Flush) (sym (drop-append_seam c.history events))

-- the first of the first events are the first of all
take_of_take : (a b : ℕ) (events : List Event) → (k : ℕ) × (take a (take b events) ≡ take k events)
take_of_take zero b events = (0, refl)
take_of_take (suc a) zero events = (0, refl)
take_of_take (suc a) (suc b) [] = (0, refl)
take_of_take (suc a) (suc b) (event ∷ events) =
    let rest = take_of_take a b events in (suc rest.0, ap (λ (more : List Event). event ∷ more) rest.1)

-- the content at a moment has the first of the events since
at_moment-more : (c : Content) (events : List Event) (count moment : ℕ) → length c.history ≤ moment
    → (k : ℕ) × (at_moment moment (with_events (take count events) c) ≡ with_events (take k events) c)
at_moment-more c events count moment later =
    let since : ℕ = moment - length c.history in
    let e : length c.history + since ≡ moment = omega arith in
    let P : ℕ → Type 0 = λ m. take m (c.history ++ take count events) ≡ c.history ++ take since (take count events) in
    let cut : take moment (c.history ++ take count events) ≡ c.history ++ take since (take count events) = subst P e (take-append-add c.history (take count events) since) in
    let first = take_of_take since count events in
    (first.0, ap (λ (h : List Event). record { base = c.base; history = h }) (cut ∙ ap (λ (more : List Event). c.history ++ more) first.1))

-- what holds however many of the events were logged holds at each moment of them
pub AtEachMoment-part : (Holds : Content → Content → Type 0) (events : List Event) (count : ℕ) (old new : Option Content)
    → ((c : Content) (k : ℕ) → old ≡ Some c → Holds c (with_events (take k events) c)) → new ≡ logged (take count events) old → AtEachMoment Holds old new
AtEachMoment-part Holds events count None new each e = tt
AtEachMoment-part Holds events count (Some c) new each e =
    rw e (λ moment later. let first = at_moment-more c events count moment later in subst (Holds c) (sym first.1) (each c first.0 refl))

pub AtEachMoment-Logs : (Holds : Content → Content → Type 0) (events : List Event) (old new : DiskState)
    → ((c : Content) (k : ℕ) → old.content ≡ Some c → Holds c (with_events (take k events) c)) → Logs events old new → AtEachMoment Holds old.content new.content
AtEachMoment-Logs Holds events old new each logs =
    AtEachMoment-part Holds events (length events) old.content new.content each (logs.content ∙ ap (λ (es : List Event). logged es old.content) (sym (take-length events)))

pub AtEachMoment-FailsIn : (Holds : Content → Content → Type 0) (events : List Event) (old new : DiskState)
    → ((c : Content) (k : ℕ) → old.content ≡ Some c → Holds c (with_events (take k events) c)) → FailsIn events old new → AtEachMoment Holds old.content new.content
AtEachMoment-FailsIn Holds events old new each fails = AtEachMoment-part Holds events fails.count old.content new.content each fails.logs.content

old_or : (P : List ℕ → Type 0) (old : List (List ℕ)) (n : ℕ) (event : Event) → WritesHere P n event → WritesHere (IsOldOr P old) n event
old_or P old n (Write m value) only = λ here. inr (only here)
old_or P old n Flush only = tt

-- there is a value that a sector may hold
some-kept_values : (c : Content) (n : ℕ) → 0 < length (kept_values c n)
some-kept_values c n = some-kept_after c.history n (get_or c.base n [] ∷ []) (omega arith)

All-writes : (P : List ℕ → Type 0) (old : List (List ℕ)) (n : ℕ) (events : List Event) → All (WritesHere P n) events → All (WritesHere (IsOldOr P old) n) events
All-writes P old n events only = All-weaker (WritesHere P n) (WritesHere (IsOldOr P old) n) (old_or P old n) events only

-- events that write to sector n only what P holds of leave there what it held, or such
pub HoldsOldOr-more : (P : List ℕ → Type 0) (n : ℕ) (events : List Event) → All (WritesHere P n) events
    → (c : Content) (k : ℕ) → HoldsOldOr P n c (with_events (take k events) c)
HoldsOldOr-more P n events only c k =
    let old : List (List ℕ) = kept_values c n in
    let Q : List ℕ → Type 0 = IsOldOr P old in
    let itself = All-contains_itself old in
    let start : AllHold Q old = AllHold-some Q old (some-kept_values c n) (λ i d small. inl (itself i d small)) in
    let writes : All (WritesHere Q n) (take k events) = All-take (WritesHere Q n) k events (All-writes P old n events only) in
    rw (kept_values-more c (take k events) n) (AllHold-kept_after (take k events) Q n old writes start).all

-- events that begin with a flush leave all as it was until one landed
pub WaitsForFlush-more : (events : List Event) (c : Content) (k : ℕ) → WaitsForFlush c (with_events (take k (Flush ∷ events)) c)
WaitsForFlush-more events c zero none n = rw (kept_values-more c [] n) (All-contains_itself (kept_values c n))
WaitsForFlush-more events c (suc k) none n =
    absurd (none (since-more c (Flush ∷ take k events) (0, omega arith, refl)))
