-- What a sector holds while it is written over.
use Rattle.std.proofs.Common.{◌≡◌, ℕ, zero, suc, ◌+◌, ◌*◌, ◌<◌, ◌≤◌, ◌==◌, List, [], ◌∷◌, ◌++◌, length, take, drop, replicate, get_or, add-one, drop-cons, refl, ap, sym, subst, ◌∙◌, arith, cond, true, Bool, All, Contains, Option, Some, None, length-drop}
use Rattle.std.proofs.lemmas.List.{length-take-le, length-replicate}
use Rattle.std.proofs.lemmas.Bool.{eq-eqb}
use Rattle.std.proofs.lemmas.List.Elements.{All-nil, All-cons, All-head, All-tail, All-take, All-contains}
use Rattle.block_traits.specs.declared.disk.Event.{Event}
use Rattle.block_traits.specs.declared.disk.Event.TheVariants.{Write, Flush}
use Rattle.block_traits.specs.Content.{Content, last_of, kept_after, kept_values, logged, with_events}
use Rattle.block_traits.specs.Disk.{DiskState, Continues, FailsIn, Logs}
use Rattle.block_traits.specs.Moments.{AtEachMoment, HoldsOldOr, HoldsOnceFlushed, KeepsAlone, KeepsOldOr}
use Rattle.block_traits.specs.Overwriting.{overwrite_events, passes_of, piece_of, zeros}
use Rattle.block_traits.proofs.Contents.{last_of-push}
use Rattle.block_traits.proofs.Logs.{Continues-then, FailsIn-part}
use Rattle.block_traits.proofs.Keeping.{AtEachMoment-FailsIn, AtEachMoment-Logs, HoldsOldOr-more, WritesHere, AllHold, AllHold-one, AllHold-kept_after, flushed-more, kept_values-more}

-- what the events write to sector n, P holds of, if it holds of the values or they are written elsewhere
pub WritesHere-overwrite : (P : List ℕ → Type 0) (n place : ℕ) (values : List (List ℕ)) → (place ≡ n → All P values) → All (WritesHere P n) (overwrite_events place values)
WritesHere-overwrite P n place [] all = All-nil (WritesHere P n)
WritesHere-overwrite P n place (value ∷ values) all =
    let Q = WritesHere P n in
    let rest : All Q (overwrite_events place values) = WritesHere-overwrite P n place values (λ here. All-tail P value values (all here)) in
    All-cons Q (Write place value) (Flush ∷ overwrite_events place values) (λ here. All-head P value values (all here))
    (All-cons Q Flush (overwrite_events place values) tt rest)

abbrev IsWrite : Event → Type 0
IsWrite (Write m new) = Unit {0}
IsWrite Flush = ⊥

-- a write to the sector is the last of what it may hold
last_of-write : (n : ℕ) (value : List ℕ) (olds : List (List ℕ)) → last_of (cond (n == n) (olds ++ value ∷ []) olds) ≡ value
last_of-write n value olds =
    let here : (n == n) ≡ true = eq-eqb n n refl in
    ap (λ (b : Bool). last_of (cond b (olds ++ value ∷ []) olds)) here ∙ last_of-push olds value

-- once a flush landed, P holds of what the sector may hold if it holds of the values
AllHold-overwrite : (P : List ℕ → Type 0) (n : ℕ) (values : List (List ℕ)) (k : ℕ) (olds : List (List ℕ)) → All P values → Contains (take k (overwrite_events n values)) Flush
    → AllHold P (kept_after (take k (overwrite_events n values)) n olds)
AllHold-overwrite P n [] zero olds all flushed = absurd (All-contains IsWrite [] Flush (All-nil IsWrite) flushed)
AllHold-overwrite P n [] (suc k) olds all flushed = absurd (All-contains IsWrite [] Flush (All-nil IsWrite) flushed)
AllHold-overwrite P n (value ∷ values) zero olds all flushed = absurd (All-contains IsWrite [] Flush (All-nil IsWrite) flushed)
AllHold-overwrite P n (value ∷ values) (suc zero) olds all flushed =
    absurd (All-contains IsWrite (Write n value ∷ []) Flush (All-cons IsWrite (Write n value) [] tt (All-nil IsWrite)) flushed)
AllHold-overwrite P n (value ∷ values) (suc (suc k)) olds all flushed =
    let rest : List Event = take k (overwrite_events n values) in
    let last = last_of-write n value olds in
    let start : AllHold P (last_of (cond (n == n) (olds ++ value ∷ []) olds) ∷ []) = AllHold-one P _ (subst P (sym last) (All-head P value values all)) in
    AllHold-kept_after rest P n (last_of (cond (n == n) (olds ++ value ∷ []) olds) ∷ [])
    (All-take (WritesHere P n) k (overwrite_events n values) (WritesHere-overwrite P n n values (λ same. All-tail P value values all))) start

-- ---- what is kept while values are written over a sector

HoldsOnceFlushed-overwrite : (P : List ℕ → Type 0) (n : ℕ) (values : List (List ℕ)) → All P values → (c : Content) (k : ℕ) → HoldsOnceFlushed P n c (with_events (take k (overwrite_events n values)) c)
HoldsOnceFlushed-overwrite P n values all c k flushed =
    let events = take k (overwrite_events n values) in
    rw (kept_values-more c events n) (AllHold-overwrite P n values k (kept_values c n) all (flushed-more c events flushed)).all

-- at each moment, however many of the events were done: P holds of each value since the first flush landed
pub flushed-overwrite : (P : List ℕ → Type 0) (n : ℕ) (values : List (List ℕ)) (disk disk' : DiskState) → All P values → Logs (overwrite_events n values) disk disk'
    → AtEachMoment (HoldsOnceFlushed P n) disk.content disk'.content
flushed-overwrite P n values disk disk' all logs =
    AtEachMoment-Logs (HoldsOnceFlushed P n) (overwrite_events n values) disk disk' (λ c k told. HoldsOnceFlushed-overwrite P n values all c k) logs

pub flushed-overwrite_part : (P : List ℕ → Type 0) (n : ℕ) (values : List (List ℕ)) (disk disk' : DiskState) → All P values → FailsIn (overwrite_events n values) disk disk'
    → AtEachMoment (HoldsOnceFlushed P n) disk.content disk'.content
flushed-overwrite_part P n values disk disk' all fails =
    AtEachMoment-FailsIn (HoldsOnceFlushed P n) (overwrite_events n values) disk disk' (λ c k told. HoldsOnceFlushed-overwrite P n values all c k) fails

-- at each moment each value is one from before or one of which P holds
pub KeepsOldOr-overwrite : (P : List ℕ → Type 0) (n : ℕ) (values : List (List ℕ)) (disk disk' : DiskState) → All P values → Logs (overwrite_events n values) disk disk'
    → KeepsOldOr P n disk.content disk'.content
KeepsOldOr-overwrite P n values disk disk' all logs =
    AtEachMoment-Logs (HoldsOldOr P n) (overwrite_events n values) disk disk'
    (λ c k told. HoldsOldOr-more P n (overwrite_events n values) (WritesHere-overwrite P n n values (λ same. all)) c k) logs

pub KeepsOldOr-overwrite_part : (P : List ℕ → Type 0) (n : ℕ) (values : List (List ℕ)) (disk disk' : DiskState) → All P values → FailsIn (overwrite_events n values) disk disk'
    → KeepsOldOr P n disk.content disk'.content
KeepsOldOr-overwrite_part P n values disk disk' all fails =
    AtEachMoment-FailsIn (HoldsOldOr P n) (overwrite_events n values) disk disk'
    (λ c k told. HoldsOldOr-more P n (overwrite_events n values) (WritesHere-overwrite P n n values (λ same. all)) c k) fails

kept_after-overwrite : (n : ℕ) (values olds : List (List ℕ)) → 0 < length values → kept_after (overwrite_events n values) n olds ≡ last_of values ∷ []
kept_after-overwrite n [] olds some = absurd (omega arith)
kept_after-overwrite n (value ∷ []) olds some = ap (λ (last : List ℕ). last ∷ []) (last_of-write n value olds)
kept_after-overwrite n (value ∷ next ∷ values) olds some = kept_after-overwrite n (next ∷ values) (last_of (cond (n == n) (olds ++ value ∷ []) olds) ∷ []) (omega arith)

-- after all of the events the sector holds the last value alone
pub KeepsAlone-overwrite : (n : ℕ) (values : List (List ℕ)) (old new : Option Content) → 0 < length values → new ≡ logged (overwrite_events n values) old → KeepsAlone (last_of values) n new
KeepsAlone-overwrite n values None new some e = rw e tt
KeepsAlone-overwrite n values (Some c) new some e =
    rw e (kept_values-more c (overwrite_events n values) n ∙ kept_after-overwrite n values (kept_values c n) some)

-- ---- the values of six passes

length-piece_of : (n : ℕ) (random : List ℕ) (place : ℕ) → n * place + n ≤ length random → length (piece_of n random place) ≡ n
length-piece_of n random place inside = length-take-le n (drop (n * place) random) (omega (arith, length-drop (n * place) random))

-- each value of six passes has the size of the place
pub length-passes_of : (n : ℕ) (random : List ℕ) → length random ≡ 5 * n → All (λ (piece : List ℕ). length piece ≡ n) (passes_of n random)
unfolding zeros
length-passes_of n random size =
    let P : List ℕ → Type 0 = λ piece. length piece ≡ n in
    let piece : ℕ → List ℕ = piece_of n random in
    let last : List (List ℕ) = replicate n 0 ∷ [] in
    let done : All P last = All-cons P (replicate n 0) [] (length-replicate {A = ℕ} n 0) (All-nil P) in
    let from_4 : All P (piece 4 ∷ last) = All-cons P (piece 4) last (length-piece_of n random 4 (omega arith)) done in
    let from_3 : All P (piece 3 ∷ piece 4 ∷ last) = All-cons P (piece 3) (piece 4 ∷ last) (length-piece_of n random 3 (omega arith)) from_4 in
    let from_2 : All P (piece 2 ∷ piece 3 ∷ piece 4 ∷ last) = All-cons P (piece 2) (piece 3 ∷ piece 4 ∷ last) (length-piece_of n random 2 (omega arith)) from_3 in
    let from_1 : All P (piece 1 ∷ piece 2 ∷ piece 3 ∷ piece 4 ∷ last) = All-cons P (piece 1) (piece 2 ∷ piece 3 ∷ piece 4 ∷ last) (length-piece_of n random 1 (omega arith)) from_2 in
    All-cons P (piece 0) (piece 1 ∷ piece 2 ∷ piece 3 ∷ piece 4 ∷ last) (length-piece_of n random 0 (omega arith)) from_1

-- ---- the loop that writes values over a sector

-- the events that are left begin with those of one value
left_from : (n i : ℕ) (values : List (List ℕ)) (all : List Event) {middle start : DiskState} → i < length values → Continues (overwrite_events n (drop i values)) all middle start
    → Continues (Write n (get_or values i []) ∷ Flush ∷ overwrite_events n (drop (i + 1) values)) all middle start
left_from n i values all {middle} {start} small continues =
    let P : List (List ℕ) → Type 0 = λ more. Continues (overwrite_events n more) all middle start in
    let cons : drop i values ≡ get_or values i [] ∷ drop (i + 1) values = rw (add-one, drop-cons values i []) refl in
    subst P cons continues

pub next_store : (n i : ℕ) (values : List (List ℕ)) (all : List Event) {middle next start : DiskState} → i < length values → Continues (overwrite_events n (drop i values)) all middle start
    → Logs (Write n (get_or values i []) ∷ Flush ∷ []) middle next → Continues (overwrite_events n (drop (i + 1) values)) all next start
next_store n i values all small continues store =
    Continues-then (Write n (get_or values i []) ∷ Flush ∷ []) (overwrite_events n (drop (i + 1) values)) all (left_from n i values all small continues) store

pub failed_store : (n i : ℕ) (values : List (List ℕ)) (all : List Event) {middle start new : DiskState} → i < length values → Continues (overwrite_events n (drop i values)) all middle start
    → FailsIn (Write n (get_or values i []) ∷ Flush ∷ []) middle new → FailsIn all start new
failed_store n i values all small continues fails =
    FailsIn-part (Write n (get_or values i []) ∷ Flush ∷ []) (overwrite_events n (drop (i + 1) values)) all (left_from n i values all small continues) fails
