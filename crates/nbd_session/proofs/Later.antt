-- What was acknowledged before a flush that was acknowledged too lasts, or what a later write gave its sectors does.
use Rattle.std.proofs.Common.{◌≡◌, ◌∙◌, ◌⊎◌, inl, inr, ℕ, zero, suc, ◌+◌, ◌-◌, ◌*◌, ◌<◌, ◌≤◌, List, [], ◌∷◌, ◌++◌, length, map, take, drop, All, Contains, refl, sym, ap, subst, arith, append_assoc, length-append}
use Rattle.std.proofs.Math.Seq.{drop-append_seam, take-append_seam, take-nil}
use Rattle.std.proofs.lemmas.List.Elements.{All-contains_itself, All-drop, All-nil, All-same, All-take, All-weaker}
use Rattle.block_traits.specs.Content.{Content, kept_values}
use Rattle.block_traits.specs.Crash.{IsTorn, IsUnsettled}
use Rattle.block_traits.specs.Disk.{DiskState}
use Rattle.byte_ranges.specs.Ranges.{first_sector, sectors_covered, skipped}
use Rattle.byte_ranges.specs.declared.ranges.ByteRange.{ByteRange}
use Rattle.eli_base.specs.Keying.{Keying}
use Rattle.nbd_words.specs.Transmission.{has_fua, request_kind}
use Rattle.nbd_words.specs.declared.transmission.ReplyError.{ReplyError}
use Rattle.nbd_words.specs.declared.transmission.ReplyError.TheVariants.{Done, ReadOnly, Failed, Invalid, PassesEnd, NoRoom}
use Rattle.nbd_words.specs.declared.transmission.RequestKind.{RequestKind}
use Rattle.nbd_words.specs.declared.transmission.RequestKind.TheVariants as kinds
use Rattle.provider_readings.proofs.Attaching.{attaches}
use Rattle.range_keys.specs.Ring.{IsKeying}
use Rattle.readings.specs.Crashes.{image_unit}
use Rattle.readings.specs.Ever.{placed_at}
use Rattle.readings.specs.Read.{Matches}
use Rattle.readings.specs.Steps.{Step, after, cell, cell_after}
use Rattle.readings.specs.Survivors.{content_media, moment}
use Rattle.readings.specs.Writes.{data_steps}
use Rattle.readings.specs.Writings.{PutUnit, Writing, Put, Raw}
use Rattle.readings.proofs.Settled.{cell_after-append}
use Rattle.readings.proofs.Survivors.{room, some-units}
use Rattle.sealing.specs.Sectors.{unit_place, units}
use Rattle.nbd_session.specs.Durable.{Deed, DidBy, DidEach, IsOfKind, IsOfWrite, Survives, all_steps, exchange_steps, flush_steps, session_steps, steps_of_kind, steps_of_write}
use Rattle.nbd_session.specs.Lasting.{AttachesLastingOrLater, Covers, HasFlushed, HasGiven, HoldsOrLater, IsFlushedWrite, IsGivenSince, IsInUnit, IsPartOf, IsPastFlush, IsTornThere, OneHasFlushed, OneHasGiven, OneHasGivenBytes, PartsLastOrLater, ReadsLastingOrLater, UnitsLastOrLater, WroteBy, part_bytes, sector_given, steps_left}
use Rattle.nbd_session.specs.Requests.{Exchange, range_of}
use Rattle.nbd_session.proofs.InUnits.{part-stands, some_covered}
use Rattle.nbd_session.proofs.Lasting.{attached_reads, cut_out, four, have-own, lies, one-flushed, own-flush, quiet-flush, reads-range, split-did, steps-more, steps-split, take-past, wrote-by}
use Rattle.nbd_session.proofs.Placing.{All-data, All-placed_both, All-placed_take, Stands, cell-placed, placed_at-append, put, some-data, unit-stands}
use Rattle.nbd_session.proofs.Settling.{HaveFlush, HaveFlush-left, HaveFlush-right}

-- ---- what exchanges placed

-- the unit that a write gave
abbrev IsUnitOf : ℕ → Keying → Exchange → Deed → ℕ → ℕ → Writing → Type 0
IsUnitOf number k x d sector j w = Covers k (range_of x.request) sector × (w ≡ put number k sector (sector_given k (range_of x.request) d sector) j)

All-write : (number : ℕ) (k : Keying) (x : Exchange) (d : Deed) (sector j : ℕ) → j < units k → All (IsUnitOf number k x d sector j) (placed_at (steps_of_write number k x.request d.whole) (unit_place k sector j))
All-write number k x d sector j lt =
    let P : Writing → Type 0 = IsUnitOf number k x d sector j in
    let n : ℕ = unit_place k sector j in
    let first : ℕ = first_sector k (range_of x.request) in
    let count : ℕ = sectors_covered k (range_of x.request) in
    let flush : List Step = flush_steps (has_fua x.request.flags) in
    All-placed_both P (data_steps number k first count d.whole) flush n
    (All-data P number k first count d.whole sector j lt (λ lead below same.
    let at : lead ≡ sector - first = omega (arith, same) in
    (record { low = omega (arith, same); high = omega (arith, same, below) }, ap (λ (l : ℕ). put number k sector (take k.sectorsize (drop (l * k.sectorsize) d.whole)) j) at)))
    (All-same P (placed_at flush n) [] (quiet-flush (has_fua x.request.flags) n) (All-nil P))

All-kind : (kind : RequestKind) (number : ℕ) (k : Keying) (x : Exchange) (d : Deed) (sector j : ℕ) → j < units k → All (IsUnitOf number k x d sector j) (placed_at (steps_of_kind kind number k x d.whole) (unit_place k sector j))
All-kind kinds.Write number k x d sector j lt = All-write number k x d sector j lt
All-kind kinds.WriteZeroes number k x d sector j lt = All-write number k x d sector j lt
All-kind kinds.Read number k x d sector j lt = All-nil (IsUnitOf number k x d sector j)
All-kind kinds.Flush number k x d sector j lt = All-nil (IsUnitOf number k x d sector j)
All-kind kinds.Unknown number k x d sector j lt = All-nil (IsUnitOf number k x d sector j)
All-kind kinds.Disconnect number k x d sector j lt = All-nil (IsUnitOf number k x d sector j)

All-exchange : (number : ℕ) (k : Keying) (x : Exchange) (d : Deed) (left sector j : ℕ) → j < units k → All (HasGiven number k x d left sector j) (placed_at (take left (exchange_steps number k x d)) (unit_place k sector j))
All-exchange number k x d left sector j lt =
    let P : Writing → Type 0 = IsUnitOf number k x d sector j in
    let n : ℕ = unit_place k sector j in
    let steps : List Step = exchange_steps number k x d in
    let all = All-placed_take P left steps n (All-placed_take P d.count (all_steps number k x d.whole) n (All-kind (request_kind x.request.code) number k x d sector j lt)) in
    let there = All-contains_itself (placed_at (take left steps) n) in
    λ i e inside. record { covers = (all i e inside).0; is = (all i e inside).1; placed = there i e inside }

take-both : (a b : List Step) (t : ℕ) → take t (a ++ b) ≡ take t a ++ take (t - length a) b
take-both [] b t = let same : t ≡ t - 0 = omega arith in ap (λ (n : ℕ). take n b) same ∙ ap (λ (l : List Step). l ++ take (t - 0) b) (sym (take-nil t))
take-both (s ∷ a) b zero = let none : 0 ≡ 0 - length (s ∷ a) = omega arith in ap (λ (n : ℕ). take n b) none
take-both (s ∷ a) b (suc t) =
    let same : t - length a ≡ suc t - length (s ∷ a) = omega arith in
    ap (λ (l : List Step). s ∷ l) (take-both a b t) ∙ ap (λ (n : ℕ). s ∷ (take t a ++ take n b)) same

All-session : (xs : List Exchange) (ds : List Deed) (number : ℕ) (k : Keying) (left sector j : ℕ) → j < units k
    → All (OneHasGiven number k xs ds left sector j) (placed_at (take left (session_steps number k xs ds)) (unit_place k sector j))
All-session [] ds number k left sector j lt = let P : Writing → Type 0 = OneHasGiven number k [] ds left sector j in All-placed_take P left [] (unit_place k sector j) (All-nil P)
All-session (x ∷ xs) [] number k left sector j lt = let P : Writing → Type 0 = OneHasGiven number k (x ∷ xs) [] left sector j in All-placed_take P left [] (unit_place k sector j) (All-nil P)
All-session (x ∷ xs) (d ∷ ds) number k left sector j lt =
    let P : Writing → Type 0 = OneHasGiven number k (x ∷ xs) (d ∷ ds) left sector j in
    let n : ℕ = unit_place k sector j in
    let mine : List Step = exchange_steps number k x d in
    let rest : List Step = session_steps (number + 1) k xs ds in
    let more : ℕ = left - length mine in
    All-same P (placed_at (take left (mine ++ rest)) n) (placed_at (take left mine ++ take more rest) n) (ap (λ (l : List Step). placed_at l n) (take-both mine rest left))
    (All-placed_both P (take left mine) (take more rest) n
    (All-weaker (HasGiven number k x d left sector j) P (λ w h. inl h) (placed_at (take left mine) n) (All-exchange number k x d left sector j lt))
    (All-weaker (OneHasGiven (number + 1) k xs ds more sector j) P (λ w h. inr h) (placed_at (take more rest) n) (All-session xs ds (number + 1) k more sector j lt)))

placed-first : (P : Writing → Type 0) (a b : List Step) (n : ℕ) → All P (placed_at (a ++ b) n) → All P (placed_at a n)
placed-first P a b n all =
    All-same P (placed_at a n) (take (length (placed_at a n)) (placed_at a n ++ placed_at b n)) (sym (take-append_seam (placed_at a n) (placed_at b n)))
    (All-take P (length (placed_at a n)) (placed_at a n ++ placed_at b n) (subst (All P) (placed_at-append a b n) all))

placed-second : (P : Writing → Type 0) (a b : List Step) (n : ℕ) → All P (placed_at (a ++ b) n) → All P (placed_at b n)
placed-second P a b n all =
    All-same P (placed_at b n) (drop (length (placed_at a n)) (placed_at a n ++ placed_at b n)) (sym (drop-append_seam (placed_at a n) (placed_at b n)))
    (All-drop P (length (placed_at a n)) (placed_at a n ++ placed_at b n) (subst (All P) (placed_at-append a b n) all))

-- ---- the write that was flushed

-- the deed of the write is the first
record OwnDeed (n : ℕ) (k : Keying) (c : Content) (x : Exchange) (between : List Exchange) (bytes : List ℕ) (ds : List Deed) : Type 0 where
  own : Deed
  others : List Deed
  are : ds ≡ own ∷ others
  did : DidEach (n + 1) k (after (exchange_steps n k x own) c) between others
  of : IsOfWrite k c x.request bytes own.whole
  steps : exchange_steps n k x own ≡ steps_of_write n k x.request own.whole

own-deed : (ds : List Deed) (n : ℕ) (k : Keying) (c : Content) (x : Exchange) (between : List Exchange) (bytes : List ℕ) → DidEach n k c (x ∷ between) ds → WroteBy (request_kind x.request.code) x bytes → x.error ≡ Done → OwnDeed n k c x between bytes ds
own-deed [] n k c x between bytes did wrote done = absurd did
own-deed (d ∷ ds) n k c x between bytes did wrote done =
    let kind : RequestKind = request_kind x.request.code in
    let written = wrote-by kind n k c x bytes d wrote (subst (λ (e : ReplyError). DidBy e kind n k c x d) done did.0.by) in
    record { own = d; others = ds; are = refl; did = did.1; of = written.0; steps = written.1 }

placed-by : (ds : List Deed) (n : ℕ) (k : Keying) (c : Content) (x : Exchange) (between : List Exchange) (bytes : List ℕ) (earlier later : List Step) (P : Writing → Type 0) (sector j : ℕ) → j < units k
    → DidEach n k (after earlier c) (x ∷ between) ds → WroteBy (request_kind x.request.code) x bytes → x.error ≡ Done → HasFlushed x ⊎ OneHasFlushed between → Covers k (range_of x.request) sector
    → All P (placed_at (session_steps n k (x ∷ between) ds ++ later) (unit_place k sector j)) → All P (cell c ((earlier ++ session_steps n k (x ∷ between) ds) ++ later) (unit_place k sector j))
placed-by ds n k c x between bytes earlier later P sector j lt did wrote done flushed covers all =
    let q = x.request in
    let kind : RequestKind = request_kind q.code in
    let first : ℕ = first_sector k (range_of q) in
    let count : ℕ = sectors_covered k (range_of q) in
    let o = own-deed ds n k (after earlier c) x between bytes did wrote done in
    let places : List Step = data_steps n k first count o.own.whole in
    let middle : List Step = session_steps (n + 1) k between o.others in
    let flush : List Step = flush_steps (has_fua q.flags) in
    let tail : List Step = flush ++ (middle ++ later) in
    let place : ℕ = unit_place k sector j in
    let start : List Writing = map Raw (kept_values c place) in
    let mine : session_steps n k (x ∷ between) ds ≡ (places ++ flush) ++ middle = ap (λ (l : List Deed). session_steps n k (x ∷ between) l) o.are ∙ ap (λ (l : List Step). l ++ middle) o.steps in
    let own : session_steps n k (x ∷ between) ds ++ later ≡ places ++ tail = ap (λ (l : List Step). l ++ later) mine ∙ four [] places flush middle later in
    let both : (earlier ++ session_steps n k (x ∷ between) ds) ++ later ≡ earlier ++ (places ++ tail) = append_assoc earlier (session_steps n k (x ∷ between) ds) later ∙ ap (λ (l : List Step). earlier ++ l) own in
    let have : HaveFlush tail = elim flushed [
      | inl mine ↦ HaveFlush-left flush (middle ++ later) (have-own n k q o.own.whole (own-flush kind x bytes wrote mine))
      | inr more ↦ HaveFlush-right flush (middle ++ later) (HaveFlush-left middle later (one-flushed between o.others (n + 1) k (after (exchange_steps n k x o.own) (after earlier c)) more o.did))
    ] in
    let placed : All P (placed_at (places ++ tail) place) = subst (λ (l : List Step). All P (placed_at l place)) own all in
    let low = covers.low in
    let high = covers.high in
    let some = some-data n k first count o.own.whole sector j (sector - first) lt (omega (arith, low, high)) (omega (arith, low)) in
    All-same P (cell c ((earlier ++ session_steps n k (x ∷ between) ds) ++ later) place) (cell_after (places ++ tail) place (cell_after earlier place start))
    (ap (λ (l : List Step). cell c l place) both ∙ cell_after-append earlier (places ++ tail) place start)
    (cell-placed P places tail place (cell_after earlier place start) have some (placed-first P places tail place placed) (placed-second P places tail place placed))

length-did : (xs : List Exchange) (ds : List Deed) (n : ℕ) (k : Keying) (c : Content) → DidEach n k c xs ds → length ds ≡ length xs
length-did [] [] n k c h = refl
length-did [] (d ∷ ds) n k c h = absurd h
length-did (x ∷ xs) [] n k c h = absurd h
length-did (x ∷ xs) (d ∷ ds) n k c h = ap suc (length-did xs ds (n + 1) k (after (exchange_steps n k x d) c) h.1)

pub holds_later : (k : Keying) (xs : List Exchange) (c : Content) (new : DiskState) → IsKeying k → (s : Survives k xs c new) → HoldsOrLater k xs c s.deeds
holds_later k xs c new is s x bytes a t sector j late covers lt =
    let P : Writing → Type 0 = IsGivenSince k xs x bytes a s.deeds t sector j in
    let place : ℕ = unit_place k sector j in
    let rest : List Exchange = x ∷ (a.between ++ a.since) in
    let through : List Exchange = a.before ++ (x ∷ a.between) in
    let from : ℕ = 0 + length a.before in
    let cut = split-did a.before rest s.deeds 0 k c (subst (λ (l : List Exchange). DidEach 0 k c l s.deeds) a.are s.did) in
    let early : List Step = session_steps 0 k a.before cut.first in
    let own = split-did (x ∷ a.between) a.since cut.second from k (after early c) cut.did_second in
    let mine : List Step = session_steps from k (x ∷ a.between) own.first in
    let since : List Step = session_steps (from + length (x ∷ a.between)) k a.since own.second in
    let behind : session_steps from k rest cut.second ≡ mine ++ since =
    ap (λ (l : List Deed). session_steps from k rest l) own.are ∙ steps-split (x ∷ a.between) a.since own.first own.second from k (after early c) own.did_first in
    let all : session_steps 0 k xs s.deeds ≡ (early ++ mine) ++ since =
    (λ i. session_steps 0 k (a.are i) (cut.are i)) ∙ steps-split a.before rest cut.first cut.second 0 k c cut.did_first
    ∙ ap (λ (l : List Step). early ++ l) behind ∙ sym (append_assoc early mine since) in
    let until : session_steps 0 k through s.deeds ≡ early ++ mine =
    ap (λ (l : List Deed). session_steps 0 k through l) cut.are ∙ steps-split a.before (x ∷ a.between) cut.first cut.second 0 k c cut.did_first
    ∙ ap (λ (l : List Step). early ++ l)
    (ap (λ (l : List Deed). session_steps from k (x ∷ a.between) l) own.are ∙ steps-more (x ∷ a.between) own.first own.second from k (after early c) own.did_first) in
    let long : length (early ++ mine) ≤ t = subst (λ (l : List Step). length l ≤ t) until late in
    let later : List Step = take (t - length (early ++ mine)) since in
    let taken : take t (session_steps 0 k xs s.deeds) ≡ (early ++ mine) ++ later = ap (take t) all ∙ take-past (early ++ mine) since t long in
    let many : length a.before ≡ length cut.first = sym (length-did a.before cut.first 0 k c cut.did_first) in
    let deeds : drop (length a.before) s.deeds ≡ cut.second = (λ i. drop (many i) (cut.are i)) ∙ drop-append_seam cut.first cut.second in
    let number : from ≡ length a.before = omega arith in
    let left : ℕ = steps_left k xs x bytes a s.deeds t in
    let start : length (session_steps 0 k a.before s.deeds) ≡ length early =
    ap (λ (l : List Deed). length (session_steps 0 k a.before l)) cut.are ∙ ap length (steps-more a.before cut.first cut.second 0 k c cut.did_first) in
    let both = length-append early mine in
    let count : left - length mine ≡ t - length (early ++ mine) = omega (arith, start, both) in
    let given : All P (placed_at (take left (session_steps from k rest cut.second)) place) =
    subst (λ (m : ℕ). All (OneHasGiven m k rest (drop (length a.before) s.deeds) left sector j) (placed_at (take left (session_steps from k rest cut.second)) place)) number
    (subst (λ (ds : List Deed). All (OneHasGiven from k rest ds left sector j) (placed_at (take left (session_steps from k rest cut.second)) place)) (sym deeds)
    (All-session rest cut.second from k left sector j lt)) in
    let whole : take left (session_steps from k rest cut.second) ≡ mine ++ later =
    ap (take left) behind ∙ take-past mine since left (omega (arith, start, both, long)) ∙ ap (λ (n : ℕ). mine ++ take n since) count in
    let first : All P (placed_at (mine ++ later) place) = subst (λ (l : List Step). All P (placed_at l place)) whole given in
    All-same P (cell c (take t (session_steps 0 k xs s.deeds)) place) (cell c ((early ++ mine) ++ later) place) (ap (λ (l : List Step). cell c l place) taken)
    (placed-by own.first from k c x a.between bytes early later P sector j lt own.did_first a.wrote a.done a.flushed covers first)

-- ---- what a torn image reads as there

given-matches : (xs : List Exchange) (ds : List Deed) (number : ℕ) (k : Keying) (left sector j : ℕ) (w : Writing) → OneHasGiven number k xs ds left sector j w → (p : PutUnit) × Matches k sector j w p
given-matches [] ds number k left sector j w h = absurd h
given-matches (x ∷ xs) [] number k left sector j w h = absurd h
given-matches (x ∷ xs) (d ∷ ds) number k left sector j w (inl h) =
    (record { number = number; keying = k; sector = sector; bytes = sector_given k (range_of x.request) d sector; unit = j }, record { is = h.is; keying = refl; of_sector = refl; unit = refl })
given-matches (x ∷ xs) (d ∷ ds) number k left sector j w (inr h) = given-matches xs ds (number + 1) k (left - length (exchange_steps number k x d)) sector j w h

-- the deeds of the write and of those after it
deeds_since : (k : Keying) (xs : List Exchange) (c : Content) (new : DiskState) (s : Survives k xs c new) (x : Exchange) (bytes : List ℕ) (a : IsFlushedWrite xs x bytes)
    → (before : Content) × (content_media k before ≡ content_media k c) × DidEach (length a.before) k before (x ∷ (a.between ++ a.since)) (drop (length a.before) s.deeds)
deeds_since k xs c new s x bytes a =
    let rest : List Exchange = x ∷ (a.between ++ a.since) in
    let cut = split-did a.before rest s.deeds 0 k c (subst (λ (l : List Exchange). DidEach 0 k c l s.deeds) a.are s.did) in
    let before : Content = after (session_steps 0 k a.before cut.first) c in
    let many : length a.before ≡ length cut.first = sym (length-did a.before cut.first 0 k c cut.did_first) in
    let deeds : drop (length a.before) s.deeds ≡ cut.second = (λ i. drop (many i) (cut.are i)) ∙ drop-append_seam cut.first cut.second in
    let number : 0 + length a.before ≡ length a.before = omega arith in
    (before, refl, subst (λ (m : ℕ). DidEach m k before rest (drop (length a.before) s.deeds)) number (subst (DidEach (0 + length a.before) k before rest) (sym deeds) cut.did_second))

-- the sectors of the write are there
there_are : (k : Keying) (xs : List Exchange) (c : Content) (new : DiskState) (s : Survives k xs c new) (x : Exchange) (bytes : List ℕ) (a : IsFlushedWrite xs x bytes) (sector : ℕ) → Covers k (range_of x.request) sector → sector < content_media k c
there_are k xs c new s x bytes a sector covers =
    let since = deeds_since k xs c new s x bytes a in
    let o = own-deed (drop (length a.before) s.deeds) (length a.before) k since.0 x (a.between ++ a.since) bytes since.2 a.wrote a.done in
    let inside = o.of.inside in
    let high = covers.high in
    let same = since.1 in
    omega (arith, inside, high, same)

stands_later : (k : Keying) (xs : List Exchange) (c : Content) (new : DiskState) → IsKeying k → (s : Survives k xs c new) (x : Exchange) (bytes : List ℕ) (a : IsFlushedWrite xs x bytes) (t sector j : ℕ) (image : List (List ℕ))
    → IsPastFlush k xs x bytes a s.deeds t → Covers k (range_of x.request) sector → j < units k → IsTorn (moment t (session_steps 0 k xs s.deeds) c) image
    → Stands (IsGivenSince k xs x bytes a s.deeds t sector j) k j (image_unit k sector image j)
    ⊎ IsTornThere (cell c (take t (session_steps 0 k xs s.deeds)) (unit_place k sector j)) (moment t (session_steps 0 k xs s.deeds) c) image (unit_place k sector j)
stands_later k xs c new is s x bytes a t sector j image late covers lt torn =
    let steps : List Step = session_steps 0 k xs s.deeds in
    let now : Content = moment t steps c in
    let P : Writing → Type 0 = IsGivenSince k xs x bytes a s.deeds t sector j in
    let e = s.endures t k sector is (there_are k xs c new s x bytes a sector covers) in
    let holds = holds_later k xs c new is s x bytes a t sector j late covers lt in
    elim (unit-stands P k sector j (cell c (take t steps)) (IsUnsettled now) image is lt (e.torn image torn).from holds
    (λ w h. given-matches (x ∷ (a.between ++ a.since)) (drop (length a.before) s.deeds) (length a.before) k (steps_left k xs x bytes a s.deeds t) sector j w h)) [
      | inl st ↦ inl st
      | inr strange ↦ inr (record { unsettled = strange.2; writing = strange.0; strange = strange.1 })
    ]

pub units_later : (k : Keying) (xs : List Exchange) (c : Content) (new : DiskState) → IsKeying k → (s : Survives k xs c new) → UnitsLastOrLater k xs c s.deeds
units_later k xs c new is s x bytes a t sector j image late covers lt torn = elim (stands_later k xs c new is s x bytes a t sector j image late covers lt torn) [
  | inl st ↦ inl (record { unit = st.unit; such = st.is; reads = st.reads })
  | inr there ↦ inr there
]

-- ---- what a part of its range reads as

-- a write gave a part of its range the bytes of the part
part-given : (k : Keying) (r part : ByteRange) (d : Deed) (bytes : List ℕ) → 0 < k.sectorsize → IsPartOf part r → skipped k part + part.count ≤ k.sectorsize → take r.count (drop (skipped k r) d.whole) ≡ bytes
    → take part.count (drop (skipped k part) (sector_given k r d (first_sector k part))) ≡ part_bytes part r bytes
part-given k r part d bytes some is fits written =
    let in_it = lies k r part some is in
    let starts = is.starts in
    let ends = is.ends in
    cut_out ((first_sector k part - first_sector k r) * k.sectorsize) (skipped k part) part.count k.sectorsize (part.offset - r.offset) (skipped k r) r.count d.whole bytes in_it.place fits (omega (arith, starts, ends)) written

-- if something was placed, the deed is that of a write
of-kind : (error : ReplyError) (kind : RequestKind) (number : ℕ) (k : Keying) (c : Content) (x : Exchange) (d : Deed) → DidBy error kind number k c x d → (d.count ≡ 0 → ⊥) → IsOfKind kind k c x d.whole
of-kind Done kind number k c x d by some = by.0
of-kind Failed kind number k c x d by some = elim by [ inl none ↦ absurd (some none) | inr of ↦ of.0 ]
of-kind NoRoom kind number k c x d by some = elim by [ inl none ↦ absurd (some none) | inr of ↦ of.0 ]
of-kind ReadOnly kind number k c x d by some = absurd (some by)
of-kind Invalid kind number k c x d by some = absurd (some by)
of-kind PassesEnd kind number k c x d by some = absurd (some by)

some-done : (number : ℕ) (k : Keying) (x : Exchange) (d : Deed) (left n : ℕ) (w : Writing) → Contains (placed_at (take left (exchange_steps number k x d)) n) w → d.count ≡ 0 → ⊥
some-done number k x d left n w placed none =
    let nowhere : Contains [] w = subst (λ (l : List Step). Contains (placed_at l n) w) (ap (λ (m : ℕ). take left (take m (all_steps number k x d.whole))) none ∙ take-nil left) placed in
    absurd (omega (arith, nowhere.1))

begun : (left : ℕ) (steps : List Step) (n : ℕ) (w : Writing) → Contains (placed_at (take left steps) n) w → 0 < left
begun zero steps n w placed = absurd (omega (arith, placed.1))
begun (suc left) steps n w placed = omega arith

own-bytes : (kind : RequestKind) (k : Keying) (c : Content) (x : Exchange) (d : Deed) (bytes : List ℕ) → WroteBy kind x bytes → IsOfKind kind k c x d.whole → IsOfWrite k c x.request bytes d.whole
own-bytes kinds.Write k c x d bytes h of = subst (λ (l : List ℕ). IsOfWrite k c x.request l d.whole) (sym h) of
own-bytes kinds.WriteZeroes k c x d bytes h of = subst (λ (l : List ℕ). IsOfWrite k c x.request l d.whole) (sym h) of
own-bytes kinds.Read k c x d bytes h of = absurd h
own-bytes kinds.Flush k c x d bytes h of = absurd h
own-bytes kinds.Unknown k c x d bytes h of = absurd h
own-bytes kinds.Disconnect k c x d bytes h of = absurd h

abbrev bytes_of : Writing → List ℕ
bytes_of (Put p) = p.bytes
bytes_of (Raw bytes) = bytes

given-bytes : (xs : List Exchange) (ds : List Deed) (number : ℕ) (k : Keying) (c : Content) (left : ℕ) (part : ByteRange) (j : ℕ) (p : PutUnit) → 0 < k.sectorsize → skipped k part + part.count ≤ k.sectorsize → DidEach number k c xs ds
    → OneHasGiven number k xs ds left (first_sector k part) j (Put p) → OneHasGivenBytes number k xs ds left part (take part.count (drop (skipped k part) p.bytes))
given-bytes [] ds number k c left part j p some fits did h = absurd h
given-bytes (x ∷ xs) [] number k c left part j p some fits did h = absurd h
given-bytes (x ∷ xs) (d ∷ ds) number k c left part j p some fits did (inl h) =
    let n : ℕ = unit_place k (first_sector k part) j in
    let is = ap (λ (w : Writing). take part.count (drop (skipped k part) (bytes_of w))) h.is in
    let of = of-kind x.error (request_kind x.request.code) number k c x d did.0.by (some-done number k x d left n (Put p) h.placed) in
    inl (
      begun left (exchange_steps number k x d) n (Put p) h.placed,
      record {
        covers = h.covers;
        is = is;
        own = λ bytes wrote part_is.
            is ∙ part-given k (range_of x.request) part d bytes some part_is fits (own-bytes (request_kind x.request.code) k c x d bytes wrote of).splices.written;
      },
    )
given-bytes (x ∷ xs) (d ∷ ds) number k c left part j p some fits did (inr h) =
    let mine : List Step = exchange_steps number k x d in
    inr (given-bytes xs ds (number + 1) k (after mine c) (left - length mine) part j p some fits did.1 h)

in-sector : (k : Keying) (j : ℕ) (part : ByteRange) → IsInUnit k j part → skipped k part + part.count ≤ k.sectorsize
in-sector k j part h =
    let ends = h.ends in
    let starts = h.starts in
    let some = h.some in
    omega (arith, ends, starts, some)

pub parts_later : (k : Keying) (xs : List Exchange) (c : Content) (new : DiskState) → IsKeying k → (s : Survives k xs c new) → PartsLastOrLater k xs c s.deeds
parts_later k xs c new is s x bytes part a t j image then torn =
    let inside = then.inside in
    let sector : ℕ = first_sector k part in
    let P : ℕ → Writing → Type 0 = λ i. IsGivenSince k xs x bytes a s.deeds t sector i in
    let some : 0 < k.sectorsize = omega (arith, is.at_least) in
    let fits = in-sector k j part inside in
    let one = some_covered k part some inside.some fits in
    let in_it = lies k (range_of x.request) part some then.part_is in
    let first = in_it.first in
    let count = in_it.count in
    let covers : Covers k (range_of x.request) sector = record { low = omega (arith, first); high = omega (arith, first, count, one) } in
    let stand = λ (i : ℕ) (lt : i < units k). let h : Stands (P i) k i (image_unit k sector image i) = elim (stands_later k xs c new is s x bytes a t sector i image then.past covers lt torn) [
      | inl st ↦ st
      | inr there ↦ absurd (then.settled i lt there.unsettled)
    ] in h in
    let wide = room (units k) sector (length c.base) (some-units k is) (there_are k xs c new s x bytes a sector covers) in
    let size : length image ≡ length c.base = torn.same.size in
    let st = stand j inside.there in
    let since = deeds_since k xs c new s x bytes a in
    let got : List ℕ = take part.count (drop (skipped k part) st.unit.bytes) in (
      got,
      part-stands P k image part j is then.front inside (omega (arith, wide, size)) stand inside.there,
      given-bytes (x ∷ (a.between ++ a.since)) (drop (length a.before) s.deeds) (length a.before) k since.0 (steps_left k xs x bytes a s.deeds t) part j st.unit some fits since.2 st.is,
    )

pub reads_later : (k : Keying) (xs : List Exchange) (c : Content) (new : DiskState) → IsKeying k → (s : Survives k xs c new) → ReadsLastingOrLater k xs c s.deeds
reads_later k xs c new is s x bytes part a t j image then torn =
    let lasts = parts_later k xs c new is s x bytes part a t j image then torn in (lasts.0, lasts.2, reads-range k part lasts.0 image lasts.1)

pub attaches_later : {D : Type 0} (state : D → DiskState) (k : Keying) (xs : List Exchange) (c : Content) (new : DiskState) → IsKeying k → (s : Survives k xs c new) → AttachesLastingOrLater state k xs c s.deeds
attaches_later state k xs c new is survives x bytes part a t j image then torn m params key readonly s master disk result has opened same answers =
    let lasts = parts_later k xs c new is survives x bytes part a t j image then torn in (
      lasts.0,
      lasts.2,
      attached_reads state k part lasts.0 image params s master disk result has same (reads-range k part lasts.0 image lasts.1)
          (attaches state image m params key readonly s master disk result has opened answers),
    )
