-- What the exchanges of a session did to the disk, as steps.
use Rattle.std.proofs.Common.{◌≡◌, ◌∙◌, inl, inr, ℕ, zero, suc, Bool, true, false, ◌+◌, ◌*◌, List, [], ◌∷◌, ◌++◌, length, take, Option, Some, IfSome, ◌≤◌, All, refl, sym, ap, subst, arith, append_assoc, append-nil}
use Rattle.std.proofs.Math.Seq.{take-append-add, take-length}
use Rattle.std.proofs.lemmas.List.{length-map, map-append, take-map}
use Rattle.std.proofs.lemmas.List.Elements.{All-cons, All-nil, All-weaker}
use Rattle.aes_core.specs.Schedule.{AreBytes}
use Rattle.block_traits.proofs.Logs.{Logs-nothing}
use Rattle.block_traits.specs.Content.{Content, IsContentOf, IsEventOf, logged}
use Rattle.block_traits.specs.Disk.{DiskState, FailsIn, FitsSize, Logs}
use Rattle.block_traits.specs.declared.disk.Event.{Event}
use Rattle.block_traits.specs.declared.disk.Event.TheVariants as event
use Rattle.eli_base.specs.Keying.{Keying}
use Rattle.range_keys.specs.Ring.{IsKeying}
use Rattle.provider_readings.proofs.Data.{events_of-data}
use Rattle.readings.proofs.Crashes.{endures}
use Rattle.readings.proofs.Writes.{AreStepsBelow-none, AreStepsBelow-raw, AreStepsBelow-take, AreStepsBelow-write, events_of-raw}
use Rattle.readings.specs.Steps.{Step, Flush, after, event_of, events_of}
use Rattle.readings.specs.Survivors.{content_media, placed}
use Rattle.readings.specs.Writes.{AreStepsBelow, IsNumberedBelow, data_steps, raw_steps}
use Rattle.readings.specs.Writings.{Writing, Put, Raw}
use Rattle.nbd_words.specs.Transmission.{has_fua, request_kind}
use Rattle.nbd_words.specs.declared.transmission.RequestKind.{RequestKind}
use Rattle.nbd_words.specs.declared.transmission.RequestKind.TheVariants as kinds
use Rattle.nbd_words.specs.declared.transmission.ReplyError.{ReplyError}
use Rattle.nbd_words.specs.declared.transmission.ReplyError.TheVariants.{Done, ReadOnly, Failed, Invalid, PassesEnd, NoRoom}
use Rattle.byte_ranges.specs.Ranges.{IsSpliced, first_sector, sectors_covered}
use Rattle.byte_ranges.specs.Writes.{IsWrittenInPart, Splices, flush_events, range_writes}
use Rattle.byte_ranges.proofs.Covering.{covered_inside}
use Rattle.eli_base.specs.Units.{media_sectors}
use Rattle.nbd_words.specs.declared.transmission.Request.{Request}
use Rattle.nbd_session.specs.Requests.{AnswersFlush, AnswersRead, AnswersWrite, Exchange, FitsIn, MayWrite, ServesExchanges, ServesKind, Side, range_of, zeros_of}
use Rattle.nbd_session.specs.Durable.{Deed, DidBy, DidEach, IsOfKind, IsOfWrite, Survives, exchange_steps, flush_steps, session_steps, steps_of_kind, steps_of_write}

-- ---- steps

below_more : (next : ℕ) (w : Writing) → IsNumberedBelow next w → IsNumberedBelow (next + 1) w
below_more next (Put p) h = omega (arith, h)
below_more next (Raw bytes) h = tt

AreStepsBelow-more : (next : ℕ) (steps : List Step) → AreStepsBelow next steps → AreStepsBelow (next + 1) steps
AreStepsBelow-more next steps h = record { fit = h.fit; below = All-weaker (IsNumberedBelow next) (IsNumberedBelow (next + 1)) (below_more next) (placed steps) h.below }

pub told_on : (c : Content) (steps more : List Step) (d new : DiskState) → d.content ≡ Some (after steps c) → Logs (events_of more) d new → new.content ≡ Some (after (steps ++ more) c)
told_on c steps more d new told logs =
    logs.content ∙ ap (logged (events_of more)) told
    ∙ ap (λ (h : List Event). Some (record { base = c.base; history = h })) (append_assoc c.history (events_of steps) (events_of more) ∙ ap (λ (l : List Event). c.history ++ l) (sym (map-append event_of steps more)))

flush-raw : (flush : Bool) → flush_steps flush ≡ raw_steps (flush_events flush)
flush-raw true = refl
flush-raw false = refl

flush-fit : (flush : Bool) → All (IsEventOf 0) (flush_events flush)
flush-fit true = All-cons (IsEventOf 0) event.Flush [] tt (All-nil (IsEventOf 0))
flush-fit false = All-nil (IsEventOf 0)

-- some steps, and then others
pub after-then : (c : Content) (steps more : List Step) → after (steps ++ more) c ≡ after more (after steps c)
after-then c steps more =
    ap (λ (h : List Event). record { base = c.base; history = h })
    (ap (λ (l : List Event). c.history ++ l) (map-append event_of steps more) ∙ sym (append_assoc c.history (events_of steps) (events_of more)))

-- ---- one exchange

-- after some steps, of which each has a lower number, an exchange with this reply did these
record Did (error : ReplyError) (kind : RequestKind) (n : ℕ) (k : Keying) (x : Exchange) (steps : List Step) (c : Content) : Type 0 where
  pub deed : Deed
  pub by : DidBy error kind n k (after steps c) x deed
  pub content : x.next.content ≡ Some (after (steps ++ take deed.count (steps_of_kind kind n k x deed.whole)) c)
  pub below : AreStepsBelow (n + 1) (steps ++ take deed.count (steps_of_kind kind n k x deed.whole))

-- an exchange did the first of the steps of its kind
did : (error : ReplyError) (kind : RequestKind) (n : ℕ) (k : Keying) (x : Exchange) (steps : List Step) (c : Content) (d : DiskState) (whole : List ℕ) (count : ℕ)
    → DidBy error kind n k (after steps c) x (record { whole = whole; count = count }) → d.content ≡ Some (after steps c) → AreStepsBelow (n + 1) (steps ++ steps_of_kind kind n k x whole)
    → Logs (take count (events_of (steps_of_kind kind n k x whole))) d x.next → Did error kind n k x steps c
did error kind n k x steps c d whole count by told fit logs =
    let full : List Step = steps_of_kind kind n k x whole in
    record {
      deed = record { whole = whole; count = count };
      by = by;
      content = told_on c steps (take count full) d x.next told (subst (λ (e : List Event). Logs e d x.next) (take-map event_of count full) logs);
      below = subst (AreStepsBelow (n + 1)) (take-append-add steps full count) (AreStepsBelow-take (n + 1) (length steps + count) (steps ++ full) fit);
    }

all_taken : (steps : List Step) → take (length steps) (events_of steps) ≡ events_of steps
all_taken steps = ap (λ (m : ℕ). take m (events_of steps)) (sym (length-map steps event_of)) ∙ take-length (events_of steps)

-- an exchange did all steps of its kind
did-all : (kind : RequestKind) (n : ℕ) (k : Keying) (x : Exchange) (steps : List Step) (c : Content) (d : DiskState) (whole : List ℕ)
    → IsOfKind kind k (after steps c) x whole → d.content ≡ Some (after steps c) → AreStepsBelow (n + 1) (steps ++ steps_of_kind kind n k x whole)
    → Logs (events_of (steps_of_kind kind n k x whole)) d x.next → Did Done kind n k x steps c
did-all kind n k x steps c d whole of told fit logs =
    let full : List Step = steps_of_kind kind n k x whole in
    did Done kind n k x steps c d whole (length full) (of, refl) told fit (subst (λ (e : List Event). Logs e d x.next) (sym (all_taken full)) logs)

-- an exchange did the first steps of its kind, since the disk failed
did-part : (kind : RequestKind) (n : ℕ) (k : Keying) (x : Exchange) (steps : List Step) (c : Content) (d : DiskState) (whole : List ℕ)
    → IsOfKind kind k (after steps c) x whole → d.content ≡ Some (after steps c) → AreStepsBelow (n + 1) (steps ++ steps_of_kind kind n k x whole)
    → FailsIn (events_of (steps_of_kind kind n k x whole)) d x.next → Did Failed kind n k x steps c
did-part kind n k x steps c d whole of told fit fails =
    let full : List Step = steps_of_kind kind n k x whole in
    let within : fails.count ≤ length full = subst (λ (m : ℕ). fails.count ≤ m) (length-map full event_of) fails.within in
    did Failed kind n k x steps c d whole fails.count (inr (of, within)) told fit fails.logs

-- an exchange did no step
did-none : (error : ReplyError) (kind : RequestKind) (n : ℕ) (k : Keying) (x : Exchange) (steps : List Step) (c : Content) (d : DiskState)
    → DidBy error kind n k (after steps c) x (record { whole = []; count = 0 }) → d.content ≡ Some (after steps c) → AreStepsBelow n steps → Logs [] d x.next → Did error kind n k x steps c
did-none error kind n k x steps c d by told below logs = record {
  deed = record { whole = []; count = 0 };
  by = by;
  content = told_on c steps [] d x.next told logs;
  below = subst (AreStepsBelow (n + 1)) (sym (append-nil steps)) (AreStepsBelow-more n steps below);
}

did-still : (error : ReplyError) (kind : RequestKind) (n : ℕ) (k : Keying) (x : Exchange) (steps : List Step) (c : Content) (d : DiskState)
    → DidBy error kind n k (after steps c) x (record { whole = []; count = 0 }) → d.content ≡ Some (after steps c) → AreStepsBelow n steps → x.next ≡ d → Did error kind n k x steps c
did-still error kind n k x steps c d by told below same = did-none error kind n k x steps c d by told below (subst (λ (e : DiskState). Logs [] d e) (sym same) (Logs-nothing d))

take-none : (n : ℕ) → take {A = Event} n [] ≡ []
take-none zero = refl
take-none (suc n) = refl

-- the disk failed before anything was logged
fails-none : {d new : DiskState} → FailsIn [] d new → Logs [] d new
fails-none {d} {new} fails = let none : take fails.count [] ≡ [] = take-none fails.count in subst (λ (e : List Event). Logs e d new) none fails.logs

-- ---- exchanges by their kind

-- the steps of a write fit after others
write-fits : (n : ℕ) (k : Keying) (x : Exchange) (steps : List Step) (whole : List ℕ) → AreStepsBelow n steps → IsKeying k
    → sectors_covered k (range_of x.request) * k.sectorsize ≡ length whole → AreBytes whole → AreStepsBelow (n + 1) (steps ++ steps_of_write n k x.request whole)
write-fits n k x steps whole below is size are =
    let r = range_of x.request in
    let flush : Bool = has_fua x.request.flags in
    let new : List Step = data_steps n k (first_sector k r) (sectors_covered k r) whole in
    let wrote = AreStepsBelow-write n steps k (first_sector k r) (sectors_covered k r) whole below is are (omega (arith, size)) in
    let more = AreStepsBelow-raw (n + 1) 0 (steps ++ new) (flush_events flush) wrote (flush-fit flush) in
    subst (AreStepsBelow (n + 1)) (append_assoc steps new (raw_steps (flush_events flush)) ∙ ap (λ (l : List Step). steps ++ (new ++ l)) (sym (flush-raw flush))) more

-- the events of the steps of a write
write-logs : (n : ℕ) (k : Keying) (x : Exchange) (whole : List ℕ)
    → events_of (steps_of_write n k x.request whole) ≡ range_writes k (range_of x.request) whole ++ flush_events (has_fua x.request.flags)
write-logs n k x whole =
    let r = range_of x.request in
    map-append event_of (data_steps n k (first_sector k r) (sectors_covered k r) whole) (flush_steps (has_fua x.request.flags))
    ∙ ap (λ (l : List Event). l ++ events_of (flush_steps (has_fua x.request.flags))) (events_of-data n k (first_sector k r) (sectors_covered k r) whole)
    ∙ ap (λ (l : List Event). range_writes k (range_of x.request) whole ++ l) (ap events_of (flush-raw (has_fua x.request.flags)) ∙ events_of-raw (flush_events (has_fua x.request.flags)))

did-read : (error : ReplyError) (side : Side) (n : ℕ) (x : Exchange) (steps : List Step) (c : Content) (d : DiskState)
    → d.content ≡ Some (after steps c) → AreStepsBelow n steps → AnswersRead side x.request error x.bytes d x.next → Did error kinds.Read n side.keying x steps c
did-read Done side n x steps c d told below h = did-none Done kinds.Read n side.keying x steps c d (tt, refl) told below h.1.logs
did-read Failed side n x steps c d told below h =
    elim h.2 [
      | inl fails ↦ did-none Failed kinds.Read n side.keying x steps c d (inl refl) told below (fails-none fails)
      | inr read ↦ did-none Failed kinds.Read n side.keying x steps c d (inl refl) told below read.0
    ]
did-read Invalid side n x steps c d told below h = did-still Invalid kinds.Read n side.keying x steps c d refl told below h.2
did-read ReadOnly side n x steps c d told below h = absurd h
did-read PassesEnd side n x steps c d told below h = absurd h
did-read NoRoom side n x steps c d told below h = absurd h

-- the sectors of a write are there, as the content says
room-told : (k : Keying) (q : Request) (c : Content) (d : DiskState) → IsKeying k → d.content ≡ Some c → FitsIn k d q
    → first_sector k (range_of q) + sectors_covered k (range_of q) ≤ content_media k c
room-told k q c d is told inside =
    let fits : IsContentOf d.size c = subst (FitsSize d.size) told d.well_formed.fits in
    subst (λ (m : ℕ). first_sector k (range_of q) + sectors_covered k (range_of q) ≤ media_sectors k.auth k.sectorsize (512 * m)) (sym fits.sectors)
    (covered_inside k d (range_of q) (omega (arith, is.at_least)) inside)

written : (k : Keying) (q : Request) (bytes whole : List ℕ) (c : Content) (d : DiskState) → IsKeying k → d.content ≡ Some c → FitsIn k d q → AreBytes whole → Splices k (range_of q) bytes whole d → IsOfWrite k c q bytes whole
written k q bytes whole c d is told inside are splices = record {
  are = are;
  inside = room-told k q c d is told inside;
  splices = subst (λ (o : Option Content). IfSome o (λ c. IsSpliced k c (range_of q) bytes whole)) told splices;
}

-- a write of which the first part was made
did-in-part : (kind : RequestKind) (side : Side) (n : ℕ) (x : Exchange) (payload : List ℕ) (steps : List Step) (c : Content) (d : DiskState) → IsKeying side.keying
    → ((whole : List ℕ) → steps_of_kind kind n side.keying x whole ≡ steps_of_write n side.keying x.request whole)
    → ((whole : List ℕ) → IsOfWrite side.keying (after steps c) x.request payload whole → IsOfKind kind side.keying (after steps c) x whole)
    → d.content ≡ Some (after steps c) → AreStepsBelow n steps → MayWrite side d x.request → IsWrittenInPart side.keying (range_of x.request) (has_fua x.request.flags) payload d x.next → Did Failed kind n side.keying x steps c
did-in-part kind side n x payload steps c d is same of told below may w =
    did-part kind n side.keying x steps c d w.whole (of w.whole (written side.keying x.request payload w.whole (after steps c) d is told may.inside w.are w.splices)) told
    (subst (λ (s : List Step). AreStepsBelow (n + 1) (steps ++ s)) (sym (same w.whole)) (write-fits n side.keying x steps w.whole below is (sym w.size) w.are))
    (subst (λ (e : List Event). FailsIn e d x.next) (sym (ap events_of (same w.whole) ∙ write-logs n side.keying x w.whole)) w.fails)

-- so it is, if room was wanting
did-no-room : (kind : RequestKind) (n : ℕ) (k : Keying) (x : Exchange) (steps : List Step) (c : Content) → Did Failed kind n k x steps c → Did NoRoom kind n k x steps c
did-no-room kind n k x steps c h = record { deed = h.deed; by = h.by; content = h.content; below = h.below }

did-write : (error : ReplyError) (kind : RequestKind) (side : Side) (n : ℕ) (x : Exchange) (payload : List ℕ) (steps : List Step) (c : Content) (d : DiskState) → IsKeying side.keying
    → ((whole : List ℕ) → steps_of_kind kind n side.keying x whole ≡ steps_of_write n side.keying x.request whole)
    → ((whole : List ℕ) → IsOfWrite side.keying (after steps c) x.request payload whole → IsOfKind kind side.keying (after steps c) x whole)
    → d.content ≡ Some (after steps c) → AreStepsBelow n steps → AnswersWrite side x.wanting x.request payload error d x.next → Did error kind n side.keying x steps c
did-write Done kind side n x payload steps c d is same of told below h =
    let w = h.1 in
    did-all kind n side.keying x steps c d w.whole (of w.whole (written side.keying x.request payload w.whole (after steps c) d is told h.0.inside w.are w.splices)) told
    (subst (λ (s : List Step). AreStepsBelow (n + 1) (steps ++ s)) (sym (same w.whole)) (write-fits n side.keying x steps w.whole below is (sym w.size) w.are))
    (subst (λ (e : List Event). Logs e d x.next) (sym (ap events_of (same w.whole) ∙ write-logs n side.keying x w.whole)) w.logs)
did-write Failed kind side n x payload steps c d is same of told below h =
    elim h.1 [
      | inl none ↦ elim none [
        | inl fails ↦ did-none Failed kind n side.keying x steps c d (inl refl) told below (fails-none fails)
        | inr read ↦ did-none Failed kind n side.keying x steps c d (inl refl) told below read.0
      ]
      | inr w ↦ did-in-part kind side n x payload steps c d is same of told below h.0 w.1
    ]
did-write NoRoom kind side n x payload steps c d is same of told below h =
    did-no-room kind n side.keying x steps c (did-in-part kind side n x payload steps c d is same of told below h.0 h.2)
did-write ReadOnly kind side n x payload steps c d is same of told below h = did-still ReadOnly kind n side.keying x steps c d refl told below h.1
did-write Invalid kind side n x payload steps c d is same of told below h = did-still Invalid kind n side.keying x steps c d refl told below h.1
did-write PassesEnd kind side n x payload steps c d is same of told below h = did-still PassesEnd kind n side.keying x steps c d refl told below h.1

flush-fits : (n : ℕ) (steps : List Step) → AreStepsBelow n steps → AreStepsBelow (n + 1) (steps ++ Flush ∷ [])
flush-fits n steps below =
    AreStepsBelow-raw (n + 1) 0 steps (event.Flush ∷ []) (AreStepsBelow-more n steps below) (All-cons (IsEventOf 0) event.Flush [] tt (All-nil (IsEventOf 0)))

did-flush : (error : ReplyError) (n : ℕ) (k : Keying) (x : Exchange) (steps : List Step) (c : Content) (d : DiskState)
    → d.content ≡ Some (after steps c) → AreStepsBelow n steps → AnswersFlush x.request error d x.next → Did error kinds.Flush n k x steps c
did-flush Done n k x steps c d told below h = did-all kinds.Flush n k x steps c d [] tt told (flush-fits n steps below) h.1
did-flush Failed n k x steps c d told below h = did-part kinds.Flush n k x steps c d [] tt told (flush-fits n steps below) h.1
did-flush ReadOnly n k x steps c d told below h = absurd h
did-flush Invalid n k x steps c d told below h = did-still Invalid kinds.Flush n k x steps c d refl told below h.1
did-flush PassesEnd n k x steps c d told below h = absurd h
did-flush NoRoom n k x steps c d told below h = absurd h

did-kind : (kind : RequestKind) (side : Side) (n : ℕ) (x : Exchange) (steps : List Step) (c : Content) (d : DiskState) → IsKeying side.keying
    → d.content ≡ Some (after steps c) → AreStepsBelow n steps → ServesKind kind side x d → Did x.error kind n side.keying x steps c
did-kind kinds.Read side n x steps c d is told below h = did-read x.error side n x steps c d told below h.1
did-kind kinds.Write side n x steps c d is told below h =
    did-write x.error kinds.Write side n x x.payload steps c d is (λ whole. refl) (λ whole of. of) told below h.3
did-kind kinds.WriteZeroes side n x steps c d is told below h =
    did-write x.error kinds.WriteZeroes side n x (zeros_of x.request) steps c d is (λ whole. refl) (λ whole of. of) told below h.2
did-kind kinds.Flush side n x steps c d is told below h = did-flush x.error n side.keying x steps c d told below h.2
did-kind kinds.Unknown side n x steps c d is told below h =
    did-still x.error kinds.Unknown n side.keying x steps c d
    (subst (λ (e : ReplyError). DidBy e kinds.Unknown n side.keying (after steps c) x (record { whole = []; count = 0 })) (sym h.2) refl) told below h.3
did-kind kinds.Disconnect side n x steps c d is told below h = absurd h

-- ---- all exchanges

record DidAll (n : ℕ) (k : Keying) (xs : List Exchange) (steps : List Step) (c : Content) (new : DiskState) : Type 0 where
  pub deeds : List Deed
  pub did : DidEach n k (after steps c) xs deeds
  pub content : new.content ≡ Some (after (steps ++ session_steps n k xs deeds) c)
  pub below : AreStepsBelow (n + length xs) (steps ++ session_steps n k xs deeds)

did-exchanges : (xs : List Exchange) (side : Side) (n : ℕ) (steps : List Step) (c : Content) (d new : DiskState) → IsKeying side.keying
    → d.content ≡ Some (after steps c) → AreStepsBelow n steps → ServesExchanges side xs d new → DidAll n side.keying xs steps c new
did-exchanges [] side n steps c d new is told below h = record {
  deeds = [];
  did = tt;
  content = ap (λ (e : DiskState). e.content) h ∙ told ∙ ap (λ (l : List Step). Some (after l c)) (sym (append-nil steps));
  below = let same : n ≡ n + 0 = omega arith in
      subst (λ (m : ℕ). AreStepsBelow m (steps ++ [])) same (subst (AreStepsBelow n) (sym (append-nil steps)) below);
}
did-exchanges (x ∷ xs) side n steps c d new is told below h =
    let k = side.keying in
    let one = did-kind (request_kind x.request.code) side n x steps c d is told below h.0.1 in
    let mine : List Step = exchange_steps n k x one.deed in
    let rest = did-exchanges xs side (n + 1) (steps ++ mine) c x.next new is one.content one.below h.1 in
    let joins = append_assoc steps mine (session_steps (n + 1) k xs rest.deeds) in
    let count : n + 1 + length xs ≡ n + length (x ∷ xs) = omega arith in
    record {
      deeds = one.deed ∷ rest.deeds;
      did = (
        record { by = one.by; left = one.content ∙ ap (λ (now : Content). Some now) (after-then c steps mine) },
        subst (λ (now : Content). DidEach (n + 1) k now xs rest.deeds) (after-then c steps mine) rest.did,
      );
      content = rest.content ∙ ap (λ (l : List Step). Some (after l c)) joins;
      below = subst (λ (m : ℕ). AreStepsBelow m (steps ++ (mine ++ session_steps (n + 1) k xs rest.deeds))) count (subst (AreStepsBelow (n + 1 + length xs)) joins rest.below);
    }

pub told_content : (d : DiskState) (c : Content) → d.content ≡ Some c → IsContentOf (length c.base) c
told_content d c told =
    let fits : IsContentOf d.size c = subst (FitsSize d.size) told d.well_formed.fits in
    subst (λ (m : ℕ). IsContentOf m c) (sym fits.sectors) fits

pub nothing_after : (c : Content) → after [] c ≡ c
nothing_after c = ap (λ (h : List Event). record { base = c.base; history = h }) (append-nil c.history)

pub session-survives : (side : Side) (xs : List Exchange) (old new : DiskState) (c : Content) → IsKeying side.keying → old.content ≡ Some c
    → ServesExchanges side xs old new → Survives side.keying xs c new
session-survives side xs old new c is told h =
    let all = did-exchanges xs side 0 [] c old new is (told ∙ ap Some (sym (nothing_after c))) AreStepsBelow-none h in
    record {
      deeds = all.deeds;
      did = subst (λ (now : Content). DidEach 0 side.keying now xs all.deeds) (nothing_after c) all.did;
      content = all.content;
      fit = all.below.fit;
      endures = λ t key sector is_key below. endures c (session_steps 0 side.keying xs all.deeds) t key sector (told_content old c told) all.below.fit is_key below;
    }
