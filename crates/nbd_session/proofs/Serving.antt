-- Requests that are taken, served and answered.
use Rattle.std.proofs.Common.{◌≡◌, ◌∙◌, inl, inr, ℕ, ◌+◌, ◌-◌, ◌%◌, ◌<◌, ◌≤◌, Bool, true, false, Option, List, [], ◌++◌, length, replicate, take, drop, None, Some, Result, Err, refl, ap, sym, subst, arith, append-nil, length-drop, length-take-le}
use Rattle.std.proofs.Math.Seq.{drop-append-add, take-append-add, take-append_seam}
use Rattle.std.proofs.lemmas.List.{drop-drop, drop-take, take-append-le, take-take}
use Rattle.std.proofs.lemmas.Option.{none-some, same_Some}
use Rattle.block_traits.specs.Disk.{DiskState}
use Rattle.block_traits.specs.Streams.{SinkState, SourceState}
use Rattle.byte_ranges.specs.Ranges.{skipped}
use Rattle.byte_ranges.specs.Reads.{CannotReadRange, IsRangeReadAs}
use Rattle.byte_ranges.specs.Writes.{WritesRange}
use Rattle.byte_ranges.specs.declared.ranges.ByteRange.{ByteRange}
use Rattle.byte_ranges.specs.declared.splices.Written.{Written}
use Rattle.byte_ranges.specs.declared.splices.Written.TheVariants.{Whole, EdgeUnread, WriteFailed, FlushFailed}
use Rattle.nbd_words.specs.Transmission.{has_fua, reply_head, request_in, request_kind}
use Rattle.nbd_words.specs.declared.transmission.Request.{Request}
use Rattle.nbd_words.specs.declared.transmission.RequestKind.{RequestKind}
use Rattle.nbd_words.specs.declared.transmission.RequestKind.TheVariants as kinds
use Rattle.nbd_words.specs.declared.transmission.ReplyError.{ReplyError}
use Rattle.nbd_words.specs.declared.transmission.ReplyError.TheVariants.{Done, Failed, Invalid}
use Rattle.nbd_negotiation.specs.Streams.{Fills, GivesBytes, SourceGave}
use Rattle.nbd_negotiation.specs.declared.streams.End.{End}
use Rattle.nbd_negotiation.specs.declared.streams.End.TheVariants.{Closed, ReadFault, WriteFault, Malformed}
use Rattle.nbd_negotiation.proofs.Filling.{SourceGave-bare, SourceGave-then, fewer, part_filled}
use Rattle.nbd_session.specs.Denials.{denial_by}
use Rattle.nbd_session.specs.Requests.{AnswersRead, AnswersWrite, MayRead, MayWrite, ServesKind, write_error, Side, most, range_of, zeros_of}
use Rattle.nbd_session.specs.Served.{KindIsServed, ServesNone, ServesRequest, WriteIsCut}
use Rattle.nbd_session.specs.Stops.{IsCut, LacksBytes, Stops}
use Rattle.nbd_session.specs.declared.denials.Denial.{Denial}
use borrow.Rule.Slice.PartMut.{mid_of, put_mid, post_of}

-- ---- the room

-- what lies from the part that was put in on
pub from_part : (s k : ℕ) (room ys : List ℕ) → s ≤ length room → drop s (put_mid s k room ys) ≡ ys ++ post_of s k room
from_part s k room ys inside =
    let place : s ≡ length (take s room) + 0 = omega (arith, length-take-le s room inside) in
    ap (λ (m : ℕ). drop m (put_mid s k room ys)) place ∙ drop-append-add (take s room) (ys ++ post_of s k room) 0

-- a head that was put before bytes, together with these bytes
pub head_and_bytes : (s n k : ℕ) (room head : List ℕ) → k ≡ 16 → length head ≡ 16 → s ≤ length room → take (16 + n) (drop s (put_mid s k room head)) ≡ head ++ take n (drop (s + 16) room)
head_and_bytes s n k room head same long inside =
    ap (take (16 + n)) (from_part s k room head inside)
    ∙ ap (λ (m : ℕ). take (m + n) (head ++ post_of s k room)) (sym long)
    ∙ take-append-add head (post_of s k room) n
    ∙ ap (λ (l : List ℕ). head ++ take n l) (ap (λ (m : ℕ). drop m (drop s room)) same ∙ drop-drop 16 s room)

-- what is given of the room, once the head is there
pub given_of : (s n : ℕ) (room piece head : List ℕ) → piece ≡ head → length head ≡ 16 → s ≤ length room → take (s + 16 + n - s) (drop s (put_mid s (s + 16 - s) room piece)) ≡ head ++ take n (drop (s + 16) room)
given_of s n room piece head same long inside =
    let many : s + 16 + n - s ≡ 16 + n = omega arith in
    ap (λ (m : ℕ). take m (drop s (put_mid s (s + 16 - s) room piece))) many
    ∙ ap (λ (l : List ℕ). take (16 + n) (drop s (put_mid s (s + 16 - s) room l))) same
    ∙ head_and_bytes s n (s + 16 - s) room head (omega arith) long inside

pub many_of : (a n most : ℕ) (room : List ℕ) → length room ≡ most → a + n ≤ most → length (mid_of a (a + n - a) room) ≡ n
many_of a n most room are inside = length-take-le (a + n - a) (drop a room) (omega (arith, length-drop a room, are, inside)) ∙ omega arith

-- bytes of a part that was put in at 16
pub read_bytes : (s n k : ℕ) (room into : List ℕ) → 16 ≤ length room → s + n ≤ length into → take n (drop (s + 16) (put_mid 16 k room into)) ≡ take n (drop s into)
read_bytes s n k room into large inside =
    let place : s + 16 ≡ length (take 16 room) + s = omega (arith, length-take-le 16 room large) in
    ap (λ (m : ℕ). take n (drop m (put_mid 16 k room into))) place
    ∙ ap (take n) (drop-append-add (take 16 room) (into ++ post_of 16 k room) s)
    ∙ sym (drop-take s n (into ++ post_of 16 k room))
    ∙ ap (drop s) (take-append-le (s + n) into (post_of 16 k room) inside)
    ∙ drop-take s n into

-- bytes of the first bytes
pub of_first : (s n w : ℕ) (room : List ℕ) → s + n ≤ w → take n (drop s (take w room)) ≡ take n (drop s room)
of_first s n w room inside = sym (drop-take s n (take w room)) ∙ ap (drop s) (take-take (s + n) w room inside) ∙ drop-take s n room

-- the part that was put in
pub part_there : (s n k : ℕ) (room ys : List ℕ) → length ys ≡ n → s ≤ length room → take n (drop s (put_mid s k room ys)) ≡ ys
part_there s n k room ys long inside =
    ap (take n) (from_part s k room ys inside) ∙ ap (λ (m : ℕ). take m (ys ++ post_of s k room)) (sym long) ∙ take-append_seam ys (post_of s k room)

-- the bytes that were filled in where they belong
pub payload_there : (offset size there n k : ℕ) (room ys : List ℕ) → size ≡ there → length ys ≡ n → offset % size ≤ length room → take n (drop (offset % there) (put_mid (offset % size) k room ys)) ≡ ys
payload_there offset size there n k room ys same long inside =
    ap (λ (m : ℕ). take n (drop (offset % m) (put_mid (offset % size) k room ys))) (sym same) ∙ part_there (offset % size) n k room ys long inside

pub written_there : (side : Side) (wanting : Bool) (q : Request) (payload other : List ℕ) (error : ReplyError) (old new : DiskState) → other ≡ payload → AnswersWrite side wanting q other error old new → AnswersWrite side wanting q payload error old new
written_there side wanting q payload other error old new same h = subst (λ (l : List ℕ). AnswersWrite side wanting q l error old new) same h

-- ---- reads and writes of a request's range

pub read_done : (side : Side) (q : Request) (r : ByteRange) (skip : ℕ) (bytes : List ℕ) (old new : DiskState) → r ≡ range_of q → MayRead side.keying old q
    → IsRangeReadAs side.keying r (take r.count (drop skip bytes)) old new → AnswersRead side q Done (take q.length (drop skip bytes)) old new
read_done side q r skip bytes old new same may h =
    (may, subst (λ (range : ByteRange). IsRangeReadAs side.keying range (take range.count (drop skip bytes)) old new) same h)

pub read_failed : (side : Side) (q : Request) (r : ByteRange) (old new : DiskState) → r ≡ range_of q → MayRead side.keying old q
    → CannotReadRange side.keying r old new → AnswersRead side q Failed [] old new
read_failed side q r old new same may h = (may, refl, subst (λ (range : ByteRange). CannotReadRange side.keying range old new) same h)

-- a write from the room, in which the bytes stood among those of the sectors
write_by : (answer : Written) (side : Side) (q : Request) (room : List ℕ) (r : ByteRange) (flush : Bool) (size skip whole : ℕ) (old new : DiskState) → r ≡ range_of q → flush ≡ has_fua q.flags
    → size ≡ side.keying.sectorsize → skip ≡ q.offset % size → skip + q.length ≤ whole → WritesRange side.keying r flush (take r.count (drop skip (take whole room))) answer old new
    → WritesRange side.keying (range_of q) (has_fua q.flags) (take q.length (drop (skipped side.keying (range_of q)) room)) answer old new
write_by answer side q room r flush size skip whole old new same flag is place inside h =
    let bytes = of_first skip q.length whole room inside ∙ ap (λ (m : ℕ). take q.length (drop m room)) (place ∙ ap (λ (m : ℕ). q.offset % m) is) in
    subst (λ (l : List ℕ). WritesRange side.keying (range_of q) (has_fua q.flags) l answer old new) bytes
    (subst (λ (b : Bool). WritesRange side.keying (range_of q) b (take q.length (drop skip (take whole room))) answer old new) flag
    (subst (λ (range : ByteRange). WritesRange side.keying range flush (take range.count (drop skip (take whole room))) answer old new) same h))

-- the reply to what became of a write
answered : (written : Written) (wanting : Bool) (side : Side) (q : Request) (payload : List ℕ) (old new : DiskState) → MayWrite side old q
    → WritesRange side.keying (range_of q) (has_fua q.flags) payload written old new → AnswersWrite side wanting q payload (write_error written wanting) old new
answered Whole wanting side q payload old new may h = (may, h)
answered EdgeUnread wanting side q payload old new may h = (may, inl h)
answered WriteFailed true side q payload old new may h = (may, refl, h)
answered WriteFailed false side q payload old new may h = (may, inr (inl refl, h))
answered FlushFailed wanting side q payload old new may h = (may, inr (inr h.0, h.1))

pub write_answered : (written : Written) (wanting : Bool) (error : ReplyError) (side : Side) (q : Request) (room : List ℕ) (r : ByteRange) (flush : Bool) (size skip whole : ℕ) (old new : DiskState) → MayWrite side old q → r ≡ range_of q → flush ≡ has_fua q.flags
    → size ≡ side.keying.sectorsize → skip ≡ q.offset % size → skip + q.length ≤ whole → WritesRange side.keying r flush (take r.count (drop skip (take whole room))) written old new → error ≡ write_error written wanting
    → AnswersWrite side wanting q (take q.length (drop (skipped side.keying (range_of q)) room)) error old new
write_answered written wanting error side q room r flush size skip whole old new may same flag is place inside h told =
    subst (λ (e : ReplyError). AnswersWrite side wanting q (take q.length (drop (skipped side.keying (range_of q)) room)) e old new) (sym told)
    (answered written wanting side q (take q.length (drop (skipped side.keying (range_of q)) room)) old new may (write_by written side q room r flush size skip whole old new same flag is place inside h))

-- the reply to zeros, by what became of them
pub zeros_answered : (written : Written) (wanting : Bool) (error : ReplyError) (side : Side) (q : Request) (r : ByteRange) (flush : Bool) (old new : DiskState) → MayWrite side old q → r ≡ range_of q → flush ≡ has_fua q.flags
    → WritesRange side.keying r flush (replicate r.count 0) written old new → error ≡ write_error written wanting → AnswersWrite side wanting q (zeros_of q) error old new
zeros_answered written wanting error side q r flush old new may same flag h told =
    subst (λ (e : ReplyError). AnswersWrite side wanting q (zeros_of q) e old new) (sym told)
    (answered written wanting side q (zeros_of q) old new may
    (subst (λ (b : Bool). WritesRange side.keying (range_of q) b (zeros_of q) written old new) flag
    (subst (λ (range : ByteRange). WritesRange side.keying range flush (replicate range.count 0) written old new) same h)))

-- ---- one request

SourceGave-nothing : (xs : List ℕ) {source middle rest : SourceState} → SourceGave xs source middle → rest ≡ middle → SourceGave xs source rest
SourceGave-nothing xs {source} h same = subst (λ (s : SourceState). SourceGave xs source s) (sym same) h

bare : {xs : List ℕ} {source middle rest : SourceState} → SourceGave xs source middle → rest ≡ middle → SourceGave (xs ++ []) source rest
bare {xs} h same = SourceGave-bare (SourceGave-nothing xs h same)

pub gives-bare : (xs : List ℕ) (result : Result (Unit {0}) End) (sink after : SinkState) → GivesBytes xs sink result after → GivesBytes (xs ++ []) sink result after
gives-bare xs result sink after h = subst (λ (l : List ℕ). GivesBytes l sink result after) (sym (append-nil xs)) h

-- an exchange of a request of this kind
one : (kind : RequestKind) (side : Side) (wanting : Bool) (head : List ℕ) (q : Request) (payload : List ℕ) (error : ReplyError) (bytes : List ℕ) (old new : DiskState) (source rest : SourceState) (sink : SinkState)
    (result : Result (Unit {0}) End) (after : SinkState) (denied : Option Denial) → length head ≡ 28 → request_in head ≡ Some q → request_kind q.code ≡ kind
    → denied ≡ denial_by kind error q.offset
    → ServesKind kind side (record { head = head; request = q; payload = payload; error = error; bytes = bytes; wanting = wanting; next = new }) old
    → SourceGave (head ++ payload) source rest → GivesBytes (reply_head error q.cookie ++ bytes) sink result after → ServesRequest side wanting old new source rest sink result after denied
one kind side wanting head q payload error bytes old new source rest sink result after denied long reads is noted serves took gives =
    inl (record {
      exchange = record { head = head; request = q; payload = payload; error = error; bytes = bytes; wanting = wanting; next = new };
      serves = (
        record { size = long; reads = reads },
        subst (λ (j : RequestKind). ServesKind j side (record { head = head; request = q; payload = payload; error = error; bytes = bytes; wanting = wanting; next = new }) old) (sym is) serves,
      );
      next = refl;
      wants = refl;
      took = took;
      gives = gives;
      noted = subst (λ (j : RequestKind). denied ≡ denial_by j error q.offset) (sym is) noted;
    })

-- if a request is cut, the source ended or failed
cut_stops : (end : End) (taken bytes : List ℕ) (source middle rest : SourceState) → source.faults ≤ middle.faults → IsCut taken → Fills bytes middle (Err end) rest → Stops (Err end) taken source rest
cut_stops Closed taken bytes source middle rest later cut h = inr (cut, h.1)
cut_stops ReadFault taken bytes source middle rest later cut h = (cut, omega (arith, later, h.1))
cut_stops WriteFault taken bytes source middle rest later cut h = absurd h
cut_stops Malformed taken bytes source middle rest later cut h = absurd h

none : (end : End) (taken : List ℕ) (old new : DiskState) (source rest : SourceState) (sink : SinkState) (result : Result (Unit {0}) End) (after : SinkState) (denied : Option Denial) → result ≡ Err end
    → SourceGave taken source rest → Stops (Err end) taken source rest → new ≡ old → after ≡ sink → denied ≡ None → ServesNone old new source rest sink result after denied
none end taken old new source rest sink result after denied why took stops disk silent noted =
    record { bytes = taken; took = took; stops = subst (λ (r : Result (Unit {0}) End). Stops r taken source rest) (sym why) stops; disk = disk; silent = silent; noted = noted }

-- the bytes of a write didn't all come
no_bytes : (side : Side) (wanting : Bool) (head : List ℕ) (q : Request) (old new : DiskState) (source middle rest : SourceState) (sink : SinkState) (result : Result (Unit {0}) End) (after : SinkState) (denied : Option Denial)
    → length head ≡ 28 → request_in head ≡ Some q → request_kind q.code ≡ kinds.Write → SourceGave head source middle → WriteIsCut q old new middle rest sink result after denied
    → ServesRequest side wanting old new source rest sink result after denied
no_bytes side wanting head q old new source middle rest sink result after denied long reads is took cut =
    let part = part_filled cut.end cut.bytes middle rest cut.fills in
    let bytes : List ℕ = take part.count cut.bytes in
    let lacks : LacksBytes (head ++ bytes) = record {
      head = head;
      part = bytes;
      are = refl;
      size = long;
      request = q;
      reads = reads;
      kind = is;
      few = cut.few;
      lacks = fewer q.length part.count cut.bytes cut.size part.within;
    } in
    inr (none cut.end (head ++ bytes) old new source rest sink result after denied cut.why (SourceGave-then took part.gave)
    (cut_stops cut.end (head ++ bytes) cut.bytes source middle rest took.later (inr lacks) cut.fills) cut.disk cut.silent cut.noted)

by-kind : (kind : RequestKind) (side : Side) (wanting : Bool) (head : List ℕ) (q : Request) (old new : DiskState) (source middle rest : SourceState) (sink : SinkState) (result : Result (Unit {0}) End) (after : SinkState) (denied : Option Denial)
    → length head ≡ 28 → request_in head ≡ Some q → request_kind q.code ≡ kind → SourceGave head source middle → KindIsServed kind side wanting q old new middle rest sink result after denied
    → ServesRequest side wanting old new source rest sink result after denied
by-kind kinds.Read side wanting head q old new source middle rest sink result after denied long reads is took h =
    one kinds.Read side wanting head q [] h.1.error h.1.bytes old new source rest sink result after denied long reads is h.2 (refl, h.1.reads) (bare took h.0) h.1.gives
by-kind kinds.Write side wanting head q old new source middle rest sink result after denied long reads is took h = elim h [
  | inl more ↦ inr (none Malformed head old new source rest sink result after denied more.why (SourceGave-nothing head took more.untaken)
      (record {
        size = long;
        none = λ request same. let this : q ≡ request = same_Some q request (sym reads ∙ same) in
            subst (λ (r : Request). (request_kind r.code ≡ kinds.Write) × (most < r.length)) this (is, more.more);
      })
      more.disk more.silent more.noted)
  | inr served ↦ elim served [
    | inl w ↦ one kinds.Write side wanting head q w.payload w.error [] old new source rest sink result after denied long reads is w.noted (w.size, w.few, refl, w.writes)
        (SourceGave-then took w.took) (gives-bare (reply_head w.error q.cookie) result sink after w.gives)
    | inr cut ↦ no_bytes side wanting head q old new source middle rest sink result after denied long reads is took cut
  ]
]
by-kind kinds.WriteZeroes side wanting head q old new source middle rest sink result after denied long reads is took h =
    one kinds.WriteZeroes side wanting head q [] h.1.error [] old new source rest sink result after denied long reads is h.1.noted (refl, refl, h.1.writes) (bare took h.0) (gives-bare (reply_head h.1.error q.cookie) result sink after h.1.gives)
by-kind kinds.Flush side wanting head q old new source middle rest sink result after denied long reads is took h =
    one kinds.Flush side wanting head q [] h.1.error [] old new source rest sink result after denied long reads is h.1.noted (refl, refl, h.1.flushes) (bare took h.0) (gives-bare (reply_head h.1.error q.cookie) result sink after h.1.gives)
by-kind kinds.Unknown side wanting head q old new source middle rest sink result after denied long reads is took h =
    one kinds.Unknown side wanting head q [] Invalid [] old new source rest sink result after denied long reads is h.3 (refl, refl, refl, h.1) (bare took h.0) (gives-bare (reply_head Invalid q.cookie) result sink after h.2)
by-kind kinds.Disconnect side wanting head q old new source middle rest sink result after denied long reads is took h =
    inr (none Closed head old new source rest sink result after denied h.0 (SourceGave-nothing head took h.1) (inl (record { size = long; request = q; reads = reads; kind = is })) h.2 h.3 h.4)

pub request_served : (side : Side) (wanting : Bool) (head : List ℕ) (q : Request) (old new : DiskState) (source middle rest : SourceState) (sink : SinkState) (result : Result (Unit {0}) End) (after : SinkState) (denied : Option Denial)
    → length head ≡ 28 → request_in head ≡ Some q → SourceGave head source middle → KindIsServed (request_kind q.code) side wanting q old new middle rest sink result after denied
    → ServesRequest side wanting old new source rest sink result after denied
request_served side wanting head q old new source middle rest sink result after denied long reads took h =
    by-kind (request_kind q.code) side wanting head q old new source middle rest sink result after denied long reads refl took h

-- 28 bytes that aren't a request
pub no_request : (head : List ℕ) (d : DiskState) (source rest : SourceState) (sink : SinkState) → length head ≡ 28 → request_in head ≡ None → SourceGave head source rest
    → ServesNone d d source rest sink (Err Malformed) sink None
no_request head d source rest sink long reads took =
    none Malformed head d d source rest sink (Err Malformed) sink None refl took
    (record { size = long; none = λ request same. absurd (none-some request (sym reads ∙ same)) }) refl refl refl

-- the head of a request didn't come
pub no_head : (end : End) (head : List ℕ) (d : DiskState) (source rest : SourceState) (sink : SinkState) → length head ≡ 28 → Fills head source (Err end) rest
    → ServesNone d d source rest sink (Err end) sink None
no_head end head d source rest sink long h =
    let part = part_filled end head source rest h in
    let bytes : List ℕ = take part.count head in
    none end bytes d d source rest sink (Err end) sink None refl part.gave
    (cut_stops end bytes head source source rest (omega arith) (inl (fewer 28 part.count head long part.within)) h) refl refl refl
