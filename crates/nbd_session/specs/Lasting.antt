-- What was answered before a flush that was answered too: it lasts, whenever power fails after that.
use Rattle.std.specs.Prelude.{◌≡◌, ◌⊎◌, ℕ, ◌+◌, ◌-◌, ◌*◌, ◌<◌, ◌≤◌, Bool, true, false, List, [], ◌∷◌, ◌++◌, length, take, drop, get_or, Some, None, Result, Ok, Err, All, Contains}
use Rattle.std.specs.List.{AllByRecursion}
use Rattle.block_traits.specs.Content.{Content}
use Rattle.block_traits.specs.Crash.{IsTorn, IsUnsettled}
use Rattle.block_traits.specs.Disk.{DiskState, FailsIn}
use Rattle.byte_ranges.specs.Ranges.{first_sector, range_reading, sectors_covered, skipped}
use Rattle.byte_ranges.specs.declared.ranges.ByteRange.{ByteRange}
use Rattle.eli_base.specs.Keying.{Keying, keying_of}
use Rattle.eli_base.specs.Units.{unit_bytes_of}
use Rattle.eli_base.specs.declared.parameters.Params.{Params}
use Rattle.eli_metadata.specs.declared.metadata.Metadata.{Metadata}
use Rattle.provider.specs.Answers.{AttachAnswers}
use Rattle.provider.specs.Attached.{Attached}
use Rattle.provider.specs.declared.faults.AttachFault.{AttachFault}
use Rattle.provider.specs.declared.faults.AttachFault.TheVariants as attach
use Rattle.provider_readings.specs.Attaching.{HasImage, IsOpenedBy}
use Rattle.provider_readings.specs.Data.{survivor}
use Rattle.readings.specs.Crashes.{image_unit}
use Rattle.readings.specs.Ever.{placed_at}
use Rattle.readings.specs.Read.{are_chained}
use Rattle.readings.specs.Steps.{Step, Flush, after, cell}
use Rattle.readings.specs.Survivors.{IsStrange, ReadsAsPut, content_media, moment}
use Rattle.readings.specs.Writings.{PutUnit, Writing, Put}
use Rattle.sealing.specs.Sectors.{unit_place, unit_size, units}
use Rattle.nbd_words.specs.Transmission.{has_fua, request_kind}
use Rattle.nbd_words.specs.declared.transmission.ReplyError.{ReplyError}
use Rattle.nbd_words.specs.declared.transmission.ReplyError.TheVariants.{Done, ReadOnly, Failed, Invalid, PassesEnd, NoRoom}
use Rattle.nbd_words.specs.declared.transmission.RequestKind.{RequestKind}
use Rattle.nbd_words.specs.declared.transmission.RequestKind.TheVariants as kinds
use Rattle.nbd_session.specs.Durable.{Deed, Survives, exchange_steps, session_steps}
use Rattle.nbd_session.specs.Requests.{Exchange, ServesExchange, Side, range_of, side_of, zeros_of}

-- a range is a part of another
pub record IsPartOf (part whole : ByteRange) : Type 0 where
  pub starts : whole.offset ≤ part.offset
  pub ends : part.offset + part.count ≤ whole.offset + whole.count

-- its bytes, of those of the other
abbrev pub part_bytes : ByteRange → ByteRange → List ℕ → List ℕ
part_bytes part whole bytes = take part.count (drop (part.offset - whole.offset) bytes)

-- no logical sector has bytes of both ranges
abbrev pub AreApart : Keying → ByteRange → ByteRange → Type 0
AreApart k r q =
    (first_sector k r + sectors_covered k r ≤ first_sector k q) ⊎ (first_sector k q + sectors_covered k q ≤ first_sector k r)

-- an answer by which a client knows that nothing was done
abbrev pub IsRefusingReply : ReplyError → Type 0
IsRefusingReply Done = ⊥
IsRefusingReply Failed = ⊥
IsRefusingReply NoRoom = ⊥
IsRefusingReply ReadOnly = Unit {0}
IsRefusingReply Invalid = Unit {0}
IsRefusingReply PassesEnd = Unit {0}

-- an exchange writes no sector of this range: it is no write, or one of other sectors, or was refused
abbrev pub LeavesAloneBy : RequestKind → Keying → ByteRange → Exchange → Type 0
LeavesAloneBy kinds.Write k r x = IsRefusingReply x.error ⊎ AreApart k r (range_of x.request)
LeavesAloneBy kinds.WriteZeroes k r x = IsRefusingReply x.error ⊎ AreApart k r (range_of x.request)
LeavesAloneBy kind k r x = Unit {0}

abbrev pub LeavesAlone : Keying → ByteRange → Exchange → Type 0
LeavesAlone k r x = LeavesAloneBy (request_kind x.request.code) k r x

-- an exchange was answered, and flushed the disk before: a flush, or a write with NBD_CMD_FLAG_FUA
abbrev pub FlushesBy : RequestKind → Exchange → Type 0
FlushesBy kinds.Flush x = x.error ≡ Done
FlushesBy kinds.Write x = (x.error ≡ Done) × (has_fua x.request.flags ≡ true)
FlushesBy kinds.WriteZeroes x = (x.error ≡ Done) × (has_fua x.request.flags ≡ true)
FlushesBy kind x = ⊥

abbrev pub HasFlushed : Exchange → Type 0
HasFlushed x = FlushesBy (request_kind x.request.code) x

-- so did one of these
abbrev pub OneHasFlushed : List Exchange → Type 0
OneHasFlushed [] = ⊥
OneHasFlushed (x ∷ xs) = HasFlushed x ⊎ OneHasFlushed xs

-- the bytes of a write, or of a request for zeros
abbrev pub WroteBy : RequestKind → Exchange → List ℕ → Type 0
WroteBy kinds.Write x bytes = bytes ≡ x.payload
WroteBy kinds.WriteZeroes x bytes = bytes ≡ zeros_of x.request
WroteBy kind x bytes = ⊥

-- One of a session's exchanges is a write of these bytes that was done, and it or one of those just after it has
-- flushed. What all others wrote, and where, is left open.
pub record IsFlushedWrite (xs : List Exchange) (x : Exchange) (bytes : List ℕ) : Type 0 where
  pub before : List Exchange
  pub between : List Exchange
  pub since : List Exchange
  pub are : xs ≡ before ++ (x ∷ (between ++ since))
  pub wrote : WroteBy (request_kind x.request.code) x bytes
  pub done : x.error ≡ Done
  pub flushed : HasFlushed x ⊎ OneHasFlushed between

-- so many steps are those of the exchanges up to the flush, or more
abbrev pub IsPastFlush : (k : Keying) (xs : List Exchange) (x : Exchange) (bytes : List ℕ) → IsFlushedWrite xs x bytes → List Deed → ℕ → Type 0
IsPastFlush k xs x bytes a deeds t = length (session_steps 0 k (a.before ++ (x ∷ a.between)) deeds) ≤ t

-- One of a session's exchanges is a write of these bytes, and was flushed. Neither the exchanges up to the flush nor
-- those after it wrote the sectors of this part of its range again.
pub record IsAcknowledged (k : Keying) (xs : List Exchange) (x : Exchange) (bytes : List ℕ) (part : ByteRange) : Type 0 where
  pub write : IsFlushedWrite xs x bytes
  pub part_is : IsPartOf part (range_of x.request)
  pub alone : AllByRecursion (LeavesAlone k part) (write.between ++ write.since)

-- A write that is acknowledged lasts. If power fails when the flush was answered, or at any moment later, each such
-- part of its range reads as its bytes there in every torn image that is left.
abbrev pub LastsIn : Keying → List Exchange → Content → List Deed → Type 0
LastsIn k xs c deeds = (x : Exchange) (bytes : List ℕ) (part : ByteRange) (a : IsAcknowledged k xs x bytes part) (t : ℕ) (image : List (List ℕ)) →
    IsPastFlush k xs x bytes a.write deeds t → IsTorn (moment t (session_steps 0 k xs deeds) c) image →
    range_reading k (survivor image) part ≡ Ok (part_bytes part (range_of x.request) bytes)

-- and so does whoever serves a read of just this part on a disk with that image, under the same keying: the answer has
-- the bytes of the write, or the disk failed
abbrev pub AnswersWith : ReplyError → Exchange → List ℕ → DiskState → Type 0
AnswersWith Done y bytes old = y.bytes ≡ bytes
AnswersWith Failed y bytes old = FailsIn [] old y.next
AnswersWith ReadOnly y bytes old = ⊥
AnswersWith Invalid y bytes old = Unit {0}
AnswersWith PassesEnd y bytes old = ⊥
AnswersWith NoRoom y bytes old = ⊥

abbrev pub ReadsLasting : Keying → List Exchange → Content → List Deed → Type 0
ReadsLasting k xs c deeds = (x : Exchange) (bytes : List ℕ) (part : ByteRange) (a : IsAcknowledged k xs x bytes part) (t : ℕ) (image : List (List ℕ)) →
    IsPastFlush k xs x bytes a.write deeds t → IsTorn (moment t (session_steps 0 k xs deeds) c) image →
    (side : Side) (y : Exchange) (old : DiskState) → side.keying ≡ k → HasImage image old → ServesExchange side y old →
    request_kind y.request.code ≡ kinds.Read → range_of y.request ≡ part → AnswersWith y.error y (part_bytes part (range_of x.request) bytes) old

-- ---- what may have been written again

-- a range has bytes of this logical sector
pub record Covers (k : Keying) (r : ByteRange) (sector : ℕ) : Type 0 where
  pub low : first_sector k r ≤ sector
  pub high : sector < first_sector k r + sectors_covered k r

-- the bytes that a write of a range gave one of its logical sectors: its own, spliced into what stood there (`DidBy`)
abbrev pub sector_given : Keying → ByteRange → Deed → ℕ → List ℕ
sector_given k r d sector = take k.sectorsize (drop ((sector - first_sector k r) * k.sectorsize) d.whole)

-- an exchange with this number, which is a write, placed this writing in the device sector of unit j of a logical
-- sector, by so many of its steps
pub record HasGiven (number : ℕ) (k : Keying) (x : Exchange) (d : Deed) (left sector j : ℕ) (w : Writing) : Type 0 where
  pub covers : Covers k (range_of x.request) sector
  pub is : w ≡ Put (record { number = number; keying = k; sector = sector; bytes = sector_given k (range_of x.request) d sector; unit = j })
  pub placed : Contains (placed_at (take left (exchange_steps number k x d)) (unit_place k sector j)) w

-- one of these did, the first of which has this number, by so many of their steps
abbrev pub OneHasGiven : ℕ → Keying → List Exchange → List Deed → ℕ → ℕ → ℕ → Writing → Type 0
OneHasGiven number k (x ∷ xs) (d ∷ ds) left sector j w =
    HasGiven number k x d left sector j w ⊎ OneHasGiven (number + 1) k xs ds (left - length (exchange_steps number k x d)) sector j w
OneHasGiven number k xs ds left sector j w = ⊥

-- how many of the first t steps are not of the exchanges before it
abbrev pub steps_left : (k : Keying) (xs : List Exchange) (x : Exchange) (bytes : List ℕ) → IsFlushedWrite xs x bytes → List Deed → ℕ → ℕ
steps_left k xs x bytes a deeds t = t - length (session_steps 0 k a.before deeds)

-- the write that was flushed did, or one after it, by the first t steps of the session
abbrev pub IsGivenSince : (k : Keying) (xs : List Exchange) (x : Exchange) (bytes : List ℕ) → IsFlushedWrite xs x bytes → List Deed → ℕ → ℕ → ℕ → Writing → Type 0
IsGivenSince k xs x bytes a deeds t sector j w =
    OneHasGiven (length a.before) k (x ∷ (a.between ++ a.since)) (drop (length a.before) deeds) (steps_left k xs x bytes a deeds t) sector j w

-- From the flush's answer on, all that a device sector of its range may hold was placed there by the write or by a
-- later one.
abbrev pub HoldsOrLater : Keying → List Exchange → Content → List Deed → Type 0
HoldsOrLater k xs c deeds = (x : Exchange) (bytes : List ℕ) (a : IsFlushedWrite xs x bytes) (t sector j : ℕ) →
    IsPastFlush k xs x bytes a deeds t → Covers k (range_of x.request) sector → j < units k →
    All (IsGivenSince k xs x bytes a deeds t sector j) (cell c (take t (session_steps 0 k xs deeds)) (unit_place k sector j))

-- a unit reads as one for which this holds
pub record ReadsAsSuch (P : Writing → Type 0) (k : Keying) (reading : Result (List ℕ) ℕ) : Type 0 where
  pub unit : PutUnit
  pub such : P (Put unit)
  pub reads : ReadsAsPut k unit reading

-- a device sector of an image was being written: it had more than one kept value, and has bytes that are none of them
pub record IsTornThere (cell : List Writing) (now : Content) (image : List (List ℕ)) (n : ℕ) : Type 0 where
  pub unsettled : IsUnsettled now n
  pub writing : Writing
  pub strange : IsStrange cell (get_or image n []) writing

-- So in every torn image each unit there reads as the write gave it, or as a later one did; or it was being written,
-- and then `Endures` says what it may read as.
abbrev pub UnitsLastOrLater : Keying → List Exchange → Content → List Deed → Type 0
UnitsLastOrLater k xs c deeds = (x : Exchange) (bytes : List ℕ) (a : IsFlushedWrite xs x bytes) (t sector j : ℕ) (image : List (List ℕ)) →
    IsPastFlush k xs x bytes a deeds t → Covers k (range_of x.request) sector → j < units k →
    IsTorn (moment t (session_steps 0 k xs deeds) c) image →
    ReadsAsSuch (IsGivenSince k xs x bytes a deeds t sector j) k (image_unit k sector image j)
    ⊎ IsTornThere (cell c (take t (session_steps 0 k xs deeds)) (unit_place k sector j)) (moment t (session_steps 0 k xs deeds) c) image (unit_place k sector j)

-- some bytes lie in unit j of the logical sector in which they begin
pub record IsInUnit (k : Keying) (j : ℕ) (r : ByteRange) : Type 0 where
  pub there : j < units k
  pub some : 0 < r.count
  pub starts : unit_bytes_of k.auth * j ≤ skipped k r
  pub ends : skipped k r + r.count ≤ unit_bytes_of k.auth * j + unit_size k j

-- the bytes aren't among the first 16 bytes of a unit that is chained to the one before it: those are lost if the two
-- units stem from different writes
abbrev pub KeepsFront : Keying → ℕ → ByteRange → Type 0
KeepsFront k j r = (are_chained k.cipher k.auth ≡ false) ⊎ (j ≡ 0) ⊎ (unit_bytes_of k.auth * j + 16 ≤ skipped k r)

-- no device sector of a logical sector has more than one kept value
abbrev pub IsSettled : Keying → Content → ℕ → Type 0
IsSettled k now sector = (j : ℕ) → j < units k → IsUnsettled now (unit_place k sector j) → ⊥

-- an exchange, which is a write, gave a part of one logical sector these bytes: inside the write's range its own bytes,
-- and outside of it what stood there before (`DidBy`)
pub record HasGivenBytes (k : Keying) (x : Exchange) (d : Deed) (part : ByteRange) (got : List ℕ) : Type 0 where
  pub covers : Covers k (range_of x.request) (first_sector k part)
  pub is : got ≡ take part.count (drop (skipped k part) (sector_given k (range_of x.request) d (first_sector k part)))
  pub own : (bytes : List ℕ) → WroteBy (request_kind x.request.code) x bytes → IsPartOf part (range_of x.request) →
      got ≡ part_bytes part (range_of x.request) bytes

-- one of these did, the first of which has this number, and was begun by so many of their steps
abbrev pub OneHasGivenBytes : ℕ → Keying → List Exchange → List Deed → ℕ → ByteRange → List ℕ → Type 0
OneHasGivenBytes number k (x ∷ xs) (d ∷ ds) left part got =
    ((0 < left) × HasGivenBytes k x d part got)
    ⊎ OneHasGivenBytes (number + 1) k xs ds (left - length (exchange_steps number k x d)) part got
OneHasGivenBytes number k xs ds left part got = ⊥

-- the write that was flushed did, or one after it, by the first t steps of the session
abbrev pub IsGivenPart : (k : Keying) (xs : List Exchange) (x : Exchange) (bytes : List ℕ) → IsFlushedWrite xs x bytes → List Deed → ℕ → ByteRange → List ℕ → Type 0
IsGivenPart k xs x bytes a deeds t part got =
    OneHasGivenBytes (length a.before) k (x ∷ (a.between ++ a.since)) (drop (length a.before) deeds) (steps_left k xs x bytes a deeds t) part got

-- A part of its range that lies in one unit, at a moment from the flush's answer on at which its logical sector wasn't
-- being written.
pub record IsSettledPart (k : Keying) (xs : List Exchange) (c : Content) (deeds : List Deed) (x : Exchange) (bytes : List ℕ) (a : IsFlushedWrite xs x bytes) (t : ℕ) (part : ByteRange) (j : ℕ) : Type 0 where
  pub past : IsPastFlush k xs x bytes a deeds t
  pub part_is : IsPartOf part (range_of x.request)
  pub inside : IsInUnit k j part
  pub front : KeepsFront k j part
  pub settled : IsSettled k (moment t (session_steps 0 k xs deeds) c) (first_sector k part)

-- So in every torn image such a part reads as its bytes, or as those that a later write gave it.
abbrev pub PartsLastOrLater : Keying → List Exchange → Content → List Deed → Type 0
PartsLastOrLater k xs c deeds = (x : Exchange) (bytes : List ℕ) (part : ByteRange) (a : IsFlushedWrite xs x bytes) (t j : ℕ) (image : List (List ℕ)) →
    IsSettledPart k xs c deeds x bytes a t part j → IsTorn (moment t (session_steps 0 k xs deeds) c) image →
    (got : List ℕ) × (range_reading k (survivor image) part ≡ Ok got) × IsGivenPart k xs x bytes a deeds t part got

-- and so it is answered to a read of just this part on a disk with that image, or the disk failed
abbrev pub ReadsLastingOrLater : Keying → List Exchange → Content → List Deed → Type 0
ReadsLastingOrLater k xs c deeds = (x : Exchange) (bytes : List ℕ) (part : ByteRange) (a : IsFlushedWrite xs x bytes) (t j : ℕ) (image : List (List ℕ)) →
    IsSettledPart k xs c deeds x bytes a t part j → IsTorn (moment t (session_steps 0 k xs deeds) c) image →
    (got : List ℕ) × IsGivenPart k xs x bytes a deeds t part got × ((side : Side) (y : Exchange) (old : DiskState) → side.keying ≡ k →
    HasImage image old → ServesExchange side y old → request_kind y.request.code ≡ kinds.Read → range_of y.request ≡ part →
    AnswersWith y.error y got old)

-- ---- what a flush found

-- one of a session's exchanges has flushed, and none after it wrote the sectors of this range
pub record IsKeptSince (k : Keying) (xs : List Exchange) (flush : Exchange) (r : ByteRange) : Type 0 where
  pub before : List Exchange
  pub since : List Exchange
  pub are : xs ≡ before ++ (flush ∷ since)
  pub flushed : HasFlushed flush
  pub alone : AllByRecursion (LeavesAlone k r) since

-- the steps of the exchanges up to that
abbrev pub steps_through : (k : Keying) (xs : List Exchange) (flush : Exchange) (r : ByteRange) → IsKeptSince k xs flush r → List Deed → List Step
steps_through k xs flush r a deeds = session_steps 0 k (a.before ++ (flush ∷ [])) deeds

-- As a range read when the flush was answered, whoever wrote it and however often, so it reads in every torn image that
-- is left if power fails then or at any moment later.
abbrev pub KeepsIn : Keying → List Exchange → Content → List Deed → Type 0
KeepsIn k xs c deeds = (flush : Exchange) (r : ByteRange) (a : IsKeptSince k xs flush r) (t : ℕ) (image : List (List ℕ)) →
    first_sector k r + sectors_covered k r ≤ content_media k c → length (steps_through k xs flush r a deeds) ≤ t →
    IsTorn (moment t (session_steps 0 k xs deeds) c) image →
    range_reading k (survivor image) r ≡ range_reading k (after (steps_through k xs flush r a deeds) c) r

-- ---- whoever attaches the image

-- a provider is attached, and each read of this range that it serves answers so; or there was no memory
abbrev pub AttachesAndAnswers : {D : Type 0} → (D → DiskState) → ByteRange → List ℕ → Result (Attached D) (D × AttachFault) → Type 0
AttachesAndAnswers state r bytes (Ok p) = (y : Exchange) → ServesExchange (side_of p) y (state p.disk) →
    request_kind y.request.code ≡ kinds.Read → range_of y.request ≡ r → AnswersWith y.error y bytes (state p.disk)
AttachesAndAnswers state r bytes (Err refused) = refused.1 ≡ attach.NoMemory

-- so does whoever attaches a disk with that image with a key that opens it to the same keying
abbrev pub AttachesLasting : {D : Type 0} → (D → DiskState) → Keying → List Exchange → Content → List Deed → Type 0
AttachesLasting {D} state k xs c deeds = (x : Exchange) (bytes : List ℕ) (part : ByteRange) (a : IsAcknowledged k xs x bytes part) (t : ℕ) (image : List (List ℕ)) →
    IsPastFlush k xs x bytes a.write deeds t → IsTorn (moment t (session_steps 0 k xs deeds) c) image →
    (m : Metadata) (params : Params) (key : List ℕ) (readonly : Bool) (s : ℕ) (master : List ℕ) (disk : D) (result : Result (Attached D) (D × AttachFault)) →
    HasImage image (state disk) → IsOpenedBy image m params key s master → keying_of params (record { bytes = master }) ≡ k →
    AttachAnswers (record { meta = m; params = params; disk = state disk }) (record { key = key; named = None; readonly = readonly }) disk result →
    AttachesAndAnswers state part (part_bytes part (range_of x.request) bytes) result

-- whoever attaches the image reads the part so, even if the sectors may have been written again
abbrev pub AttachesLastingOrLater : {D : Type 0} → (D → DiskState) → Keying → List Exchange → Content → List Deed → Type 0
AttachesLastingOrLater {D} state k xs c deeds = (x : Exchange) (bytes : List ℕ) (part : ByteRange) (a : IsFlushedWrite xs x bytes) (t j : ℕ) (image : List (List ℕ)) →
    IsSettledPart k xs c deeds x bytes a t part j → IsTorn (moment t (session_steps 0 k xs deeds) c) image →
    (m : Metadata) (params : Params) (key : List ℕ) (readonly : Bool) (s : ℕ) (master : List ℕ) (disk : D) (result : Result (Attached D) (D × AttachFault)) →
    HasImage image (state disk) → IsOpenedBy image m params key s master → keying_of params (record { bytes = master }) ≡ k →
    AttachAnswers (record { meta = m; params = params; disk = state disk }) (record { key = key; named = None; readonly = readonly }) disk result →
    (got : List ℕ) × IsGivenPart k xs x bytes a deeds t part got × AttachesAndAnswers state part got result

-- ---- a session that was closed

-- one of a session's exchanges is a write of these bytes that was done, and none after it wrote the sectors of this
-- part of its range again
pub record IsLastWritten (k : Keying) (xs : List Exchange) (x : Exchange) (bytes : List ℕ) (part : ByteRange) : Type 0 where
  pub before : List Exchange
  pub later : List Exchange
  pub are : xs ≡ before ++ (x ∷ later)
  pub wrote : WroteBy (request_kind x.request.code) x bytes
  pub done : x.error ≡ Done
  pub part_is : IsPartOf part (range_of x.request)
  pub alone : AllByRecursion (LeavesAlone k part) later

-- once the disk was flushed after all of them, each such part reads as its bytes there in every torn image
abbrev pub LastsClosed : Keying → List Exchange → Content → List Deed → Type 0
LastsClosed k xs c deeds = (x : Exchange) (bytes : List ℕ) (part : ByteRange) → IsLastWritten k xs x bytes part → (image : List (List ℕ)) →
    IsTorn (after (session_steps 0 k xs deeds ++ Flush ∷ []) c) image →
    range_reading k (survivor image) part ≡ Ok (part_bytes part (range_of x.request) bytes)

-- what a session whose last flush was made leaves of a disk that reported this content before
pub record SurvivesClosed (k : Keying) (xs : List Exchange) (c : Content) (last new : DiskState) : Type 0 where
  pub survives : Survives k xs c last
  pub content : new.content ≡ Some (after (session_steps 0 k xs survives.deeds ++ Flush ∷ []) c)
  pub lasts : LastsClosed k xs c survives.deeds
