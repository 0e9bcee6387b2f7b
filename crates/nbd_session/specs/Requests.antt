-- What a request of a client does to the provider, and the reply to it (the NBD project's doc/proto.md, "Request types"
-- and "Error values").
use Rattle.std.specs.Prelude.{◌≡◌, ◌⊎◌, ℕ, ◌<◌, ◌≤◌, Bool, true, false, List, [], ◌∷◌, ◌++◌, length, replicate, Some}
use Rattle.block_traits.specs.Disk.{DiskState, FailsIn, Logs}
use Rattle.block_traits.specs.declared.disk.Event.TheVariants.{Flush}
use Rattle.byte_ranges.specs.Ranges.{IsInside}
use Rattle.byte_ranges.specs.Reads.{CannotReadRange, IsRangeReadAs}
use Rattle.byte_ranges.specs.Writes.{CannotSplice, IsWrittenInPart, IsWrittenWhole}
use Rattle.byte_ranges.specs.declared.ranges.ByteRange.{ByteRange}
use Rattle.byte_ranges.specs.declared.splices.Written.{Written}
use Rattle.byte_ranges.specs.declared.splices.Written.TheVariants.{Whole, EdgeUnread, WriteFailed, FlushFailed}
use Rattle.eli_base.specs.Keying.{Keying}
use Rattle.nbd_words.specs.Transmission.{flags_limit, has_fua, reply_head, request_in, request_kind}
use Rattle.nbd_words.specs.declared.transmission.Request.{Request}
use Rattle.nbd_words.specs.declared.transmission.RequestKind.{RequestKind}
use Rattle.nbd_words.specs.declared.transmission.RequestKind.TheVariants as kinds
use Rattle.nbd_words.specs.declared.transmission.ReplyError.{ReplyError}
use Rattle.nbd_words.specs.declared.transmission.ReplyError.TheVariants.{Done, ReadOnly, Failed, Invalid, PassesEnd, NoRoom}
use Rattle.provider.specs.Attached.{Attached}

-- the most bytes of a read, and of a write; a request for zeros may have any number
abbrev pub most : ℕ
most = 33554432

abbrev pub range_of : Request → ByteRange
range_of q = record { offset = q.offset; count = q.length }

-- an attached provider as a client sees it: its keying, and whether it is read-only
pub record Side : Type 0 where
  pub keying : Keying
  pub readonly : Bool

-- the flags of a request are such as its kind may have
abbrev pub HasKnownFlags : Request → Type 0
HasKnownFlags q = q.flags ≤ flags_limit (request_kind q.code)

abbrev pub HasUnknownFlags : Request → Type 0
HasUnknownFlags q = flags_limit (request_kind q.code) < q.flags

-- a request of some bytes, with flags that it may have
pub record IsWellFormedRequest (q : Request) : Type 0 where
  pub flags : HasKnownFlags q
  pub some : 0 < q.length

abbrev pub IsIllFormedRequest : Request → Type 0
IsIllFormedRequest q = HasUnknownFlags q ⊎ (q.length ≡ 0)

-- the provider has all bytes of a request
abbrev pub FitsIn : Keying → DiskState → Request → Type 0
FitsIn k d q = IsInside k d (range_of q)

-- ---- reads

-- a read is served
pub record MayRead (k : Keying) (d : DiskState) (q : Request) : Type 0 where
  pub formed : IsWellFormedRequest q
  pub few : q.length ≤ most
  pub inside : FitsIn k d q

-- a read is refused
abbrev pub IsRefusedRead : Keying → DiskState → Request → Type 0
IsRefusedRead k d q = IsIllFormedRequest q ⊎ (most < q.length) ⊎ (FitsIn k d q → ⊥)

-- the reply to a read, and which bytes it has
abbrev pub AnswersRead : Side → Request → ReplyError → List ℕ → DiskState → DiskState → Type 0
AnswersRead side q Done bytes old new = MayRead side.keying old q × IsRangeReadAs side.keying (range_of q) bytes old new
AnswersRead side q Failed bytes old new = MayRead side.keying old q × (bytes ≡ []) × CannotReadRange side.keying (range_of q) old new
AnswersRead side q Invalid bytes old new = IsRefusedRead side.keying old q × (bytes ≡ []) × (new ≡ old)
AnswersRead side q ReadOnly bytes old new = ⊥
AnswersRead side q PassesEnd bytes old new = ⊥
AnswersRead side q NoRoom bytes old new = ⊥

-- ---- writes, of bytes or of zeros

-- a write is served
pub record MayWrite (side : Side) (d : DiskState) (q : Request) : Type 0 where
  pub writable : side.readonly ≡ false
  pub formed : IsWellFormedRequest q
  pub inside : FitsIn side.keying d q

-- a write is refused
abbrev pub IsRefusedWrite : Side → DiskState → Request → ReplyError → Type 0
IsRefusedWrite side d q ReadOnly = side.readonly ≡ true
IsRefusedWrite side d q Invalid = (side.readonly ≡ false) × IsIllFormedRequest q
IsRefusedWrite side d q PassesEnd = (side.readonly ≡ false) × IsWellFormedRequest q × (FitsIn side.keying d q → ⊥)
IsRefusedWrite side d q Done = ⊥
IsRefusedWrite side d q Failed = ⊥
IsRefusedWrite side d q NoRoom = ⊥

-- The reply to a write of these bytes, after which the disk says whether room was wanting at its last failed write. If
-- so, and a write of the disk failed, the reply is that there is no room; an edge that can't be read and a flush that
-- fails are faults whatever it says.
abbrev pub AnswersWrite : Side → Bool → Request → List ℕ → ReplyError → DiskState → DiskState → Type 0
AnswersWrite side wanting q payload Done old new =
    MayWrite side old q × IsWrittenWhole side.keying (range_of q) (has_fua q.flags) payload old new
AnswersWrite side wanting q payload Failed old new =
    MayWrite side old q
    × (CannotSplice side.keying (range_of q) old new
    ⊎ (((wanting ≡ false) ⊎ (has_fua q.flags ≡ true)) × IsWrittenInPart side.keying (range_of q) (has_fua q.flags) payload old new))
AnswersWrite side wanting q payload NoRoom old new =
    MayWrite side old q × (wanting ≡ true) × IsWrittenInPart side.keying (range_of q) (has_fua q.flags) payload old new
AnswersWrite side wanting q payload ReadOnly old new = IsRefusedWrite side old q ReadOnly × (new ≡ old)
AnswersWrite side wanting q payload Invalid old new = IsRefusedWrite side old q Invalid × (new ≡ old)
AnswersWrite side wanting q payload PassesEnd old new = IsRefusedWrite side old q PassesEnd × (new ≡ old)

-- the reply by what became of a write
abbrev pub write_error : Written → Bool → ReplyError
write_error Whole wanting = Done
write_error EdgeUnread wanting = Failed
write_error WriteFailed true = NoRoom
write_error WriteFailed false = Failed
write_error FlushFailed wanting = Failed

-- the bytes of a request for zeros
abbrev pub zeros_of : Request → List ℕ
zeros_of q = replicate q.length 0

-- ---- flushes

-- the reply to a flush
abbrev pub AnswersFlush : Request → ReplyError → DiskState → DiskState → Type 0
AnswersFlush q Done old new = HasKnownFlags q × Logs (Flush ∷ []) old new
AnswersFlush q Failed old new = HasKnownFlags q × FailsIn (Flush ∷ []) old new
AnswersFlush q Invalid old new = HasUnknownFlags q × (new ≡ old)
AnswersFlush q ReadOnly old new = ⊥
AnswersFlush q PassesEnd old new = ⊥
AnswersFlush q NoRoom old new = ⊥

-- ---- one exchange

-- a request, as its head says, with the bytes of a write, and the reply: the error and the bytes that were read; and
-- whether the disk then said that room was wanting
pub record Exchange : Type 0 where
  pub head : List ℕ
  pub request : Request
  pub payload : List ℕ
  pub error : ReplyError
  pub bytes : List ℕ
  pub wanting : Bool
  pub next : DiskState

-- what is done for each kind of request; a disconnection has no reply, so it is no exchange
abbrev pub ServesKind : RequestKind → Side → Exchange → DiskState → Type 0
ServesKind kinds.Read side x old = (x.payload ≡ []) × AnswersRead side x.request x.error x.bytes old x.next
ServesKind kinds.Write side x old =
    (length x.payload ≡ x.request.length) × (x.request.length ≤ most) × (x.bytes ≡ []) × AnswersWrite side x.wanting x.request x.payload x.error old x.next
ServesKind kinds.WriteZeroes side x old = (x.payload ≡ []) × (x.bytes ≡ []) × AnswersWrite side x.wanting x.request (zeros_of x.request) x.error old x.next
ServesKind kinds.Flush side x old = (x.payload ≡ []) × (x.bytes ≡ []) × AnswersFlush x.request x.error old x.next
ServesKind kinds.Unknown side x old = (x.payload ≡ []) × (x.bytes ≡ []) × (x.error ≡ Invalid) × (x.next ≡ old)
ServesKind kinds.Disconnect side x old = ⊥

-- a request that is served: its 28 bytes are read as that request
pub record IsRequest (x : Exchange) : Type 0 where
  pub size : length x.head ≡ 28
  pub reads : request_in x.head ≡ Some x.request

abbrev pub ServesExchange : Side → Exchange → DiskState → Type 0
ServesExchange side x old = IsRequest x × ServesKind (request_kind x.request.code) side x old

-- the bytes of the reply
abbrev pub reply_of : Exchange → List ℕ
reply_of x = reply_head x.error x.request.cookie ++ x.bytes

-- exchanges one after the other, each from the disk that the one before left
abbrev pub ServesExchanges : Side → List Exchange → DiskState → DiskState → Type 0
ServesExchanges side [] old new = new ≡ old
ServesExchanges side (x ∷ xs) old new = ServesExchange side x old × ServesExchanges side xs x.next new

-- ---- what a call over an attached provider says

abbrev pub side_of : {D : Type 0} → Attached D → Side
side_of p = record { keying = p.keying; readonly = p.readonly }
