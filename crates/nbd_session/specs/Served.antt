-- What one call of the server does: a request is taken, served and answered, or the session ends; and what was denied,
-- if the request was to change or to flush the disk.
use Rattle.std.specs.Prelude.{◌≡◌, ◌⊎◌, ℕ, ◌<◌, ◌≤◌, List, ◌++◌, length, Bool, Option, None, Result, Err}
use Rattle.block_traits.specs.Disk.{DiskState}
use Rattle.block_traits.specs.Streams.{SinkState, SourceState}
use Rattle.nbd_words.specs.Transmission.{reply_head}
use Rattle.nbd_words.specs.declared.transmission.ReplyError.{ReplyError}
use Rattle.nbd_words.specs.declared.transmission.ReplyError.TheVariants.{Invalid}
use Rattle.nbd_words.specs.declared.transmission.Request.{Request}
use Rattle.nbd_words.specs.declared.transmission.RequestKind.{RequestKind}
use Rattle.nbd_words.specs.declared.transmission.RequestKind.TheVariants as kinds
use Rattle.nbd_negotiation.specs.Streams.{Fills, GivesBytes, SourceGave}
use Rattle.nbd_negotiation.specs.declared.streams.End.{End}
use Rattle.nbd_negotiation.specs.declared.streams.End.TheVariants.{Closed, Malformed}
use Rattle.nbd_session.specs.Denials.{denial_of, denial_where}
use Rattle.nbd_session.specs.Requests.{AnswersFlush, AnswersRead, AnswersWrite, Exchange, ServesExchange, Side, most, reply_of, zeros_of}
use Rattle.nbd_session.specs.Stops.{Stops, exchange_bytes}
use Rattle.nbd_session.specs.declared.denials.Denial.{Denial}
use Rattle.nbd_session.specs.declared.denials.DeniedKind.TheVariants as denied_kinds

-- ---- a request whose head was taken

pub record ReadIsAnswered (side : Side) (q : Request) (old new : DiskState) (sink : SinkState) (result : Result (Unit {0}) End) (after : SinkState) : Type 0 where
  pub error : ReplyError
  pub bytes : List ℕ
  pub reads : AnswersRead side q error bytes old new
  pub gives : GivesBytes (reply_head error q.cookie ++ bytes) sink result after

pub record FlushIsAnswered (q : Request) (old new : DiskState) (sink : SinkState) (result : Result (Unit {0}) End) (after : SinkState) (denied : Option Denial) : Type 0 where
  pub error : ReplyError
  pub flushes : AnswersFlush q error old new
  pub gives : GivesBytes (reply_head error q.cookie) sink result after
  pub noted : denied ≡ denial_where error denied_kinds.Flush q.offset

pub record ZerosAreAnswered (side : Side) (wanting : Bool) (q : Request) (old new : DiskState) (sink : SinkState) (result : Result (Unit {0}) End) (after : SinkState) (denied : Option Denial) : Type 0 where
  pub error : ReplyError
  pub writes : AnswersWrite side wanting q (zeros_of q) error old new
  pub gives : GivesBytes (reply_head error q.cookie) sink result after
  pub noted : denied ≡ denial_where error denied_kinds.Zeros q.offset

-- the bytes of a write were all taken, and it was served
pub record WriteIsAnswered (side : Side) (wanting : Bool) (q : Request) (old new : DiskState) (source rest : SourceState) (sink : SinkState) (result : Result (Unit {0}) End) (after : SinkState) (denied : Option Denial) : Type 0 where
  pub payload : List ℕ
  pub size : length payload ≡ q.length
  pub few : q.length ≤ most
  pub took : SourceGave payload source rest
  pub error : ReplyError
  pub writes : AnswersWrite side wanting q payload error old new
  pub gives : GivesBytes (reply_head error q.cookie) sink result after
  pub noted : denied ≡ denial_where error denied_kinds.Write q.offset

-- the bytes of a write didn't all come, and nothing was done
pub record WriteIsCut (q : Request) (old new : DiskState) (source rest : SourceState) (sink : SinkState) (result : Result (Unit {0}) End) (after : SinkState) (denied : Option Denial) : Type 0 where
  pub bytes : List ℕ
  pub size : length bytes ≡ q.length
  pub few : q.length ≤ most
  pub end : End
  pub why : result ≡ Err end
  pub fills : Fills bytes source (Err end) rest
  pub disk : new ≡ old
  pub silent : after ≡ sink
  pub noted : denied ≡ None

abbrev pub WriteIsServed : Side → Bool → Request → DiskState → DiskState → SourceState → SourceState → SinkState → Result (Unit {0}) End → SinkState → Option Denial → Type 0
WriteIsServed side wanting q old new source rest sink result after denied = WriteIsAnswered side wanting q old new source rest sink result after denied ⊎ WriteIsCut q old new source rest sink result after denied

-- a write that has too many bytes, and nothing was done
pub record IsTooLongWrite (q : Request) (old new : DiskState) (source rest : SourceState) (sink : SinkState) (result : Result (Unit {0}) End) (after : SinkState) (denied : Option Denial) : Type 0 where
  pub more : most < q.length
  pub why : result ≡ Err Malformed
  pub untaken : rest ≡ source
  pub disk : new ≡ old
  pub silent : after ≡ sink
  pub noted : denied ≡ None

abbrev pub KindIsServed : RequestKind → Side → Bool → Request → DiskState → DiskState → SourceState → SourceState → SinkState → Result (Unit {0}) End → SinkState → Option Denial → Type 0
KindIsServed kinds.Read side wanting q old new source rest sink result after denied = (rest ≡ source) × ReadIsAnswered side q old new sink result after × (denied ≡ None)
KindIsServed kinds.Write side wanting q old new source rest sink result after denied =
    IsTooLongWrite q old new source rest sink result after denied ⊎ WriteIsServed side wanting q old new source rest sink result after denied
KindIsServed kinds.WriteZeroes side wanting q old new source rest sink result after denied = (rest ≡ source) × ZerosAreAnswered side wanting q old new sink result after denied
KindIsServed kinds.Flush side wanting q old new source rest sink result after denied = (rest ≡ source) × FlushIsAnswered q old new sink result after denied
KindIsServed kinds.Unknown side wanting q old new source rest sink result after denied =
    (rest ≡ source) × (new ≡ old) × GivesBytes (reply_head Invalid q.cookie) sink result after × (denied ≡ None)
KindIsServed kinds.Disconnect side wanting q old new source rest sink result after denied =
    (result ≡ Err Closed) × (rest ≡ source) × (new ≡ old) × (after ≡ sink) × (denied ≡ None)

-- ---- one request

-- a request was taken, and served and answered, or the reply could be given only in part
pub record ServesOne (side : Side) (wanting : Bool) (old new : DiskState) (source rest : SourceState) (sink : SinkState) (result : Result (Unit {0}) End) (after : SinkState) (denied : Option Denial) : Type 0 where
  pub exchange : Exchange
  pub serves : ServesExchange side exchange old
  pub next : exchange.next ≡ new
  pub wants : exchange.wanting ≡ wanting
  pub took : SourceGave (exchange_bytes exchange) source rest
  pub gives : GivesBytes (reply_of exchange) sink result after
  pub noted : denied ≡ denial_of exchange

-- no request was served, and the session ends
pub record ServesNone (old new : DiskState) (source rest : SourceState) (sink : SinkState) (result : Result (Unit {0}) End) (after : SinkState) (denied : Option Denial) : Type 0 where
  pub bytes : List ℕ
  pub took : SourceGave bytes source rest
  pub stops : Stops result bytes source rest
  pub disk : new ≡ old
  pub silent : after ≡ sink
  pub noted : denied ≡ None

abbrev pub ServesRequest : Side → Bool → DiskState → DiskState → SourceState → SourceState → SinkState → Result (Unit {0}) End → SinkState → Option Denial → Type 0
ServesRequest side wanting old new source rest sink result after denied = ServesOne side wanting old new source rest sink result after denied ⊎ ServesNone old new source rest sink result after denied
