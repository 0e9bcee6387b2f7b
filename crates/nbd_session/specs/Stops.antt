-- Why no more requests of a client are served, and which bytes were taken after those that were.
use Rattle.std.specs.Prelude.{◌≡◌, ◌⊎◌, ℕ, ◌<◌, ◌≤◌, List, ◌++◌, length, Result, Ok, Err, Some}
use Rattle.std.specs.Io.KnownBytes.{IsAtEnd}
use Rattle.block_traits.specs.Causes.{Rose}
use Rattle.block_traits.specs.Streams.{SourceState}
use Rattle.nbd_words.specs.Transmission.{request_in, request_kind}
use Rattle.nbd_words.specs.declared.transmission.Request.{Request}
use Rattle.nbd_words.specs.declared.transmission.RequestKind.TheVariants as kinds
use Rattle.nbd_negotiation.specs.declared.streams.End.{End}
use Rattle.nbd_negotiation.specs.declared.streams.End.TheVariants.{Closed, ReadFault, WriteFault, Malformed}
use Rattle.nbd_session.specs.Requests.{Exchange, most}

-- the bytes that the client gave for an exchange
abbrev pub exchange_bytes : Exchange → List ℕ
exchange_bytes x = x.head ++ x.payload

-- a request to end
pub record IsDisconnect (bytes : List ℕ) : Type 0 where
  pub size : length bytes ≡ 28
  pub request : Request
  pub reads : request_in bytes ≡ Some request
  pub kind : request_kind request.code ≡ kinds.Disconnect

-- what no client sends: a request without its magic number, or a write with too many bytes, of which none was taken
pub record IsNoRequest (bytes : List ℕ) : Type 0 where
  pub size : length bytes ≡ 28
  pub none : (request : Request) → request_in bytes ≡ Some request → (request_kind request.code ≡ kinds.Write) × (most < request.length)

-- a write that may be taken, and not all of its bytes
pub record LacksBytes (bytes : List ℕ) : Type 0 where
  pub head : List ℕ
  pub part : List ℕ
  pub are : bytes ≡ head ++ part
  pub size : length head ≡ 28
  pub request : Request
  pub reads : request_in head ≡ Some request
  pub kind : request_kind request.code ≡ kinds.Write
  pub few : request.length ≤ most
  pub lacks : length part < request.length

-- the first bytes of a request that isn't whole
abbrev pub IsCut : List ℕ → Type 0
IsCut bytes = (length bytes < 28) ⊎ LacksBytes bytes

-- why no request was served, and which bytes were taken
abbrev pub Stops : Result (Unit {0}) End → List ℕ → SourceState → SourceState → Type 0
Stops (Err Closed) bytes source rest = IsDisconnect bytes ⊎ (IsCut bytes × IsAtEnd rest.left)
Stops (Err ReadFault) bytes source rest = IsCut bytes × Rose source.faults rest.faults
Stops (Err Malformed) bytes source rest = IsNoRequest bytes
Stops (Err WriteFault) bytes source rest = ⊥
Stops (Ok done) bytes source rest = ⊥
