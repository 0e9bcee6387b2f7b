-- Requests of a client, one after another, until no more are taken.
use Rattle.std.specs.Prelude.{◌≡◌, ◌⊎◌, ℕ, ◌<◌, ◌≤◌, List, [], ◌++◌, length, map, Err}
use Rattle.std.specs.List.{concat, flat_map}
use Rattle.block_traits.specs.Disk.{DiskState}
use Rattle.block_traits.specs.Streams.{SinkState, SourceState, TookAll}
use Rattle.nbd_negotiation.specs.Streams.{GivesTexts, SourceGave, limit}
use Rattle.nbd_negotiation.specs.declared.streams.End.{End}
use Rattle.nbd_negotiation.specs.declared.streams.End.TheVariants.{Closed, ReadFault, WriteFault, Malformed}
use Rattle.nbd_session.specs.Denials.{denials_in}
use Rattle.nbd_session.specs.Requests.{Exchange, ServesExchanges, Side, reply_of}
use Rattle.nbd_session.specs.Stops.{Stops, exchange_bytes}
use Rattle.nbd_session.specs.declared.denials.Denials.{Denials}

-- so many requests were taken, served and answered; and what was denied of them
pub record ServedSoFar (side : Side) (many : ℕ) (old new : DiskState) (source rest : SourceState) (sink after : SinkState) (denied : Denials) : Type 0 where
  pub exchanges : List Exchange
  pub count : length exchanges ≡ many
  pub served : ServesExchanges side exchanges old new
  pub took : SourceGave (flat_map exchange_bytes exchanges) source rest
  pub gave : TookAll (concat (map reply_of exchanges)) sink after
  pub noted : denied ≡ denials_in exchanges

-- why no more are served after these, and which bytes were taken after them
abbrev pub EndsRun : End → List Exchange → List ℕ → SourceState → SourceState → Type 0
EndsRun Closed xs bytes source rest = Stops (Err Closed) bytes source rest ⊎ ((limit ≤ length xs) × (bytes ≡ []))
EndsRun ReadFault xs bytes source rest = Stops (Err ReadFault) bytes source rest
EndsRun WriteFault xs bytes source rest = (0 < length xs) × (bytes ≡ [])
EndsRun Malformed xs bytes source rest = Stops (Err Malformed) bytes source rest

-- Just these requests were taken, and after them the bytes of none that could be served. Each was served on the disk
-- that the one before it left, and answered; if the sink failed, it was in the last reply. It is also said what was
-- denied of them.
pub record ServesRun (side : Side) (old new : DiskState) (source rest : SourceState) (sink : SinkState) (end : End) (after : SinkState) (denied : Denials) : Type 0 where
  pub exchanges : List Exchange
  pub bytes : List ℕ
  pub served : ServesExchanges side exchanges old new
  pub took : SourceGave (flat_map exchange_bytes exchanges ++ bytes) source rest
  pub gave : GivesTexts end (map reply_of exchanges) sink after
  pub why : EndsRun end exchanges bytes source rest
  pub noted : denied ≡ denials_in exchanges
