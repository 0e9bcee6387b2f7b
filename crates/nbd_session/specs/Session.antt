-- A whole session: what was taken of the client and given to it, and what became of the provider.
use Rattle.std.specs.Prelude.{◌≡◌, ◌⊎◌, ℕ, List, [], ◌∷◌, ◌++◌, map, Result, Ok, Err}
use Rattle.std.specs.List.{flat_map}
use Rattle.block_traits.specs.Disk.{DiskState, FailsIn, Logs}
use Rattle.block_traits.specs.Streams.{SinkState, SourceState}
use Rattle.block_traits.specs.declared.disk.Event.TheVariants.{Flush}
use Rattle.nbd_words.specs.Negotiation.{greeting}
use Rattle.nbd_words.specs.declared.negotiation.ClientFlags.{ClientFlags}
use Rattle.nbd_words.specs.declared.negotiation.Export.{Export}
use Rattle.nbd_negotiation.specs.Options.{ClientOption, IsClient, LeadTo, answers, option_bytes}
use Rattle.nbd_negotiation.specs.Negotiation.{EndsGreeting, EndsOptions}
use Rattle.nbd_negotiation.specs.Streams.{GivesTexts, SourceGave}
use Rattle.nbd_negotiation.specs.declared.negotiation.Outcome.TheVariants.{Serving}
use Rattle.nbd_negotiation.specs.declared.streams.End.{End}
use Rattle.nbd_session.specs.Export.{export_for}
use Rattle.nbd_session.specs.Denials.{denials_in}
use Rattle.nbd_session.specs.Requests.{Exchange, ServesExchanges, Side, most, reply_of}
use Rattle.nbd_session.specs.Runs.{EndsRun}
use Rattle.nbd_session.specs.Stops.{exchange_bytes}
use Rattle.nbd_session.specs.declared.denials.Denials.{Denials}

-- What was taken of a client: the bytes of its flags and what they say of it, its options, its requests that were
-- served, and the bytes of nothing that could be served.
pub record Talk : Type 0 where
  pub flags : List ℕ
  pub client : ClientFlags
  pub options : List ClientOption
  pub exchanges : List Exchange
  pub rest : List ℕ

-- the bytes that a client sent
abbrev pub bytes_said : Talk → List ℕ
bytes_said t = t.flags ++ (flat_map option_bytes t.options ++ (flat_map exchange_bytes t.exchanges ++ t.rest))

-- what the client is given: the greeting, and a reply to each option and each request
abbrev pub texts_given : Export → Talk → List (List ℕ)
texts_given export t = greeting ∷ (answers export t.client t.options ++ map reply_of t.exchanges)

-- ---- why a session ended

-- a session ended before any option: the greeting couldn't be given, the client's flags didn't come, or no client has
-- them
pub record EndsUnknown (end : End) (t : Talk) (source rest : SourceState) : Type 0 where
  pub ends : EndsGreeting end t.flags source rest
  pub options : t.options ≡ []
  pub exchanges : t.exchanges ≡ []
  pub bare : t.rest ≡ []

-- a session ended at one of its options, or after the last
pub record EndsAtOptions (end : End) (t : Talk) (source rest : SourceState) : Type 0 where
  pub client : IsClient t.flags t.client
  pub ends : EndsOptions end t.client t.options t.rest source rest
  pub exchanges : t.exchanges ≡ []

-- a session ended at one of its requests, or after the last
pub record EndsAtRequests (end : End) (t : Talk) (source rest : SourceState) : Type 0 where
  pub client : IsClient t.flags t.client
  pub options : LeadTo t.client Serving t.options
  pub ends : EndsRun end t.exchanges t.rest source rest

abbrev pub SessionEndsBy : End → Talk → SourceState → SourceState → Type 0
SessionEndsBy end t source rest = EndsUnknown end t source rest ⊎ (EndsAtOptions end t source rest ⊎ EndsAtRequests end t source rest)

-- the flush at the end was made, or failed
abbrev pub FlushesLast : {E : Type 0} → Result (Unit {0}) E → DiskState → DiskState → Type 0
FlushesLast (Ok done) old new = Logs (Flush ∷ []) old new
FlushesLast (Err failed) old new = FailsIn (Flush ∷ []) old new

-- What became of a client and a provider on a disk, before the last flush. Just what the client sent was taken, and
-- just the replies were given, one for each option and request, in order. If the sink failed, all but the last were
-- given whole, and nothing was taken after that. The export that the client was told of is the provider. Each request
-- was served on the disk that the one before it left. It is also said how many writes, requests for zeros and flushes
-- were answered with an error, and which was the first.
pub record Talks (side : Side) (end : End) (denied : Denials) (source rest : SourceState) (sink after : SinkState) (old new : DiskState) : Type 0 where
  pub talk : Talk
  pub took : SourceGave (bytes_said talk) source rest
  pub gave : GivesTexts end (texts_given (export_for side old most) talk) sink after
  pub why : SessionEndsBy end talk source rest
  pub served : ServesExchanges side talk.exchanges old new
  pub noted : denied ≡ denials_in talk.exchanges

-- the whole session: at last the disk was flushed, however the session ended
pub record HasSession {E : Type 0} (side : Side) (end : End) (denied : Denials) (source rest : SourceState) (sink after : SinkState) (flushed : Result (Unit {0}) E) (old new : DiskState) : Type 0 where
  pub last : DiskState
  pub talks : Talks side end denied source rest sink after old last
  pub closed : FlushesLast flushed last new
