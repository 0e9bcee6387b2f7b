-- What a client sends before its requests, and what it is given: the greeting, its flags, its options one after
-- another.
use Rattle.std.specs.Prelude.{◌≡◌, ◌⊎◌, ℕ, ◌<◌, ◌≤◌, true, false, List, [], ◌∷◌, ◌++◌, length, Result, Ok, Err, Some, None}
use Rattle.std.specs.List.{concat, flat_map}
use Rattle.std.specs.Io.KnownBytes.{IsAtEnd}
use Rattle.block_traits.specs.Causes.{Rose}
use Rattle.block_traits.specs.Streams.{SinkState, SourceState, TookAll, TookPart}
use Rattle.nbd_words.specs.Negotiation.{client_flags_in, greeting, option_head_in}
use Rattle.nbd_words.specs.declared.negotiation.ClientFlags.{ClientFlags}
use Rattle.nbd_words.specs.declared.negotiation.Export.{Export}
use Rattle.nbd_words.specs.declared.negotiation.OptionHead.{OptionHead}
use Rattle.nbd_negotiation.specs.Options.{ClientOption, IsClient, IsOption, LeadTo, answer, answers, is_taken, option_bytes, outcome}
use Rattle.nbd_negotiation.specs.Streams.{GivesOn, SourceGave, limit}
use Rattle.nbd_negotiation.specs.declared.negotiation.Outcome.{Outcome}
use Rattle.nbd_negotiation.specs.declared.negotiation.Outcome.TheVariants.{More, Serving, Ending}
use Rattle.nbd_negotiation.specs.declared.streams.End.{End}
use Rattle.nbd_negotiation.specs.declared.streams.End.TheVariants.{Closed, ReadFault, WriteFault, Malformed}

-- ---- the client's flags

-- why the client isn't known, and which bytes of its flags were taken
abbrev pub StaysUnknown : End → List ℕ → SourceState → SourceState → Type 0
StaysUnknown Closed flags source rest = (length flags < 4) × IsAtEnd rest.left
StaysUnknown ReadFault flags source rest = (length flags < 4) × Rose source.faults rest.faults
StaysUnknown WriteFault flags source rest = ⊥
StaysUnknown Malformed flags source rest = (length flags ≡ 4) × (client_flags_in flags ≡ None)

abbrev pub IsKnownBy : Result ClientFlags End → List ℕ → SourceState → SourceState → Type 0
IsKnownBy (Ok client) flags source rest = IsClient flags client
IsKnownBy (Err end) flags source rest = StaysUnknown end flags source rest

-- the flags of the client were taken, or no more than these bytes of them
pub record TakesClient (source : SourceState) (result : Result ClientFlags End) (rest : SourceState) : Type 0 where
  pub flags : List ℕ
  pub took : SourceGave flags source rest
  pub is : IsKnownBy result flags source rest

-- ---- one option

-- what no client sends: an option without its magic number, or one that isn't taken of this client
pub record IsNoOption (client : ClientFlags) (bytes : List ℕ) : Type 0 where
  pub size : length bytes ≡ 16
  pub none : (head : OptionHead) → option_head_in bytes ≡ Some head → is_taken client head ≡ false

-- an option that is taken, and not all of its data
pub record LacksData (client : ClientFlags) (bytes : List ℕ) : Type 0 where
  pub head : List ℕ
  pub part : List ℕ
  pub are : bytes ≡ head ++ part
  pub size : length head ≡ 16
  pub option : OptionHead
  pub reads : option_head_in head ≡ Some option
  pub taken : is_taken client option ≡ true
  pub lacks : length part < option.length

-- the first bytes of an option that isn't whole
abbrev pub IsOptionCut : ClientFlags → List ℕ → Type 0
IsOptionCut client bytes = (length bytes < 16) ⊎ LacksData client bytes

-- why no option was answered, and which bytes were taken
abbrev pub StopsOptions : End → ClientFlags → List ℕ → SourceState → SourceState → Type 0
StopsOptions Closed client bytes source rest = IsOptionCut client bytes × IsAtEnd rest.left
StopsOptions ReadFault client bytes source rest = IsOptionCut client bytes × Rose source.faults rest.faults
StopsOptions WriteFault client bytes source rest = ⊥
StopsOptions Malformed client bytes source rest = IsNoOption client bytes

-- the reply to an option was given, and this is what the option leads to; or the reply could be given only in part
abbrev pub GivesAnswer : Export → ClientFlags → ClientOption → SinkState → Result Outcome End → SinkState → Type 0
GivesAnswer export client o sink (Ok next) after = (next ≡ outcome o) × TookAll (answer export client o) sink after
GivesAnswer export client o sink (Err WriteFault) after = TookPart (answer export client o) sink after
GivesAnswer export client o sink (Err Closed) after = ⊥
GivesAnswer export client o sink (Err ReadFault) after = ⊥
GivesAnswer export client o sink (Err Malformed) after = ⊥

-- an option was taken and answered
pub record AnswersOne (export : Export) (client : ClientFlags) (source rest : SourceState) (sink : SinkState) (result : Result Outcome End) (after : SinkState) : Type 0 where
  pub option : ClientOption
  pub is : IsOption client option
  pub took : SourceGave (option_bytes option) source rest
  pub gives : GivesAnswer export client option sink result after

-- no option was answered, and the session ends
pub record AnswersNone (client : ClientFlags) (source rest : SourceState) (sink : SinkState) (result : Result Outcome End) (after : SinkState) : Type 0 where
  pub bytes : List ℕ
  pub end : End
  pub why : result ≡ Err end
  pub took : SourceGave bytes source rest
  pub stops : StopsOptions end client bytes source rest
  pub silent : after ≡ sink

abbrev pub AnswersOption : Export → ClientFlags → SourceState → SourceState → SinkState → Result Outcome End → SinkState → Type 0
AnswersOption export client source rest sink result after =
    AnswersOne export client source rest sink result after ⊎ AnswersNone client source rest sink result after

-- ---- the options

-- so many options were taken and answered, each of which led to more
pub record AnsweredSoFar (export : Export) (client : ClientFlags) (many : ℕ) (source rest : SourceState) (sink after : SinkState) : Type 0 where
  pub options : List ClientOption
  pub count : length options ≡ many
  pub lead : LeadTo client More options
  pub took : SourceGave (flat_map option_bytes options) source rest
  pub gave : TookAll (concat (answers export client options)) sink after

-- the last of some options, of which each before it led to more, was taken, and is the last that was answered
pub record IsLastAnswered (client : ClientFlags) (os : List ClientOption) : Type 0 where
  pub last : Outcome
  pub lead : LeadTo client last os
  pub some : 0 < length os

-- why no more options are answered after these, and which bytes were taken after them
abbrev pub EndsOptions : End → ClientFlags → List ClientOption → List ℕ → SourceState → SourceState → Type 0
EndsOptions Closed client os bytes source rest =
    (LeadTo client Ending os × (bytes ≡ [])) ⊎ (LeadTo client More os × StopsOptions Closed client bytes source rest)
EndsOptions ReadFault client os bytes source rest = LeadTo client More os × StopsOptions ReadFault client bytes source rest
EndsOptions WriteFault client os bytes source rest = IsLastAnswered client os × (bytes ≡ [])
EndsOptions Malformed client os bytes source rest =
    LeadTo client More os × (StopsOptions Malformed client bytes source rest ⊎ ((limit ≤ length os) × (bytes ≡ [])))

-- requests follow these options; or the session ends, and these bytes were taken after them
abbrev pub LeadOn : Result (Unit {0}) End → ClientFlags → List ClientOption → List ℕ → SourceState → SourceState → Type 0
LeadOn (Ok done) client os bytes source rest = LeadTo client Serving os × (bytes ≡ [])
LeadOn (Err end) client os bytes source rest = EndsOptions end client os bytes source rest

-- just these options were taken, and each was answered; if the sink failed, it was in the last reply
pub record AnswersRun (export : Export) (client : ClientFlags) (source rest : SourceState) (sink : SinkState) (result : Result (Unit {0}) End) (after : SinkState) : Type 0 where
  pub options : List ClientOption
  pub bytes : List ℕ
  pub took : SourceGave (flat_map option_bytes options ++ bytes) source rest
  pub gave : GivesOn result (answers export client options) sink after
  pub why : LeadOn result client options bytes source rest

-- ---- the greeting, the flags and the options

-- why a client came to no options: the greeting couldn't be given, or the client isn't known
abbrev pub EndsGreeting : End → List ℕ → SourceState → SourceState → Type 0
EndsGreeting WriteFault flags source rest = flags ≡ []
EndsGreeting Closed flags source rest = StaysUnknown Closed flags source rest
EndsGreeting ReadFault flags source rest = StaysUnknown ReadFault flags source rest
EndsGreeting Malformed flags source rest = StaysUnknown Malformed flags source rest

-- no option was taken
pub record TakesNoOption (result : Result (Unit {0}) End) (flags : List ℕ) (options : List ClientOption) (bytes : List ℕ) (source rest : SourceState) : Type 0 where
  pub end : End
  pub why : result ≡ Err end
  pub ends : EndsGreeting end flags source rest
  pub none : options ≡ []
  pub bare : bytes ≡ []

-- the client is known
pub record IsLed (result : Result (Unit {0}) End) (flags : List ℕ) (client : ClientFlags) (options : List ClientOption) (bytes : List ℕ) (source rest : SourceState) : Type 0 where
  pub is : IsClient flags client
  pub lead : LeadOn result client options bytes source rest

-- a client was greeted, its flags and these options were taken, and each option was answered
pub record Negotiates (export : Export) (source rest : SourceState) (sink : SinkState) (result : Result (Unit {0}) End) (after : SinkState) : Type 0 where
  pub flags : List ℕ
  pub client : ClientFlags
  pub options : List ClientOption
  pub bytes : List ℕ
  pub took : SourceGave (flags ++ (flat_map option_bytes options ++ bytes)) source rest
  pub gave : GivesOn result (greeting ∷ answers export client options) sink after
  pub why : TakesNoOption result flags options bytes source rest ⊎ IsLed result flags client options bytes source rest
