-- The greeting, the flags and the options of a client, one after another.
use Rattle.std.proofs.Common.{◌≡◌, ◌∙◌, inl, inr, ℕ, ◌+◌, ◌-◌, ◌^◌, ◌≤◌, Bool, true, false, List, [], ◌∷◌, ◌++◌, length, take, Some, Result, Ok, Err, refl, ap, sym, subst, arith, append-nil, length-append, length-take-le}
use Rattle.std.proofs.lemmas.Bool.{false≢true}
use Rattle.std.proofs.lemmas.Bool.Decides.{nat_tests}
use Rattle.std.specs.Prelude.{if◌then◌else◌}
use Rattle.std.proofs.lemmas.Grind.{flat_map-append}
use Rattle.std.specs.List.{concat, flat_map}
use Rattle.block_traits.specs.Streams.{SinkState, SourceState, TookAll}
use Rattle.text_page.proofs.Printing.{TookAll-nothing}
use Rattle.nbd_words.specs.Negotiation.{greeting, has_info_shape, option_head_in, option_kind}
use Rattle.nbd_words.specs.declared.negotiation.ClientFlags.{ClientFlags}
use Rattle.nbd_words.specs.declared.negotiation.Export.{Export}
use Rattle.nbd_words.specs.declared.negotiation.OptionHead.{OptionHead}
use Rattle.nbd_words.specs.declared.negotiation.OptionKind.{OptionKind}
use Rattle.nbd_words.specs.declared.negotiation.OptionReply.TheVariants as replies
use Rattle.nbd_negotiation.specs.Negotiation.{AnsweredSoFar, AnswersOne, AnswersOption, AnswersRun, EndsGreeting, EndsOptions, GivesAnswer, IsOptionCut, LacksData, LeadOn, Negotiates, StaysUnknown, StopsOptions, TakesClient}
use Rattle.nbd_negotiation.specs.Options.{ClientOption, IsOption, LeadTo, answer, answer_by, answers, bare_reply, info_answer, is_taken, option_bytes, outcome, outcome_by, told}
use Rattle.nbd_negotiation.specs.Streams.{Fills, GivesBytes, GivesOn, GivesTexts, SourceGave}
use Rattle.nbd_negotiation.specs.declared.negotiation.Outcome.{Outcome}
use Rattle.nbd_negotiation.specs.declared.negotiation.Outcome.TheVariants.{More, Serving, Ending}
use Rattle.nbd_negotiation.specs.declared.streams.End.{End}
use Rattle.nbd_negotiation.specs.declared.streams.End.TheVariants.{Closed, ReadFault, WriteFault, Malformed}
use Rattle.nbd_negotiation.proofs.Filling.{SourceGave-bare, SourceGave-none, SourceGave-then, fewer, part_filled}
use Rattle.nbd_negotiation.proofs.Giving.{gave-alone, gave-first, gave-more, gave-on, gave-part}

-- ---- one option

by_test : (test : Bool) (first second : List ℕ) → test ≡ true → first ≡ (if test then first else second)
by_test true first second h = refl
by_test false first second h = absurd (false≢true h)

pub info_fits : (code : ℕ) (bytes : List ℕ) (export : Export) → has_info_shape bytes ≡ true → told code export ≡ info_answer code bytes export
info_fits code bytes export h = by_test (has_info_shape bytes) (told code export) (bare_reply code replies.Invalid) h

few_data : (client : ClientFlags) (option : OptionHead) → is_taken client option ≡ true → option.length ≤ 16384
few_data client option h = grind (arith, nat_tests)

-- an option has as many data as its head says
pub many_data : (client : ClientFlags) (option : OptionHead) (room bytes : List ℕ) → is_taken client option ≡ true → 16384 ≤ length room → length bytes ≡ length (take option.length room) → length bytes ≡ option.length
many_data client option room bytes taken wide h =
    let few : option.length ≤ 16384 = few_data client option taken in
    h ∙ length-take-le option.length room (omega (arith, few, wide))

-- if an option is cut, the source ended or failed
cut_stops : (end : End) (client : ClientFlags) (taken bytes : List ℕ) (source middle rest : SourceState) → source.faults ≤ middle.faults → IsOptionCut client taken → Fills bytes middle (Err end) rest
    → StopsOptions end client taken source rest
cut_stops Closed client taken bytes source middle rest later cut h = (cut, h.1)
cut_stops ReadFault client taken bytes source middle rest later cut h = (cut, omega (arith, later, h.1))
cut_stops WriteFault client taken bytes source middle rest later cut h = absurd h
cut_stops Malformed client taken bytes source middle rest later cut h = absurd h

-- the head of an option didn't come
pub no_head : (export : Export) (client : ClientFlags) (end : End) (head : List ℕ) (source rest : SourceState) (sink : SinkState) (result : Result Outcome End) → result ≡ Err end → length head ≡ 16
    → Fills head source (Err end) rest → AnswersOption export client source rest sink result sink
no_head export client end head source rest sink result why long h =
    let part = part_filled end head source rest h in
    let bytes : List ℕ = take part.count head in
    inr (record {
      bytes = bytes;
      end = end;
      why = why;
      took = part.gave;
      stops = cut_stops end client bytes head source source rest (omega arith) (inl (fewer 16 part.count head long part.within)) h;
      silent = refl;
    })

-- the data of an option didn't all come
pub no_data : (export : Export) (client : ClientFlags) (end : End) (head bytes : List ℕ) (option : OptionHead) (source middle rest : SourceState) (sink : SinkState) (result : Result Outcome End) → result ≡ Err end
    → length head ≡ 16 → option_head_in head ≡ Some option → is_taken client option ≡ true → length bytes ≡ option.length → SourceGave head source middle → Fills bytes middle (Err end) rest
    → AnswersOption export client source rest sink result sink
no_data export client end head bytes option source middle rest sink result why long reads is size took h =
    let part = part_filled end bytes middle rest h in
    let piece : List ℕ = take part.count bytes in
    let lacks : LacksData client (head ++ piece) = record {
      head = head;
      part = piece;
      are = refl;
      size = long;
      option = option;
      reads = reads;
      taken = is;
      lacks = fewer option.length part.count bytes size part.within;
    } in
    inr (record {
      bytes = head ++ piece;
      end = end;
      why = why;
      took = SourceGave-then took part.gave;
      stops = cut_stops end client (head ++ piece) bytes source middle rest took.later (inr lacks) h;
      silent = refl;
    })

-- an option and the reply to it
pub one_answered : {export : Export} {client : ClientFlags} {head bytes : List ℕ} {option : OptionHead} {source middle rest : SourceState} {sink : SinkState} {result : Result Outcome End} {after : SinkState} → length head ≡ 16
    → option_head_in head ≡ Some option → is_taken client option ≡ true → length bytes ≡ option.length → SourceGave head source middle → SourceGave bytes middle rest
    → GivesAnswer export client (record { head = head; code = option.code; bytes = bytes }) sink result after → AnswersOption export client source rest sink result after
one_answered {export} {client} {head} {bytes} {option} long reads is size took more gives =
    inl (record {
      option = record { head = head; code = option.code; bytes = bytes };
      is = record {
        size = long;
        reads = reads ∙ ap (λ (n : ℕ). Some (record { code = option.code; length = n })) (sym size);
        taken = subst (λ (n : ℕ). is_taken client (record { code = option.code; length = n }) ≡ true) (sym size) is;
      };
      took = SourceGave-then took more;
      gives = gives;
    })

pub answer_given : (export : Export) (client : ClientFlags) (o : ClientOption) (kind : OptionKind) (next : Outcome) (sink after : SinkState) → kind ≡ option_kind o.code → next ≡ outcome_by kind o.bytes
    → TookAll (answer_by kind o.code o.bytes export client) sink after → GivesAnswer export client o sink (Ok next) after
answer_given export client o kind next sink after is leads h =
    (leads ∙ ap (λ (k : OptionKind). outcome_by k o.bytes) is, subst (λ (k : OptionKind). TookAll (answer_by k o.code o.bytes export client) sink after) is h)

answer_fails : (export : Export) (client : ClientFlags) (o : ClientOption) (end : End) (sink after : SinkState) → GivesBytes (answer export client o) sink (Err end) after → GivesAnswer export client o sink (Err end) after
answer_fails export client o WriteFault sink after h = h
answer_fails export client o Closed sink after h = absurd h
answer_fails export client o ReadFault sink after h = absurd h
answer_fails export client o Malformed sink after h = absurd h

pub answer_cut : (export : Export) (client : ClientFlags) (o : ClientOption) (kind : OptionKind) (end : End) (result : Result Outcome End) (sink after : SinkState) → result ≡ Err end → kind ≡ option_kind o.code
    → GivesBytes (answer_by kind o.code o.bytes export client) sink (Err end) after → GivesAnswer export client o sink result after
answer_cut export client o kind end result sink after why is h =
    subst (λ (r : Result Outcome End). GivesAnswer export client o sink r after) (sym why)
    (answer_fails export client o end sink after (subst (λ (k : OptionKind). GivesBytes (answer_by k o.code o.bytes export client) sink (Err end) after) is h))

-- ---- the options

LeadTo-more : (client : ClientFlags) (xs : List ClientOption) (o : ClientOption) (last : Outcome) → LeadTo client More xs → IsOption client o → outcome o ≡ last → LeadTo client last (xs ++ o ∷ [])
LeadTo-more client [] o last h is leads = (is, leads)
LeadTo-more client (x ∷ []) o last h is leads = (h.0, h.1, (is, leads))
LeadTo-more client (x ∷ next ∷ xs) o last h is leads = (h.0, h.1, LeadTo-more client (next ∷ xs) o last h.2 is leads)

flat_more : (os : List ClientOption) (o : ClientOption) → flat_map option_bytes (os ++ o ∷ []) ≡ flat_map option_bytes os ++ option_bytes o
flat_more os o = flat_map-append option_bytes os (o ∷ []) ∙ ap (λ (l : List ℕ). flat_map option_bytes os ++ l) (append-nil (option_bytes o))

took-more : (os : List ClientOption) (o : ClientOption) {source middle rest : SourceState} → SourceGave (flat_map option_bytes os) source middle → SourceGave (option_bytes o) middle rest → SourceGave (flat_map option_bytes (os ++ o ∷ [])) source rest
took-more os o {source} {middle} {rest} a b = subst (λ (l : List ℕ). SourceGave l source rest) (sym (flat_more os o)) (SourceGave-then a b)

pub none-answered : (export : Export) (client : ClientFlags) (source : SourceState) (sink : SinkState) → AnsweredSoFar export client 0 source source sink sink
none-answered export client source sink = record { options = []; count = refl; lead = refl; took = SourceGave-none source; gave = TookAll-nothing sink }

pub next_answered : {export : Export} {client : ClientFlags} {n : ℕ} {source between rest : SourceState} {sink halfway after : SinkState} {next : Outcome} → AnsweredSoFar export client n source between sink halfway
    → next ≡ More → AnswersOption export client between rest halfway (Ok next) after → AnsweredSoFar export client (n + 1) source rest sink after
next_answered {export} {client} so is h = elim h [
  | inl one ↦ record {
    options = so.options ++ one.option ∷ [];
    count = omega (arith, so.count, length-append so.options (one.option ∷ []));
    lead = LeadTo-more client so.options one.option More so.lead one.is (sym one.gives.0 ∙ is);
    took = took-more so.options one.option so.took one.took;
    gave = gave-more (answer export client) so.options one.option so.gave one.gives.1;
  }
  | inr none ↦ absurd (let no : ⊥ = cc (none.why) in no)
]

-- the last of the options
last_answered : (last : Outcome) (result : Result (Unit {0}) End) {export : Export} {client : ClientFlags} {n : ℕ} {source between rest : SourceState} {sink halfway after : SinkState} {next : Outcome} → AnsweredSoFar export client n source between sink halfway
    → next ≡ last → ((os : List ClientOption) → LeadTo client last os → LeadOn result client os [] source rest)
    → ((os : List ClientOption) → TookAll (concat (answers export client os)) sink after → GivesOn result (answers export client os) sink after)
    → AnswersOption export client between rest halfway (Ok next) after → AnswersRun export client source rest sink result after
last_answered last result {export} {client} so is leads gives h = elim h [
  | inl one ↦
      let os : List ClientOption = so.options ++ one.option ∷ [] in
      record {
        options = os;
        bytes = [];
        took = SourceGave-bare (took-more so.options one.option so.took one.took);
        gave = gives os (gave-more (answer export client) so.options one.option so.gave one.gives.1);
        why = leads os (LeadTo-more client so.options one.option last so.lead one.is (sym one.gives.0 ∙ is));
      }
  | inr none ↦ absurd (let no : ⊥ = cc (none.why) in no)
]

pub wants_service : (done : Unit {0}) {export : Export} {client : ClientFlags} {n : ℕ} {source between rest : SourceState} {sink halfway after : SinkState} {next : Outcome} → AnsweredSoFar export client n source between sink halfway
    → next ≡ Serving → AnswersOption export client between rest halfway (Ok next) after → AnswersRun export client source rest sink (Ok done) after
wants_service done so is h = last_answered Serving (Ok done) so is (λ os lead. (lead, refl)) (λ os all. all) h

pub wants_end : {export : Export} {client : ClientFlags} {n : ℕ} {source between rest : SourceState} {sink halfway after : SinkState} {next : Outcome} → AnsweredSoFar export client n source between sink halfway
    → next ≡ Ending → AnswersOption export client between rest halfway (Ok next) after → AnswersRun export client source rest sink (Err Closed) after
wants_end so is h = last_answered Ending (Err Closed) so is (λ os lead. inl (lead, refl)) (λ os all. all) h

-- no more were answered
stops_by : (end : End) (export : Export) (client : ClientFlags) (n : ℕ) (source between rest : SourceState) (sink halfway after : SinkState) (so : AnsweredSoFar export client n source between sink halfway)
    → (bytes : List ℕ) → SourceGave bytes between rest → after ≡ halfway → ((texts : List (List ℕ)) → TookAll (concat texts) sink after → GivesTexts end texts sink after)
    → EndsOptions end client so.options bytes source rest → AnswersRun export client source rest sink (Err end) after
stops_by end export client n source between rest sink halfway after so bytes took silent gives why = record {
  options = so.options;
  bytes = bytes;
  took = SourceGave-then so.took took;
  gave = gives (answers export client so.options) (subst (λ (s : SinkState). TookAll (concat (answers export client so.options)) sink s) (sym silent) so.gave);
  why = why;
}

stops_so : (end : End) (export : Export) (client : ClientFlags) (n : ℕ) (source between rest : SourceState) (sink halfway after : SinkState) → AnsweredSoFar export client n source between sink halfway
    → (bytes : List ℕ) → SourceGave bytes between rest → StopsOptions end client bytes between rest → after ≡ halfway → AnswersRun export client source rest sink (Err end) after
stops_so Closed export client n source between rest sink halfway after so bytes took stops silent =
    stops_by Closed export client n source between rest sink halfway after so bytes took silent (λ texts all. all) (inr (so.lead, stops))
stops_so ReadFault export client n source between rest sink halfway after so bytes took stops silent =
    stops_by ReadFault export client n source between rest sink halfway after so bytes took silent (λ texts all. all) (so.lead, (stops.0, omega (arith, so.took.later, stops.1)))
stops_so WriteFault export client n source between rest sink halfway after so bytes took stops silent = absurd stops
stops_so Malformed export client n source between rest sink halfway after so bytes took stops silent =
    stops_by Malformed export client n source between rest sink halfway after so bytes took silent (λ texts all. all) (so.lead, inl stops)

-- the last reply couldn't be given
fails_so : (end : End) (export : Export) (client : ClientFlags) (n : ℕ) (source between rest : SourceState) (sink halfway after : SinkState) → AnsweredSoFar export client n source between sink halfway
    → AnswersOne export client between rest halfway (Err end) after → AnswersRun export client source rest sink (Err end) after
fails_so WriteFault export client n source between rest sink halfway after so one =
    let os : List ClientOption = so.options ++ one.option ∷ [] in
    record {
      options = os;
      bytes = [];
      took = SourceGave-bare (took-more so.options one.option so.took one.took);
      gave = gave-part (answer export client) so.options one.option so.gave one.gives;
      why = (
        record {
          last = outcome one.option;
          lead = LeadTo-more client so.options one.option (outcome one.option) so.lead one.is refl;
          some = omega (arith, length-append so.options (one.option ∷ []));
        },
        refl,
      );
    }
fails_so Closed export client n source between rest sink halfway after so one = absurd one.gives
fails_so ReadFault export client n source between rest sink halfway after so one = absurd one.gives
fails_so Malformed export client n source between rest sink halfway after so one = absurd one.gives

pub options_end : (end : End) {export : Export} {client : ClientFlags} {n : ℕ} {source between rest : SourceState} {sink halfway after : SinkState} → AnsweredSoFar export client n source between sink halfway
    → AnswersOption export client between rest halfway (Err end) after → AnswersRun export client source rest sink (Err end) after
options_end end {export} {client} {n} {source} {between} {rest} {sink} {halfway} {after} so h = elim h [
  | inl one ↦ fails_so end export client n source between rest sink halfway after so one
  | inr none ↦
      let same : none.end ≡ end = cc (none.why) in
      stops_so end export client n source between rest sink halfway after so none.bytes none.took (subst (λ (e : End). StopsOptions e client none.bytes between rest) same none.stops) none.silent
]

-- as many options were taken as a session takes at most
pub full_of_options : (export : Export) (client : ClientFlags) (n : ℕ) (source rest : SourceState) (sink after : SinkState) → 2 ^ 64 - 1 ≤ n → AnsweredSoFar export client n source rest sink after
    → AnswersRun export client source rest sink (Err Malformed) after
full_of_options export client n source rest sink after many so = record {
  options = so.options;
  bytes = [];
  took = SourceGave-bare so.took;
  gave = so.gave;
  why = (so.lead, inr (omega (arith, many, so.count), refl));
}

-- ---- the whole negotiation

-- the faults are counted from an earlier time
LeadOn-earlier : (result : Result (Unit {0}) End) (client : ClientFlags) (os : List ClientOption) (bytes : List ℕ) (source middle rest : SourceState) → source.faults ≤ middle.faults
    → LeadOn result client os bytes middle rest → LeadOn result client os bytes source rest
LeadOn-earlier (Ok done) client os bytes source middle rest later h = h
LeadOn-earlier (Err Closed) client os bytes source middle rest later h = h
LeadOn-earlier (Err ReadFault) client os bytes source middle rest later h = (h.0, (h.1.0, omega (arith, later, h.1.1)))
LeadOn-earlier (Err WriteFault) client os bytes source middle rest later h = h
LeadOn-earlier (Err Malformed) client os bytes source middle rest later h = h

no_client : ClientFlags
no_client = record { fixed_newstyle = false; no_zeroes = false }

-- the greeting couldn't be given
greets_not : (export : Export) (end : End) (source : SourceState) (sink after : SinkState) → GivesBytes greeting sink (Err end) after → Negotiates export source source sink (Err end) after
greets_not export WriteFault source sink after h = record {
  flags = [];
  client = no_client;
  options = [];
  bytes = [];
  took = SourceGave-none source;
  gave = gave-first greeting h;
  why = inl (record { end = WriteFault; why = refl; ends = refl; none = refl; bare = refl });
}
greets_not export Closed source sink after h = absurd h
greets_not export ReadFault source sink after h = absurd h
greets_not export Malformed source sink after h = absurd h

pub no_greeting : (export : Export) (end : End) (result : Result (Unit {0}) End) (source : SourceState) (sink after : SinkState) → result ≡ Err end → GivesBytes greeting sink (Err end) after → Negotiates export source source sink result after
no_greeting export end result source sink after why h =
    subst (λ (r : Result (Unit {0}) End). Negotiates export source source sink r after) (sym why) (greets_not export end source sink after h)

-- the client isn't known
knows_by : (export : Export) (end : End) (flags : List ℕ) (source rest : SourceState) (sink after : SinkState) → TookAll greeting sink after → SourceGave flags source rest
    → ((texts : List (List ℕ)) → TookAll (concat texts) sink after → GivesTexts end texts sink after) → EndsGreeting end flags source rest → Negotiates export source rest sink (Err end) after
knows_by export end flags source rest sink after gave took gives ends = record {
  flags = flags;
  client = no_client;
  options = [];
  bytes = [];
  took = SourceGave-bare took;
  gave = gives (greeting ∷ []) (gave-alone greeting gave);
  why = inl (record { end = end; why = refl; ends = ends; none = refl; bare = refl });
}

knows_not : (export : Export) (end : End) (flags : List ℕ) (source rest : SourceState) (sink after : SinkState) → TookAll greeting sink after → SourceGave flags source rest → StaysUnknown end flags source rest
    → Negotiates export source rest sink (Err end) after
knows_not export Closed flags source rest sink after gave took is = knows_by export Closed flags source rest sink after gave took (λ texts all. all) is
knows_not export ReadFault flags source rest sink after gave took is = knows_by export ReadFault flags source rest sink after gave took (λ texts all. all) is
knows_not export WriteFault flags source rest sink after gave took is = absurd is
knows_not export Malformed flags source rest sink after gave took is = knows_by export Malformed flags source rest sink after gave took (λ texts all. all) is

pub no_client_known : (export : Export) (end : End) (result : Result (Unit {0}) End) (source rest : SourceState) (sink after : SinkState) → result ≡ Err end → TookAll greeting sink after → TakesClient source (Err end) rest
    → Negotiates export source rest sink result after
no_client_known export end result source rest sink after why gave h =
    subst (λ (r : Result (Unit {0}) End). Negotiates export source rest sink r after) (sym why) (knows_not export end h.flags source rest sink after gave h.took h.is)

pub negotiated : (export : Export) (client : ClientFlags) (result : Result (Unit {0}) End) (source middle rest : SourceState) (sink between after : SinkState) → TookAll greeting sink between → TakesClient source (Ok client) middle
    → AnswersRun export client middle rest between result after → Negotiates export source rest sink result after
negotiated export client result source middle rest sink between after gave knows run = record {
  flags = knows.flags;
  client = client;
  options = run.options;
  bytes = run.bytes;
  took = SourceGave-then knows.took run.took;
  gave = gave-on result greeting (answers export client run.options) sink between after gave run.gave;
  why = inr (record { is = knows.is; lead = LeadOn-earlier result client run.options run.bytes source middle rest knows.took.later run.why });
}
