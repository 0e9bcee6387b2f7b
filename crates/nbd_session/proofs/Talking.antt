-- A whole session, from its negotiation and the run of its requests.
use Rattle.std.proofs.Common.{◌≡◌, ◌∙◌, inl, inr, ℕ, ◌≤◌, List, [], ◌∷◌, ◌++◌, map, Result, Ok, Err, OnErr, OnOk, refl, ap, sym, subst, arith, append-nil, append_assoc}
use Rattle.std.specs.List.{flat_map}
use Rattle.block_traits.specs.Disk.{DiskState, FailsIn, Logs}
use Rattle.block_traits.specs.declared.disk.Event.TheVariants.{Flush}
use Rattle.block_traits.specs.Streams.{SinkState, SourceState}
use Rattle.nbd_words.specs.Negotiation.{greeting}
use Rattle.nbd_words.specs.declared.negotiation.Export.{Export}
use Rattle.nbd_negotiation.specs.Negotiation.{EndsGreeting, Negotiates}
use Rattle.nbd_negotiation.specs.Options.{answers, option_bytes}
use Rattle.nbd_negotiation.specs.Streams.{GivesTexts, SourceGave}
use Rattle.nbd_negotiation.specs.declared.streams.End.{End}
use Rattle.nbd_negotiation.specs.declared.streams.End.TheVariants.{Closed, ReadFault, WriteFault, Malformed}
use Rattle.nbd_negotiation.proofs.Filling.{SourceGave-then}
use Rattle.nbd_negotiation.proofs.Giving.{gave-then}
use Rattle.nbd_session.specs.Export.{export_for}
use Rattle.nbd_session.specs.Denials.{no_denials}
use Rattle.nbd_session.specs.Requests.{Exchange, Side, most, reply_of}
use Rattle.nbd_session.specs.Runs.{EndsRun, ServesRun}
use Rattle.nbd_session.specs.Session.{FlushesLast, HasSession, Talks}
use Rattle.nbd_session.specs.Stops.{exchange_bytes}
use Rattle.nbd_session.specs.declared.denials.Denials.{Denials}

-- a session came to no requests
ended_before : (export : Export) (side : Side) (end : End) (d : DiskState) (source rest : SourceState) (sink after : SinkState) → export ≡ export_for side d most
    → Negotiates export source rest sink (Err end) after → Talks side end no_denials source rest sink after d d
ended_before export side end d source rest sink after told h = record {
  talk = record { flags = h.flags; client = h.client; options = h.options; exchanges = []; rest = h.bytes };
  took = h.took;
  gave =
      let texts : List (List ℕ) = answers export h.client h.options in
      subst (λ (e : Export). GivesTexts end (greeting ∷ (answers e h.client h.options ++ [])) sink after) told
      (subst (λ (l : List (List ℕ)). GivesTexts end (greeting ∷ l) sink after) (sym (append-nil texts)) h.gave);
  why = elim h.why [
    | inl unknown ↦
        let same : unknown.end ≡ end = cc (unknown.why) in
        inl (record { ends = subst (λ (e : End). EndsGreeting e h.flags source rest) same unknown.ends; options = unknown.none; exchanges = refl; bare = unknown.bare })
    | inr led ↦ inr (inl (record { client = led.is; ends = led.lead; exchanges = refl }))
  ];
  served = refl;
  noted = refl;
}

pub ended_early : (export : Export) (side : Side) (end : End) (denied : Denials) (old new : DiskState) (source rest : SourceState) (sink after : SinkState) → export ≡ export_for side old most → denied ≡ no_denials → new ≡ old
    → Negotiates export source rest sink (Err end) after → Talks side end denied source rest sink after old new
ended_early export side end denied old new source rest sink after told none same h =
    subst (λ (d : Denials). Talks side end d source rest sink after old new) (sym none)
    (subst (λ (d : DiskState). Talks side end no_denials source rest sink after old d) (sym same) (ended_before export side end old source rest sink after told h))

-- the faults are with_denied from an earlier time
EndsRun-earlier : (end : End) (xs : List Exchange) (bytes : List ℕ) (source middle rest : SourceState) → source.faults ≤ middle.faults → EndsRun end xs bytes middle rest → EndsRun end xs bytes source rest
EndsRun-earlier Closed xs bytes source middle rest later h = h
EndsRun-earlier ReadFault xs bytes source middle rest later h = (h.0, omega (arith, later, h.1))
EndsRun-earlier WriteFault xs bytes source middle rest later h = h
EndsRun-earlier Malformed xs bytes source middle rest later h = h

-- nothing was taken between the options and the requests
said_all : (flags options bytes more : List ℕ) → bytes ≡ [] → (flags ++ (options ++ bytes)) ++ more ≡ flags ++ (options ++ more)
said_all flags options bytes more none =
    append_assoc flags (options ++ bytes) more
    ∙ ap (λ (l : List ℕ). flags ++ l) (append_assoc options bytes more ∙ ap (λ (l : List ℕ). options ++ (l ++ more)) none)

talked_on : (export : Export) (side : Side) (end : End) (old new : DiskState) (source middle rest : SourceState) (sink between after : SinkState) (denied : Denials) (flags : List ℕ) → export ≡ export_for side old most
    → (h : Negotiates export source middle sink (Ok tt) between) → (run : ServesRun side old new middle rest between end after denied) → Talks side end denied source rest sink after old new
talked_on export side end old new source middle rest sink between after denied flags told h run = elim h.why [
  | inl unknown ↦ absurd (let no : ⊥ = cc (unknown.why) in no)
  | inr led ↦ record {
    talk = record { flags = h.flags; client = h.client; options = h.options; exchanges = run.exchanges; rest = run.bytes };
    took = subst (λ (l : List ℕ). SourceGave l source rest) (said_all h.flags (flat_map option_bytes h.options) h.bytes (flat_map exchange_bytes run.exchanges ++ run.bytes) led.lead.1) (SourceGave-then h.took run.took);
    gave = subst (λ (e : Export). GivesTexts end (greeting ∷ (answers e h.client h.options ++ map reply_of run.exchanges)) sink after) told
        (gave-then end (greeting ∷ answers export h.client h.options) (map reply_of run.exchanges) sink between after h.gave run.gave);
    why = inr (inr (record {
      client = led.is;
      options = led.lead.0;
      ends = EndsRun-earlier end run.exchanges run.bytes source middle rest h.took.later run.why;
    }));
    served = run.served;
    noted = run.noted;
  }
]

pub talked : (done : Unit {0}) (export : Export) (side : Side) (end : End) (old before new : DiskState) (source middle rest : SourceState) (sink between after : SinkState) (denied : Denials) → export ≡ export_for side old most → before ≡ old
    → Negotiates export source middle sink (Ok done) between → ServesRun side before new middle rest between end after denied → Talks side end denied source rest sink after old new
talked done export side end old before new source middle rest sink between after denied told same h run =
    talked_on export side end old new source middle rest sink between after denied [] told h (subst (λ (d : DiskState). ServesRun side d new middle rest between end after denied) same run)

-- ---- the last flush

closes : {E : Type 0} (flushed : Result (Unit {0}) E) (old new : DiskState) → OnOk flushed (Logs (Flush ∷ []) old new) → OnErr flushed (FailsIn (Flush ∷ []) old new) → FlushesLast flushed old new
closes (Ok done) old new ok err = ok
closes (Err failed) old new ok err = err

pub closed_so : {E : Type 0} (side : Side) (end : End) (denied : Denials) (source rest : SourceState) (sink after : SinkState) (flushed : Result (Unit {0}) E) (old last new : DiskState)
    → Talks side end denied source rest sink after old last → OnOk flushed (Logs (Flush ∷ []) last new) → OnErr flushed (FailsIn (Flush ∷ []) last new) → HasSession side end denied source rest sink after flushed old new
closed_so side end denied source rest sink after flushed old last new talks ok err = record { last = last; talks = talks; closed = closes flushed last new ok err }
