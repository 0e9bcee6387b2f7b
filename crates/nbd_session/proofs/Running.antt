-- Requests that are served one after another.
use Rattle.std.proofs.Common.{Bool, ◌≡◌, ◌∙◌, inl, inr, Option, Some, None, ℕ, ◌+◌, ◌-◌, ◌^◌, ◌<◌, ◌≤◌, List, [], ◌∷◌, ◌++◌, map, Result, Ok, Err, refl, ap, sym, subst, arith, append-nil, length, length-append}
use Rattle.std.proofs.lemmas.Grind.{flat_map-append}
use Rattle.std.specs.List.{concat, flat_map}
use Rattle.block_traits.specs.Disk.{DiskState}
use Rattle.block_traits.specs.Streams.{SinkState, SourceState, TookAll}
use Rattle.provider.specs.Attached.{Attached, IsKept}
use Rattle.text_page.proofs.Printing.{TookAll-nothing}
use Rattle.nbd_negotiation.specs.Streams.{GivesTexts, SourceGave}
use Rattle.nbd_negotiation.specs.declared.streams.End.{End}
use Rattle.nbd_negotiation.specs.declared.streams.End.TheVariants.{Closed, ReadFault, WriteFault, Malformed}
use Rattle.nbd_negotiation.proofs.Filling.{SourceGave-bare, SourceGave-none, SourceGave-then}
use Rattle.nbd_negotiation.proofs.Giving.{gave-more, gave-part}
use Rattle.nbd_session.specs.Denials.{MayCount, with_denied, with_denied_as, denial_of, denials_in, no_denials, tally}
use Rattle.nbd_session.specs.Requests.{Exchange, ServesExchange, ServesExchanges, Side, reply_of, side_of}
use Rattle.nbd_session.specs.Runs.{EndsRun, ServedSoFar, ServesRun}
use Rattle.nbd_session.specs.Served.{ServesNone, ServesOne, ServesRequest}
use Rattle.nbd_session.specs.Stops.{exchange_bytes}
use Rattle.nbd_session.specs.declared.denials.Denial.{Denial}
use Rattle.nbd_session.specs.declared.denials.Denials.{Denials}
use Rattle.nbd_session.specs.declared.denials.DeniedKind.{DeniedKind}
use Rattle.nbd_session.specs.declared.denials.DeniedKind.TheVariants as denied_kinds

flat_more : (xs : List Exchange) (x : Exchange) → flat_map exchange_bytes (xs ++ x ∷ []) ≡ flat_map exchange_bytes xs ++ exchange_bytes x
flat_more xs x = flat_map-append exchange_bytes xs (x ∷ []) ∙ ap (λ (l : List ℕ). flat_map exchange_bytes xs ++ l) (append-nil (exchange_bytes x))

ServesExchanges-more : (xs : List Exchange) (x : Exchange) (side : Side) (old middle : DiskState) → ServesExchanges side xs old middle → ServesExchange side x middle → ServesExchanges side (xs ++ x ∷ []) old x.next
ServesExchanges-more [] x side old middle h one = (subst (ServesExchange side x) h one, refl)
ServesExchanges-more (y ∷ ys) x side old middle h one = (h.0, ServesExchanges-more ys x side y.next middle h.1 one)

-- with one more, all were served
all-served : (side : Side) (xs : List Exchange) (x : Exchange) (old middle new : DiskState) → ServesExchanges side xs old middle → ServesExchange side x middle → x.next ≡ new → ServesExchanges side (xs ++ x ∷ []) old new
all-served side xs x old middle new all one next = subst (ServesExchanges side (xs ++ x ∷ []) old) next (ServesExchanges-more xs x side old middle all one)

took-more : (xs : List Exchange) (x : Exchange) {source middle rest : SourceState} → SourceGave (flat_map exchange_bytes xs) source middle → SourceGave (exchange_bytes x) middle rest → SourceGave (flat_map exchange_bytes (xs ++ x ∷ [])) source rest
took-more xs x {source} {middle} {rest} a b = subst (λ (l : List ℕ). SourceGave l source rest) (sym (flat_more xs x)) (SourceGave-then a b)

-- with one more, what was denied of it is with_denied
tally-more : (d : Denials) (xs : List Exchange) (x : Exchange) → tally d (xs ++ x ∷ []) ≡ with_denied (tally d xs) (denial_of x)
tally-more d [] x = refl
tally-more d (y ∷ ys) x = tally-more (with_denied d (denial_of y)) ys x

noted-more : (xs : List Exchange) (x : Exchange) (before : Denials) (denied : Option Denial) → before ≡ denials_in xs → denied ≡ denial_of x → with_denied before denied ≡ denials_in (xs ++ x ∷ [])
noted-more xs x before denied so one =
    ap (λ (d : Denials). with_denied d denied) so ∙ ap (with_denied (denials_in xs)) one ∙ sym (tally-more no_denials xs x)

more-served : (done : Unit {0}) (side : Side) (wanting : Bool) (n : ℕ) (old middle new : DiskState) (source between rest : SourceState) (sink halfway after : SinkState) (before : Denials) (denied : Option Denial) → ServedSoFar side n old middle source between sink halfway before
    → ServesOne side wanting middle new between rest halfway (Ok done) after denied → ServedSoFar side (n + 1) old new source rest sink after (with_denied before denied)
more-served done side wanting n old middle new source between rest sink halfway after before denied so one = record {
  exchanges = so.exchanges ++ one.exchange ∷ [];
  count = omega (arith, so.count, length-append so.exchanges (one.exchange ∷ []));
  served = all-served side so.exchanges one.exchange old middle new so.served one.serves one.next;
  took = took-more so.exchanges one.exchange so.took one.took;
  gave = gave-more reply_of so.exchanges one.exchange so.gave one.gives;
  noted = noted-more so.exchanges one.exchange before denied so.noted one.noted;
}

served-next : (done : Unit {0}) (side : Side) (wanting : Bool) (n : ℕ) (old middle new : DiskState) (source between rest : SourceState) (sink halfway after : SinkState) (before : Denials) (denied : Option Denial) → ServedSoFar side n old middle source between sink halfway before
    → ServesRequest side wanting middle new between rest halfway (Ok done) after denied → ServedSoFar side (n + 1) old new source rest sink after (with_denied before denied)
served-next done side wanting n old middle new source between rest sink halfway after before denied so h =
    elim h [ inl one ↦ more-served done side wanting n old middle new source between rest sink halfway after before denied so one | inr none ↦ absurd none.stops ]

noted-on : (xs : List Exchange) (before : Denials) (denied : Option Denial) → before ≡ denials_in xs → denied ≡ None → with_denied before denied ≡ denials_in xs
noted-on xs before denied so none = ap (with_denied before) none ∙ so

-- no request was served, and the session ends
stops-by : (end : End) (side : Side) (n : ℕ) (old middle new : DiskState) (source between rest : SourceState) (sink halfway after : SinkState) (before : Denials) (denied : Option Denial) (so : ServedSoFar side n old middle source between sink halfway before)
    → (none : ServesNone middle new between rest halfway (Err end) after denied) → ((texts : List (List ℕ)) → TookAll (concat texts) sink after → GivesTexts end texts sink after)
    → EndsRun end so.exchanges none.bytes source rest → ServesRun side old new source rest sink end after (with_denied before denied)
stops-by end side n old middle new source between rest sink halfway after before denied so none gives why = record {
  exchanges = so.exchanges;
  bytes = none.bytes;
  served = subst (ServesExchanges side so.exchanges old) (sym none.disk) so.served;
  took = SourceGave-then so.took none.took;
  gave = gives (map reply_of so.exchanges) (subst (λ (s : SinkState). TookAll (concat (map reply_of so.exchanges)) sink s) (sym none.silent) so.gave);
  why = why;
  noted = noted-on so.exchanges before denied so.noted none.noted;
}

stops-run : (end : End) (side : Side) (n : ℕ) (old middle new : DiskState) (source between rest : SourceState) (sink halfway after : SinkState) (before : Denials) (denied : Option Denial) → ServedSoFar side n old middle source between sink halfway before
    → ServesNone middle new between rest halfway (Err end) after denied → ServesRun side old new source rest sink end after (with_denied before denied)
stops-run Closed side n old middle new source between rest sink halfway after before denied so none =
    stops-by Closed side n old middle new source between rest sink halfway after before denied so none (λ texts all. all) (inl none.stops)
stops-run ReadFault side n old middle new source between rest sink halfway after before denied so none =
    stops-by ReadFault side n old middle new source between rest sink halfway after before denied so none (λ texts all. all) (none.stops.0, omega (arith, so.took.later, none.stops.1))
stops-run WriteFault side n old middle new source between rest sink halfway after before denied so none = absurd none.stops
stops-run Malformed side n old middle new source between rest sink halfway after before denied so none =
    stops-by Malformed side n old middle new source between rest sink halfway after before denied so none (λ texts all. all) none.stops

-- the last was served, and its reply couldn't be given
fails-run : (end : End) (side : Side) (wanting : Bool) (n : ℕ) (old middle new : DiskState) (source between rest : SourceState) (sink halfway after : SinkState) (before : Denials) (denied : Option Denial) → ServedSoFar side n old middle source between sink halfway before
    → ServesOne side wanting middle new between rest halfway (Err end) after denied → ServesRun side old new source rest sink end after (with_denied before denied)
fails-run Closed side wanting n old middle new source between rest sink halfway after before denied so one = absurd one.gives
fails-run ReadFault side wanting n old middle new source between rest sink halfway after before denied so one = absurd one.gives
fails-run WriteFault side wanting n old middle new source between rest sink halfway after before denied so one =
    let all : List Exchange = so.exchanges ++ one.exchange ∷ [] in
    record {
      exchanges = all;
      bytes = [];
      served = all-served side so.exchanges one.exchange old middle new so.served one.serves one.next;
      took = SourceGave-bare (took-more so.exchanges one.exchange so.took one.took);
      gave = gave-part reply_of so.exchanges one.exchange so.gave one.gives;
      why = (omega (arith, length-append so.exchanges (one.exchange ∷ [])), refl);
      noted = noted-more so.exchanges one.exchange before denied so.noted one.noted;
    }
fails-run Malformed side wanting n old middle new source between rest sink halfway after before denied so one = absurd one.gives

side_same : {D : Type 0} (p q : Attached D) → IsKept p q → side_of q ≡ side_of p
side_same p q kept = λ i. record { keying = kept.keying i; readonly = kept.readonly i }

pub next_by : {D : Type 0} (done : Unit {0}) (p q : Attached D) (wanting : Bool) (n : ℕ) (old middle new : DiskState) (source between rest : SourceState) (sink halfway after : SinkState) (before all : Denials) (denied : Option Denial) (result : Result (Unit {0}) End) → IsKept p q
    → ServedSoFar (side_of p) n old middle source between sink halfway before → result ≡ Ok done → all ≡ with_denied before denied
    → ServesRequest (side_of q) wanting middle new between rest halfway result after denied → ServedSoFar (side_of p) (n + 1) old new source rest sink after all
next_by done p q wanting n old middle new source between rest sink halfway after before all denied result kept so is same h =
    subst (λ (d : Denials). ServedSoFar (side_of p) (n + 1) old new source rest sink after d) (sym same)
    (served-next done (side_of p) wanting n old middle new source between rest sink halfway after before denied so (subst (λ (r : Result (Unit {0}) End). ServesRequest (side_of p) wanting middle new between rest halfway r after denied) is
    (subst (λ (s : Side). ServesRequest s wanting middle new between rest halfway result after denied) (side_same p q kept) h)))

pub ends_by : {D : Type 0} (p q : Attached D) (wanting : Bool) (end : End) (n : ℕ) (old middle new : DiskState) (source between rest : SourceState) (sink halfway after : SinkState) (before all : Denials) (denied : Option Denial) (result : Result (Unit {0}) End) → IsKept p q
    → ServedSoFar (side_of p) n old middle source between sink halfway before → result ≡ Err end → all ≡ with_denied before denied
    → ServesRequest (side_of q) wanting middle new between rest halfway result after denied → ServesRun (side_of p) old new source rest sink end after all
ends_by p q wanting end n old middle new source between rest sink halfway after before all denied result kept so is same h =
    subst (λ (d : Denials). ServesRun (side_of p) old new source rest sink end after d) (sym same)
    (elim (subst (λ (r : Result (Unit {0}) End). ServesRequest (side_of p) wanting middle new between rest halfway r after denied) is
    (subst (λ (s : Side). ServesRequest s wanting middle new between rest halfway result after denied) (side_same p q kept) h)) [
      | inl one ↦ fails-run end (side_of p) wanting n old middle new source between rest sink halfway after before denied so one
      | inr none ↦ stops-run end (side_of p) n old middle new source between rest sink halfway after before denied so none
    ])

pub kept_on : {D : Type 0} {p q r : Attached D} → IsKept p q → IsKept q r → IsKept p r
kept_on a b = record { keying = b.keying ∙ a.keying; slot = b.slot ∙ a.slot; readonly = b.readonly ∙ a.readonly }

-- as many requests were served as a session takes at most
pub full : (side : Side) (n : ℕ) (old new : DiskState) (source rest : SourceState) (sink after : SinkState) (denied : Denials) → 2 ^ 64 - 1 ≤ n → ServedSoFar side n old new source rest sink after denied
    → ServesRun side old new source rest sink Closed after denied
full side n old new source rest sink after denied many so = record {
  exchanges = so.exchanges;
  bytes = [];
  served = so.served;
  took = SourceGave-bare so.took;
  gave = so.gave;
  why = inr (omega (arith, many, so.count), refl);
  noted = so.noted;
}

pub none-yet : (side : Side) (d : DiskState) (source : SourceState) (sink : SinkState) (denied : Denials) → denied ≡ no_denials → ServedSoFar side 0 d d source source sink sink denied
none-yet side d source sink denied none = record { exchanges = []; count = refl; served = refl; took = SourceGave-none source; gave = TookAll-nothing sink; noted = none }

-- ---- the counts stay small

-- no count is more than a number
pub record AreAtMost (n : ℕ) (d : Denials) : Type 0 where
  pub writes : d.writes ≤ n
  pub zeros : d.zeros ≤ n
  pub flushes : d.flushes ≤ n

counted-as-most : (kind : DeniedKind) (n : ℕ) (d : Denials) (denial : Denial) → AreAtMost n d → AreAtMost (n + 1) (with_denied_as kind d denial)
counted-as-most denied_kinds.Write n d denial h = record { writes = omega (arith, h.writes); zeros = omega (arith, h.zeros); flushes = omega (arith, h.flushes) }
counted-as-most denied_kinds.Zeros n d denial h = record { writes = omega (arith, h.writes); zeros = omega (arith, h.zeros); flushes = omega (arith, h.flushes) }
counted-as-most denied_kinds.Flush n d denial h = record { writes = omega (arith, h.writes); zeros = omega (arith, h.zeros); flushes = omega (arith, h.flushes) }

counted-most : (n : ℕ) (d : Denials) (denied : Option Denial) → AreAtMost n d → AreAtMost (n + 1) (with_denied d denied)
counted-most n d None h = record { writes = omega (arith, h.writes); zeros = omega (arith, h.zeros); flushes = omega (arith, h.flushes) }
counted-most n d (Some denial) h = counted-as-most denial.kind n d denial h

tally-most : (xs : List Exchange) (n : ℕ) (d : Denials) → AreAtMost n d → AreAtMost (n + length xs) (tally d xs)
tally-most [] n d h = record { writes = omega (arith, h.writes); zeros = omega (arith, h.zeros); flushes = omega (arith, h.flushes) }
tally-most (x ∷ xs) n d h =
    let more = tally-most xs (n + 1) (with_denied d (denial_of x)) (counted-most n d (denial_of x) h) in
    record { writes = omega (arith, more.writes); zeros = omega (arith, more.zeros); flushes = omega (arith, more.flushes) }

-- one more can be with_denied, since fewer requests were served than a session takes
pub may-count : (side : Side) (n : ℕ) (old new : DiskState) (source rest : SourceState) (sink after : SinkState) (denied : Denials) → n < 2 ^ 64 - 1 → ServedSoFar side n old new source rest sink after denied → MayCount denied
may-count side n old new source rest sink after denied few so =
    let most = tally-most so.exchanges 0 no_denials (record { writes = omega arith; zeros = omega arith; flushes = omega arith }) in
    subst (λ (d : Denials). MayCount d) (sym so.noted)
    (record { writes = omega (arith, few, so.count, most.writes); zeros = omega (arith, few, so.count, most.zeros); flushes = omega (arith, few, so.count, most.flushes) })
