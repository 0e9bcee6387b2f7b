-- What waits for a disk and what was done below, by what is reported.
use Rattle.std.proofs.Common.{◌≡◌, ℕ, zero, suc, ◌<◌, ◌≤◌, ◌==◌, Bool, true, false, cond, List, [], ◌∷◌, ◌++◌, length, take, refl, sym, ap, ◌∙◌, subst, subst₂, arith, Option, Some, None, All}
use Rattle.std.proofs.lemmas.List.Elements.{All-nil, All-cons}
use Rattle.block_traits.specs.declared.disk.Event.{Event}
use Rattle.block_traits.specs.declared.disk.Event.TheVariants.{Flush}
use Rattle.block_traits.specs.Causes.{Rose}
use Rattle.block_traits.specs.Content.{Content, IsEventOf, kept_after, kept_values, last_of, logged, with_events}
use Rattle.block_traits.specs.Disk.{DiskState, FailsIn, FitsSize, GivesFrom, Logs}
use Rattle.block_traits.proofs.Contents.{IsContentOf-more, kept_after-append}
use Rattle.block_traits.proofs.Keeping.{kept_values-more}
use Rattle.block_traits.proofs.Logs.{logged-append, logged-none}
use Rattle.disk_layers.specs.declared.write_behind.Waiting.{Waiting}
use Rattle.disk_layers.specs.Covering.{CoversTold, CoversValues}
use Rattle.disk_layers.specs.History.{told_history, with_history}
use Rattle.disk_layers.specs.Waiting.{StopsIn, write_of, writes_of}
use Rattle.disk_layers.proofs.Covered.{Covers_itself, Covers_logged, Covers_through, covers_events, covers_itself, covers_last, covers_twice, present-covered, some_kept}
use Rattle.disk_layers.proofs.WaitingLemmas.{writes_of-append}

-- ---- what is reported, by what the disk below reports

-- whatever is done below
pub anew-logged : (past events : List Event) (told : Option Content) → with_history past (logged events told) ≡ with_history past told
anew-logged past events None = refl
anew-logged past events (Some c) = refl

pub anew-more : (past events : List Event) (told : Option Content) → with_history (past ++ events) told ≡ logged events (with_history past told)
anew-more past events None = refl
anew-more past events (Some c) = refl

pub anew-own : (told : Option Content) → with_history (told_history told) told ≡ told
anew-own None = refl
anew-own (Some c) = refl

pub fits-more : (size : ℕ) (events : List Event) (told : Option Content) → All (IsEventOf size) events → FitsSize size told → FitsSize size (logged events told)
fits-more size events None fit fits = tt
fits-more size events (Some c) fit fits = IsContentOf-more size events c fits fit

-- ---- what waits

one_more : (values : List (List ℕ)) (value : List ℕ) → 0 < length (values ++ value ∷ [])
one_more [] value = omega arith
one_more (first ∷ values) value = omega arith

-- a write that was refused may have been done, and waits still
done_twice : (write : Waiting) (here : Bool) (behind : List Event) (n : ℕ) (values : List (List ℕ)) → 0 < length values
    → CoversValues (kept_after behind n (cond here (cond here (values ++ write.bytes ∷ []) values ++ write.bytes ∷ []) (cond here (values ++ write.bytes ∷ []) values))) (kept_after behind n (cond here (values ++ write.bytes ∷ []) values))
done_twice write true behind n values some =
    covers_events behind n ((values ++ write.bytes ∷ []) ++ write.bytes ∷ []) (values ++ write.bytes ∷ []) (one_more values write.bytes) (covers_twice values write.bytes some)
done_twice write false behind n values some = covers_itself (kept_after behind n values)

stopped : (count : ℕ) (refused : Waiting) (behind : List Event) (n : ℕ) (values : List (List ℕ)) → count ≤ 1 → 0 < length values
    → CoversValues (kept_after (write_of refused ∷ behind) n (kept_after (take count (write_of refused ∷ [])) n values)) (kept_after (write_of refused ∷ behind) n values)
stopped zero refused behind n values few some = covers_itself (kept_after (write_of refused ∷ behind) n values)
stopped (suc zero) refused behind n values few some = done_twice refused (refused.n == n) behind n values some
stopped (suc (suc count)) refused behind n values few some = absurd (omega arith)

-- the writes after these, one of which was refused
stops-order : (done behind : List Waiting) (refused : Waiting) (count : ℕ) (told : Option Content) → count ≤ 1
    → CoversTold (logged (writes_of (refused ∷ behind)) (logged (take count (write_of refused ∷ [])) (logged (writes_of done) told))) (logged (writes_of (done ++ refused ∷ behind)) told)
stops-order done behind refused count None few = tt
stops-order done behind refused count (Some c) few = λ n.
    let one : List Event = take count (write_of refused ∷ []) in
    let before : Content = with_events (writes_of done) c in
    let left : List Event = write_of refused ∷ writes_of behind in
    let below : kept_values (with_events left (with_events one before)) n ≡ kept_after left n (kept_after one n (kept_values before n)) =
    kept_values-more (with_events one before) left n ∙ ap (kept_after left n) (kept_values-more before one n) in
    let above : kept_values (with_events (writes_of (done ++ refused ∷ behind)) c) n ≡ kept_after left n (kept_values before n) =
    kept_values-more c (writes_of (done ++ refused ∷ behind)) n
    ∙ ap (λ (events : List Event). kept_after events n (kept_values c n)) (writes_of-append done (refused ∷ behind))
    ∙ kept_after-append (writes_of done) left n (kept_values c n)
    ∙ ap (kept_after left n) (sym (kept_values-more c (writes_of done) n)) in
    subst₂ CoversValues (sym below) (sym above) (stopped count refused (writes_of behind) n (kept_values before n) few (some_kept before n))

pub stops-covered : (all left : List Waiting) (old new : DiskState) → StopsIn all left old new → CoversTold (logged (writes_of left) new.content) (logged (writes_of all) old.content)
stops-covered all left old new stops =
    let few : stops.fails.count ≤ 1 = stops.fails.within in
    let same : new.content ≡ logged (take stops.fails.count (write_of stops.refused ∷ [])) (logged (writes_of stops.done) old.content) =
    stops.fails.logs.content ∙ ap (logged (take stops.fails.count (write_of stops.refused ∷ []))) stops.logs.content in
    let P : List Waiting → List Waiting → Type 0 = λ l a. CoversTold (logged (writes_of l) new.content) (logged (writes_of a) old.content) in
    let Q : Option Content → Type 0 = λ t. CoversTold (logged (writes_of (stops.refused ∷ stops.behind)) t) (logged (writes_of (stops.done ++ stops.refused ∷ stops.behind)) old.content) in
    subst₂ P (sym stops.are) (sym stops.were) (subst Q (sym same) (stops-order stops.done stops.behind stops.refused stops.fails.count old.content few))

-- ---- what a layer keeps of itself, by what was done below

module _ (past : List Event) (old new : DiskState) where
  -- the same history over what was logged below
  pub same_history : (events : List Event) → Logs events old new → with_history past new.content ≡ with_history past old.content
  same_history events logs = ap (with_history past) logs.content ∙ anew-logged past events old.content

  pub stops-history : (all left : List Waiting) → StopsIn all left old new → with_history past new.content ≡ with_history past old.content
  stops-history all left stops =
      ap (with_history past) stops.fails.logs.content ∙ anew-logged past (take stops.fails.count (write_of stops.refused ∷ [])) stops.middle.content
      ∙ ap (with_history past) stops.logs.content ∙ anew-logged past (writes_of stops.done) old.content

  pub stops-size : (all left : List Waiting) → StopsIn all left old new → new.size ≡ old.size
  stops-size all left stops = stops.fails.logs.size ∙ stops.logs.size

  pub stops-faults : (all left : List Waiting) → StopsIn all left old new → old.faults ≤ new.faults
  stops-faults all left stops = omega (arith, stops.fails.logs.faults, stops.logs.faults)

  pub stops-rose : (all left : List Waiting) → StopsIn all left old new → Rose old.faults new.faults
  stops-rose all left stops = omega (arith, stops.fails.rose, stops.logs.faults)

  -- what it reports fits, and covers what is below
  pub history-fits : new.size ≡ old.size → with_history past new.content ≡ with_history past old.content → FitsSize old.size (with_history past old.content) → FitsSize new.size (with_history past new.content)
  history-fits size same fits = subst₂ FitsSize (sym size) (sym same) fits

  pub history-covers : (waiting left : List Waiting) → with_history past new.content ≡ with_history past old.content → CoversTold (logged (writes_of left) new.content) (logged (writes_of waiting) old.content)
      → CoversTold (logged (writes_of waiting) old.content) (with_history past old.content) → CoversTold (logged (writes_of left) new.content) (with_history past new.content)
  history-covers waiting left same step covers =
      subst (CoversTold (logged (writes_of left) new.content)) (sym same)
      (Covers_through (logged (writes_of left) new.content) (logged (writes_of waiting) old.content) (with_history past old.content) step covers)

  -- all that waited was written
  pub drained : (waiting left : List Waiting) → Logs (writes_of waiting) old new → left ≡ [] → CoversTold (logged (writes_of left) new.content) (logged (writes_of waiting) old.content)
  drained waiting left logs none =
      let P : List Waiting → Type 0 = λ l. CoversTold (logged (writes_of l) new.content) (logged (writes_of waiting) old.content) in
      let same : logged (writes_of waiting) old.content ≡ logged [] new.content = sym logs.content ∙ sym (logged-none new.content) in
      subst P (sym none) (subst (CoversTold (logged [] new.content)) (sym same) (Covers_itself (logged [] new.content)))

  -- nothing was done
  pub unchanged : (waiting left : List Waiting) → Logs [] old new → left ≡ waiting → CoversTold (logged (writes_of left) new.content) (logged (writes_of waiting) old.content)
  unchanged waiting left logs same =
      let here : new.content ≡ old.content = logs.content ∙ logged-none old.content in
      subst₂ (λ (l : List Waiting) (t : Option Content). CoversTold (logged (writes_of l) t) (logged (writes_of waiting) old.content)) (sym same) (sym here) (Covers_itself (logged (writes_of waiting) old.content))

-- ---- a flush

flushed_there : (events : List Event) (c : Content) → events ≡ [] → CoversTold (Some (with_events [] (with_events events c))) (Some (with_events [] c))
flushed_there events c none =
    let P : List Event → Type 0 = λ es. CoversTold (Some (with_events [] (with_events es c))) (Some (with_events [] c)) in
    subst P (sym none) (λ n. subst (λ (values : List (List ℕ)). CoversValues values (kept_values (with_events [] c) n)) (sym (kept_values-more (with_events [] c) [] n)) (covers_itself (kept_values (with_events [] c) n)))

one_flush : (c : Content) → CoversTold (Some (with_events [] (with_events (Flush ∷ []) c))) (Some (with_events [] c))
one_flush c = λ n.
    let values : List (List ℕ) = kept_values c n in
    let below : kept_values (with_events [] (with_events (Flush ∷ []) c)) n ≡ last_of values ∷ [] = kept_values-more (with_events (Flush ∷ []) c) [] n ∙ kept_values-more c (Flush ∷ []) n in
    let above : kept_values (with_events [] c) n ≡ values = kept_values-more c [] n in
    subst₂ CoversValues (sym below) (sym above) (covers_last values values (some_kept c n) (covers_itself values))

refused_flush : (count : ℕ) (c : Content) → count ≤ 1 → CoversTold (Some (with_events [] (with_events (take count (Flush ∷ [])) c))) (Some (with_events [] c))
refused_flush zero c few = flushed_there [] c refl
refused_flush (suc zero) c few = one_flush c
refused_flush (suc (suc count)) c few = absurd (omega arith)

-- a flush that was refused may have been done
flush-part : (count : ℕ) (told : Option Content) → count ≤ 1 → CoversTold (logged [] (logged (take count (Flush ∷ [])) told)) (logged [] told)
flush-part count None few = tt
flush-part count (Some c) few = refused_flush count c few

pub flush-refused : (old new : DiskState) (waiting left : List Waiting) → FailsIn (Flush ∷ []) old new → waiting ≡ [] → left ≡ [] → CoversTold (logged (writes_of left) new.content) (logged (writes_of waiting) old.content)
flush-refused old new waiting left fails none empty =
    let P : List Waiting → List Waiting → Type 0 = λ l w. CoversTold (logged (writes_of l) new.content) (logged (writes_of w) old.content) in
    subst₂ P (sym empty) (sym none) (subst (λ (t : Option Content). CoversTold (logged [] t) (logged [] old.content)) (sym fails.logs.content) (flush-part fails.count old.content fails.within))

both_flush : (past : List Event) (told : Option Content) → CoversTold (logged [] told) (with_history past told) → CoversTold (logged [] (logged (Flush ∷ []) told)) (with_history (past ++ Flush ∷ []) (logged (Flush ∷ []) told))
both_flush past told covers =
    let below : logged [] (logged (Flush ∷ []) told) ≡ logged (Flush ∷ []) (logged [] told) = logged-append (Flush ∷ []) [] told ∙ sym (logged-append [] (Flush ∷ []) told) in
    let above : with_history (past ++ Flush ∷ []) (logged (Flush ∷ []) told) ≡ logged (Flush ∷ []) (with_history past told) = anew-logged (past ++ Flush ∷ []) (Flush ∷ []) told ∙ anew-more past (Flush ∷ []) told in
    subst₂ CoversTold (sym below) (sym above) (Covers_logged (Flush ∷ []) (logged [] told) (with_history past told) covers)

pub flush-covers : (past : List Event) (old new : DiskState) (waiting left : List Waiting) → Logs (Flush ∷ []) old new → waiting ≡ [] → left ≡ [] → CoversTold (logged (writes_of waiting) old.content) (with_history past old.content)
    → CoversTold (logged (writes_of left) new.content) (with_history (past ++ Flush ∷ []) new.content)
flush-covers past old new waiting left logs none empty covers =
    let P : List Waiting → Option Content → Type 0 = λ l t. CoversTold (logged (writes_of l) t) (with_history (past ++ Flush ∷ []) t) in
    let here : CoversTold (logged [] old.content) (with_history past old.content) = subst (λ (w : List Waiting). CoversTold (logged (writes_of w) old.content) (with_history past old.content)) none covers in
    subst₂ P (sym empty) (sym logs.content) (both_flush past old.content here)

-- ---- what is reported after a flush

pub flush-reported : (past now : List Event) (old new : DiskState) → Logs (Flush ∷ []) old new → now ≡ past ++ Flush ∷ [] → with_history now new.content ≡ logged (Flush ∷ []) (with_history past old.content)
flush-reported past now old new logs noted =
    ap (λ (l : List Event). with_history l new.content) noted ∙ same_history (past ++ Flush ∷ []) old new (Flush ∷ []) logs ∙ anew-more past (Flush ∷ []) old.content

pub flush-fits : (past now : List Event) (old new : DiskState) → Logs (Flush ∷ []) old new → now ≡ past ++ Flush ∷ [] → FitsSize old.size (with_history past old.content) → FitsSize new.size (with_history now new.content)
flush-fits past now old new logs noted fits =
    subst₂ FitsSize (sym logs.size) (sym (flush-reported past now old new logs noted))
    (fits-more old.size (Flush ∷ []) (with_history past old.content) (All-cons (IsEventOf old.size) Flush [] tt (All-nil (IsEventOf old.size))) fits)

-- what is reported after more events
pub more-fits : (size : ℕ) (past events : List Event) (told : Option Content) → All (IsEventOf size) events → FitsSize size (with_history past told) → FitsSize size (with_history (past ++ events) told)
more-fits size past events told fit fits = subst (FitsSize size) (sym (anew-more past events told)) (fits-more size events (with_history past told) fit fits)

-- ---- one more write waits

pub order-push : (told : Option Content) (waiting : List Waiting) (write : Waiting) → logged (writes_of (waiting ++ write ∷ [])) told ≡ logged (write_of write ∷ []) (logged (writes_of waiting) told)
order-push told waiting write = ap (λ (es : List Event). logged es told) (writes_of-append waiting (write ∷ [])) ∙ sym (logged-append (writes_of waiting) (write_of write ∷ []) told)

pub push-covers : (past : List Event) (told : Option Content) (waiting : List Waiting) (write : Waiting) → CoversTold (logged (writes_of waiting) told) (with_history past told)
    → CoversTold (logged (writes_of (waiting ++ write ∷ [])) told) (with_history (past ++ write_of write ∷ []) told)
push-covers past told waiting write covers =
    subst₂ CoversTold (sym (order-push told waiting write)) (sym (anew-more past (write_of write ∷ []) told)) (Covers_logged (write_of write ∷ []) (logged (writes_of waiting) told) (with_history past told) covers)

-- ---- a new layer

pub new-covered : (told : Option Content) → CoversTold (logged [] told) (with_history (told_history told) told)
new-covered told = subst₂ CoversTold (sym (logged-none told)) (sym (anew-own told)) (Covers_itself told)

pub new-fitting : (size : ℕ) (told : Option Content) → FitsSize size told → FitsSize size (with_history (told_history told) told)
new-fitting size told fits = subst (FitsSize size) (sym (anew-own told)) fits

-- nothing is reported of a call that was refused
pub quiet-fails : (events : List Event) (old new : DiskState) → Logs [] old new → Rose old.faults new.faults → FailsIn events old new
quiet-fails events old new logs rose = record { count = 0; within = omega arith; logs = logs; rose = rose }

-- ---- a read

pub gives-covered : (past events : List Event) (told : Option Content) (n : ℕ) (bytes : List ℕ) → CoversTold (logged events told) (with_history past told)
    → GivesFrom (logged events told) n bytes → GivesFrom (with_history past told) n bytes
gives-covered past events None n bytes covers gives = tt
gives-covered past events (Some c) n bytes covers gives = gives ∙ present-covered (with_events events c) (record { base = c.base; history = past }) n (covers n)
