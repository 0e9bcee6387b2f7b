-- Steps that destroy metadata, move them and sweep units.
use Rattle.std.proofs.Common.{◌≡◌, ◌∙◌, ◌⊎◌, inl, inr, ℕ, ◌+◌, ◌*◌, ◌==◌, ◌≤◌, List, [], refl, ap, sym, subst, arith, Bool, true, cond, Option, None, Some, Result, Ok, Err}
use Rattle.std.proofs.lemmas.Bool.{eq-eqb}
use Rattle.command_rows.specs.Rows.{Attachment, Reach}
use Rattle.command_rows.specs.Vocabulary.{Content, Counted, DiskState, EntropyState, Event, Finds, Kills, Logs, MetaFault, Metadata, Refusal, RefusesOld, RefusesSizes, Resizes, Rose, StandFrom, Sweep, TakesTrash, failing_units, grown, kill_events, media, media_sectors, metadata_in, move_events, old_place, old_refusal, present, sectors_swept, size_refusal, standing, sweep_at, trash_size, units}
use Rattle.eli_base.specs.declared.refusals.Refusal.TheVariants as refusals
use Rattle.command_rows.specs.verbs.Kill.{DestroysMetadata}
use Rattle.command_rows.specs.verbs.Resize.{MovesMetadata}
use Rattle.command_rows.specs.verbs.Verify.{PartAnswer, Sweeps, SweptPart}
use Rattle.turn_determinism.proofs.Alike.{AlikeDisk, counted_same, given_by, logs_alike, still_disk, still_entropy, takes_alike, takes_same}
use Rattle.turn_determinism.proofs.Disks.{reads_sure}
use Rattle.turn_determinism.proofs.Keys.{drawing_later, drawing_settled, refusal_same, unread_alike, unrefused}
use Rattle.turn_determinism.proofs.Steps.{Both, Settled, Sure, same_disk_later, same_entropy_later}

-- ---- metadata are destroyed

kills_later : (d : DiskState) (e : EntropyState) (answer : Result (Unit {0}) Refusal) (d' : DiskState) (e' : EntropyState) → Kills d e answer d' e' → (d.faults ≤ d'.faults) × (e.faults ≤ e'.faults)
kills_later d e (Ok done) d' e' h = (h.logs.faults, h.takes.taken.later)
kills_later d e (Err refusals.DeviceFault) d' e' h = (h.fails.logs.faults, h.takes.taken.later)
kills_later d e (Err refusals.EntropyFault) d' e' h = (same_disk_later d d' h.unchanged, h.none.later)
kills_later d e (Err (refusals.TooSmall size)) d' e' h = (same_disk_later d d' h.disk_unchanged, same_entropy_later e e' h.entropy_unchanged)
kills_later d e (Err refusal) d' e' h = absurd h

record KillDone (d : DiskState) (e : EntropyState) (answer : Result (Unit {0}) Refusal) (d' : DiskState) (e' : EntropyState) : Type 0 where
  is : answer ≡ Ok tt
  enough : 2 ≤ d.size
  random : List ℕ
  takes : TakesTrash random e e'
  logs : Logs (kill_events d random) d d'
  unasked : d'.reads ≡ d.reads

record KillRefused (d : DiskState) (e : EntropyState) (answer : Result (Unit {0}) Refusal) (d' : DiskState) (e' : EntropyState) : Type 0 where
  is : answer ≡ Err (refusals.TooSmall (512 * d.size))
  small : d.size + 1 ≤ 2
  disk : d' ≡ d
  entropy : e' ≡ e

kills_is : (d : DiskState) (e : EntropyState) (answer : Result (Unit {0}) Refusal) (d' : DiskState) (e' : EntropyState) → ¬ Rose d.faults d'.faults → ¬ Rose e.faults e'.faults → Kills d e answer d' e'
    → KillDone d e answer d' e' ⊎ KillRefused d e answer d' e'
kills_is d e (Ok done) d' e' quiet full h = inl (record { is = refl; enough = h.enough; random = h.random; takes = h.takes; logs = h.logs; unasked = h.unasked })
kills_is d e (Err refusals.DeviceFault) d' e' quiet full h = absurd (quiet h.fails.rose)
kills_is d e (Err refusals.EntropyFault) d' e' quiet full h = absurd (full h.none.rose)
kills_is d e (Err (refusals.TooSmall size)) d' e' quiet full h =
    inr (record { is = ap (λ (n : ℕ). Err (refusals.TooSmall n)) h.bytes; small = omega (arith, h.small); disk = h.disk_unchanged; entropy = h.entropy_unchanged })
kills_is d e (Err refusal) d' e' quiet full h = absurd h

killed_same : (d d' : DiskState) (random random' : List ℕ) → d'.size ≡ d.size → random' ≡ random → kill_events d' random' ≡ kill_events d random
killed_same d d' random random' size is = rw (size, is) refl

kills_by : (old old' : Reach) (answer answer' : Result (Unit {0}) Refusal) (new new' : Reach) → (both : Both old old' new new') → DestroysMetadata old answer new → DestroysMetadata old' answer' new'
    → KillDone old.disk old.entropy answer new.disk new.entropy ⊎ KillRefused old.disk old.entropy answer new.disk new.entropy
    → KillDone old'.disk old'.entropy answer' new'.disk new'.entropy ⊎ KillRefused old'.disk old'.entropy answer' new'.disk new'.entropy → Settled both.counts answer answer' new new'
kills_by old old' answer answer' new new' both h h' (inl x) (inl x') =
    let random : x'.random ≡ x.random = takes_same trash_size x.random x'.random old.entropy old'.entropy new.entropy new'.entropy both.same.entropy x.takes.size x'.takes.size x.takes.taken x'.takes.taken in
    drawing_settled old old' answer answer' new new' both (x'.is ∙ sym x.is)
    (unread_alike (kill_events old.disk x.random) (kill_events old'.disk x'.random) old.disk old'.disk new.disk new'.disk both.same.disk
    (killed_same old.disk old'.disk x.random x'.random both.same.disk.size random) x.logs x'.logs x.unasked x'.unasked)
    (takes_alike trash_size x.random x'.random old.entropy old'.entropy new.entropy new'.entropy both.same.entropy x.takes.size x'.takes.size x.takes.taken x'.takes.taken)
    h.holding h'.holding h.cabinet h'.cabinet
kills_by old old' answer answer' new new' both h h' (inl x) (inr x') = absurd (omega (arith, x.enough, x'.small, both.same.disk.size))
kills_by old old' answer answer' new new' both h h' (inr x) (inl x') = absurd (omega (arith, x.small, x'.enough, both.same.disk.size))
kills_by old old' answer answer' new new' both h h' (inr x) (inr x') =
    drawing_settled old old' answer answer' new new' both (x'.is ∙ ap (λ (n : ℕ). Err (refusals.TooSmall (512 * n))) both.same.disk.size ∙ sym x.is)
    (still_disk old.disk old'.disk new.disk new'.disk both.same.disk x.disk x'.disk)
    (still_entropy old.entropy old'.entropy new.entropy new'.entropy both.same.entropy x.entropy x'.entropy)
    h.holding h'.holding h.cabinet h'.cabinet

pub destroys_sure : Sure DestroysMetadata
destroys_sure = record {
  goes = λ old answer new h. let later = kills_later old.disk old.entropy answer new.disk new.entropy h.kills in drawing_later old new later.0 later.1 h.cabinet;
  settles = λ old old' answer answer' new new' both memory memory' h h'.
      kills_by old old' answer answer' new new' both h h' (kills_is old.disk old.entropy answer new.disk new.entropy both.quiet.disk both.quiet.entropy h.kills)
      (kills_is old'.disk old'.entropy answer' new'.disk new'.entropy both.quiet'.disk both.quiet'.entropy h'.kills);
}

-- ---- metadata are moved

refused_later : (oldsize : ℕ) (d : DiskState) (e : EntropyState) (refusal : Refusal) (d' : DiskState) (e' : EntropyState) → RefusesSizes oldsize d e refusal d' e' ⊎ RefusesOld oldsize d e refusal d' e' → (d.faults ≤ d'.faults) × (e.faults ≤ e'.faults)
refused_later oldsize d e refusal d' e' (inl h) = (same_disk_later d d' h.disk_unchanged, same_entropy_later e e' h.entropy_unchanged)
refused_later oldsize d e refusal d' e' (inr h) = (h.finds.finds.logs.faults, same_entropy_later e e' h.unchanged)

resizes_later : (oldsize : ℕ) (d : DiskState) (e : EntropyState) (answer : Result (Unit {0}) Refusal) (d' : DiskState) (e' : EntropyState) → Resizes oldsize d e answer d' e' → (d.faults ≤ d'.faults) × (e.faults ≤ e'.faults)
resizes_later oldsize d e (Ok done) d' e' h = (h.logs.faults, h.prepares.takes.taken.later)
resizes_later oldsize d e (Err refusals.DeviceFault) d' e' (inl h) = (h.fails.logs.faults, same_entropy_later e e' h.unchanged)
resizes_later oldsize d e (Err refusals.DeviceFault) d' e' (inr h) = (h.fails.logs.faults, h.prepares.takes.taken.later)
resizes_later oldsize d e (Err refusals.EntropyFault) d' e' h = (h.finds.finds.logs.faults, h.none.later)
resizes_later oldsize d e (Err refusal) d' e' h = refused_later oldsize d e refusal d' e' h

-- the metadata of the old place are moved
record MoveDone (oldsize : ℕ) (c : Content) (d : DiskState) (e : EntropyState) (answer : Result (Unit {0}) Refusal) (d' : DiskState) (e' : EntropyState) : Type 0 where
  is : answer ≡ Ok tt
  sizes : size_refusal d.size oldsize ≡ None
  old : Metadata
  found : metadata_in (present c (old_place oldsize)) ≡ Ok old
  size : old.provsize ≡ oldsize
  random : List ℕ
  takes : TakesTrash random e e'
  logs : Logs (move_events d (old_place oldsize) (grown old d.size) random) d d'
  asked : Counted 1 d.reads d'.reads

-- the sizes are refused, and nothing is done
record MoveRefused (oldsize : ℕ) (d : DiskState) (e : EntropyState) (answer : Result (Unit {0}) Refusal) (d' : DiskState) (e' : EntropyState) : Type 0 where
  refusal : Refusal
  is : answer ≡ Err refusal
  cause : size_refusal d.size oldsize ≡ Some refusal
  disk : d' ≡ d
  entropy : e' ≡ e

-- what the old place has is refused
record OldRefused (oldsize : ℕ) (c : Content) (d : DiskState) (e : EntropyState) (answer : Result (Unit {0}) Refusal) (d' : DiskState) (e' : EntropyState) : Type 0 where
  refusal : Refusal
  is : answer ≡ Err refusal
  sizes : size_refusal d.size oldsize ≡ None
  cause : old_refusal (metadata_in (present c (old_place oldsize))) oldsize ≡ Some refusal
  logs : Logs [] d d'
  asked : Counted 1 d.reads d'.reads
  entropy : e' ≡ e

abbrev Moved : ℕ → Content → DiskState → EntropyState → Result (Unit {0}) Refusal → DiskState → EntropyState → Type 0
Moved oldsize c d e answer d' e' = MoveDone oldsize c d e answer d' e' ⊎ (MoveRefused oldsize d e answer d' e' ⊎ OldRefused oldsize c d e answer d' e')

old_cause : (oldsize : ℕ) (c : Content) (d : DiskState) (found : Result Metadata MetaFault) (d' : DiskState) (refusal : Refusal) → d.content ≡ Some c → Finds (old_place oldsize) d found d' → old_refusal found oldsize ≡ Some refusal
    → old_refusal (metadata_in (present c (old_place oldsize))) oldsize ≡ Some refusal
old_cause oldsize c d found d' refusal told h cause =
    ap (λ (r : Result Metadata MetaFault). old_refusal r oldsize) (ap metadata_in (sym (given_by d c (old_place oldsize) h.bytes told h.told)) ∙ sym h.answered) ∙ cause

refused_is : (oldsize : ℕ) (c : Content) (d : DiskState) (e : EntropyState) (refusal : Refusal) (d' : DiskState) (e' : EntropyState) → d.content ≡ Some c → RefusesSizes oldsize d e refusal d' e' ⊎ RefusesOld oldsize d e refusal d' e'
    → Moved oldsize c d e (Err refusal) d' e'
refused_is oldsize c d e found d' e' told (inl h) = inr (inl (record { refusal = found; is = refl; cause = h.cause; disk = h.disk_unchanged; entropy = h.entropy_unchanged }))
refused_is oldsize c d e found d' e' told (inr h) = inr (inr (record {
  refusal = found;
  is = refl;
  sizes = h.sizes;
  cause = old_cause oldsize c d h.finds.found d' found told h.finds.finds h.finds.cause;
  logs = h.finds.finds.logs;
  asked = h.finds.finds.asked;
  entropy = h.unchanged;
}))

resizes_is : (oldsize : ℕ) (c : Content) (d : DiskState) (e : EntropyState) (answer : Result (Unit {0}) Refusal) (d' : DiskState) (e' : EntropyState) → d.content ≡ Some c → ¬ Rose d.faults d'.faults → ¬ Rose e.faults e'.faults
    → Resizes oldsize d e answer d' e' → Moved oldsize c d e answer d' e'
resizes_is oldsize c d e (Ok done) d' e' told quiet full h = inl (record {
  is = refl;
  sizes = h.prepares.sizes;
  old = h.old;
  found = ap metadata_in (sym (given_by d c (old_place oldsize) h.prepares.bytes told h.prepares.told)) ∙ h.prepares.found;
  size = h.prepares.size;
  random = h.random;
  takes = h.prepares.takes;
  logs = h.logs;
  asked = h.asked;
})
resizes_is oldsize c d e (Err refusals.DeviceFault) d' e' told quiet full (inl h) = absurd (quiet h.fails.rose)
resizes_is oldsize c d e (Err refusals.DeviceFault) d' e' told quiet full (inr h) = absurd (quiet h.fails.rose)
resizes_is oldsize c d e (Err refusals.EntropyFault) d' e' told quiet full h = absurd (full h.none.rose)
resizes_is oldsize c d e (Err refusal) d' e' told quiet full h = refused_is oldsize c d e refusal d' e' told h

-- metadata of the old size aren't refused
unrefused_old : (oldsize : ℕ) (found : Result Metadata MetaFault) (m : Metadata) (refusal : Refusal) → found ≡ Ok m → m.provsize ≡ oldsize → old_refusal found oldsize ≡ Some refusal → ⊥
unrefused_old oldsize found m refusal is size h =
    let P : Result Metadata MetaFault → Type 0 = λ r. old_refusal r oldsize ≡ Some refusal in
    let Q : Bool → Type 0 = λ b. cond b None (Some (refusals.OldSizeMismatch m.provsize oldsize)) ≡ Some refusal in
    let same : (m.provsize == oldsize) ≡ true = eq-eqb m.provsize oldsize size in
    let none : None ≡ Some refusal = subst Q same (subst P is h) in
    cc none

moved_same : (d d' : DiskState) (place : ℕ) (m m' : Metadata) (random random' : List ℕ) → d'.size ≡ d.size → m' ≡ m → random' ≡ random
    → move_events d' place (grown m' d'.size) random' ≡ move_events d place (grown m d.size) random
moved_same d d' place m m' random random' size is was = rw (size, is, was) refl

moves_by : (oldsize : ℕ) (old old' : Reach) (answer answer' : Result (Unit {0}) Refusal) (new new' : Reach) (both : Both old old' new new') → MovesMetadata oldsize old answer new → MovesMetadata oldsize old' answer' new'
    → Moved oldsize both.same.disk.content old.disk old.entropy answer new.disk new.entropy → Moved oldsize both.same.disk.content old'.disk old'.entropy answer' new'.disk new'.entropy → Settled both.counts answer answer' new new'
moves_by oldsize old old' answer answer' new new' both h h' (inl x) (inl x') =
    let random : x'.random ≡ x.random = takes_same trash_size x.random x'.random old.entropy old'.entropy new.entropy new'.entropy both.same.entropy x.takes.size x'.takes.size x.takes.taken x'.takes.taken in
    let given : Ok x'.old ≡ Ok x.old = sym x'.found ∙ x.found in
    let m : x'.old ≡ x.old = cc given in
    let events = move_events old.disk (old_place oldsize) (grown x.old old.disk.size) x.random in
    let P : List Event → Type 0 = λ es. Logs es old'.disk new'.disk in
    drawing_settled old old' answer answer' new new' both (x'.is ∙ sym x.is)
    (logs_alike events old.disk old'.disk new.disk new'.disk both.same.disk x.logs
    (subst P (moved_same old.disk old'.disk (old_place oldsize) x.old x'.old x.random x'.random both.same.disk.size m random) x'.logs)
    (counted_same 1 both.same.disk.reads x.asked x'.asked))
    (takes_alike trash_size x.random x'.random old.entropy old'.entropy new.entropy new'.entropy both.same.entropy x.takes.size x'.takes.size x.takes.taken x'.takes.taken)
    h.holding h'.holding h.cabinet h'.cabinet
moves_by oldsize old old' answer answer' new new' both h h' (inl x) (inr (inl x')) = absurd (unrefused _ _ x'.refusal x.sizes x'.cause (ap (λ (n : ℕ). size_refusal n oldsize) both.same.disk.size))
moves_by oldsize old old' answer answer' new new' both h h' (inl x) (inr (inr x')) = absurd (unrefused_old oldsize _ x.old x'.refusal x.found x.size x'.cause)
moves_by oldsize old old' answer answer' new new' both h h' (inr (inl x)) (inl x') = absurd (unrefused _ _ x.refusal x'.sizes x.cause (ap (λ (n : ℕ). size_refusal n oldsize) (sym both.same.disk.size)))
moves_by oldsize old old' answer answer' new new' both h h' (inr (inl x)) (inr (inl x')) =
    let refusal : x'.refusal ≡ x.refusal = refusal_same _ _ x.refusal x'.refusal x.cause x'.cause (ap (λ (n : ℕ). size_refusal n oldsize) both.same.disk.size) in
    drawing_settled old old' answer answer' new new' both (x'.is ∙ ap (λ (r : Refusal). Err r) refusal ∙ sym x.is)
    (still_disk old.disk old'.disk new.disk new'.disk both.same.disk x.disk x'.disk)
    (still_entropy old.entropy old'.entropy new.entropy new'.entropy both.same.entropy x.entropy x'.entropy)
    h.holding h'.holding h.cabinet h'.cabinet
moves_by oldsize old old' answer answer' new new' both h h' (inr (inl x)) (inr (inr x')) = absurd (unrefused _ _ x.refusal x'.sizes x.cause (ap (λ (n : ℕ). size_refusal n oldsize) (sym both.same.disk.size)))
moves_by oldsize old old' answer answer' new new' both h h' (inr (inr x)) (inl x') = absurd (unrefused_old oldsize _ x'.old x.refusal x'.found x'.size x.cause)
moves_by oldsize old old' answer answer' new new' both h h' (inr (inr x)) (inr (inl x')) = absurd (unrefused _ _ x'.refusal x.sizes x'.cause (ap (λ (n : ℕ). size_refusal n oldsize) both.same.disk.size))
moves_by oldsize old old' answer answer' new new' both h h' (inr (inr x)) (inr (inr x')) =
    let refusal : x'.refusal ≡ x.refusal = refusal_same _ _ x.refusal x'.refusal x.cause x'.cause refl in
    drawing_settled old old' answer answer' new new' both (x'.is ∙ ap (λ (r : Refusal). Err r) refusal ∙ sym x.is)
    (logs_alike [] old.disk old'.disk new.disk new'.disk both.same.disk x.logs x'.logs (counted_same 1 both.same.disk.reads x.asked x'.asked))
    (still_entropy old.entropy old'.entropy new.entropy new'.entropy both.same.entropy x.entropy x'.entropy)
    h.holding h'.holding h.cabinet h'.cabinet

pub moves_sure : (oldsize : ℕ) → Sure (MovesMetadata oldsize)
moves_sure oldsize = record {
  goes = λ old answer new h. let later = resizes_later oldsize old.disk old.entropy answer new.disk new.entropy h.resizes in drawing_later old new later.0 later.1 h.cabinet;
  settles = λ old old' answer answer' new new' both memory memory' h h'.
      moves_by oldsize old old' answer answer' new new' both h h'
      (resizes_is oldsize both.same.disk.content old.disk old.entropy answer new.disk new.entropy both.same.disk.told both.quiet.disk both.quiet.entropy h.resizes)
      (resizes_is oldsize both.same.disk.content old'.disk old'.entropy answer' new'.disk new'.entropy both.same.disk.told' both.quiet'.disk both.quiet'.entropy h'.resizes);
}

-- ---- units are swept

part_later : (s : Sweep) (d : DiskState) (answer : Result SweptPart Refusal) (e : DiskState) → PartAnswer s d answer e → d.faults ≤ e.faults
part_later s d (Ok part) e h = h.1.logs.faults
part_later s d (Err refusals.DeviceFault) e h = h.fails.fails.logs.faults
part_later s d (Err refusal) e h = absurd h

part_by : Sweep → Content → SweptPart
part_by s c = record { offsets = failing_units s.keying (s.start * units s.keying) (standing c (s.start * units s.keying) (sectors_swept s * units s.keying)); next = s.start + sectors_swept s }

record SweepDone (s : Sweep) (c : Content) (d : DiskState) (answer : Result SweptPart Refusal) (e : DiskState) : Type 0 where
  is : answer ≡ Ok (part_by s c)
  logs : Logs [] d e
  asked : Counted (sectors_swept s * units s.keying) d.reads e.reads

stand_by : (told : Option Content) (c : Content) (n count : ℕ) (sectors : List (List ℕ)) → told ≡ Some c → StandFrom told n count sectors → sectors ≡ standing c n count
stand_by told c n count sectors is h = let P : Option Content → Type 0 = λ o. StandFrom o n count sectors in subst P is h

part_is : (part : SweptPart) (offsets : List ℕ) (next : ℕ) → part.offsets ≡ offsets → part.next ≡ next → part ≡ record { offsets = offsets; next = next }
part_is part offsets next is was = rw (sym is, sym was) refl

sweeps_is : (s : Sweep) (c : Content) (d : DiskState) (answer : Result SweptPart Refusal) (e : DiskState) → d.content ≡ Some c → ¬ Rose d.faults e.faults → PartAnswer s d answer e → SweepDone s c d answer e
unfolding part_by
sweeps_is s c d (Ok part) e told quiet h =
    let n = s.start * units s.keying in
    let count = sectors_swept s * units s.keying in
    let listed : part.offsets ≡ failing_units s.keying n (standing c n count) = h.1.listed ∙ ap (failing_units s.keying n) (stand_by d.content c n count h.1.sectors told h.1.stand) in
    record { is = ap (λ (p : SweptPart). Ok p) (part_is part _ _ listed h.0); logs = h.1.logs; asked = h.1.asked }
sweeps_is s c d (Err refusals.DeviceFault) e told quiet h = absurd (quiet h.fails.fails.rose)
sweeps_is s c d (Err refusal) e told quiet h = absurd h

part_alike : (s : Sweep) (d d' : DiskState) (answer answer' : Result SweptPart Refusal) (e e' : DiskState) → AlikeDisk d d' → ¬ Rose d.faults e.faults → ¬ Rose d'.faults e'.faults → PartAnswer s d answer e → PartAnswer s d' answer' e'
    → (answer' ≡ answer) × AlikeDisk e e'
part_alike s d d' answer answer' e e' same quiet quiet' h h' =
    let x = sweeps_is s same.content d answer e same.told quiet h in
    let x' = sweeps_is s same.content d' answer' e' same.told' quiet' h' in
    (x'.is ∙ sym x.is, logs_alike [] d d' e e' same x.logs x'.logs (counted_same (sectors_swept s * units s.keying) same.reads x.asked x'.asked))

pub sweeps_sure : (a : Attachment) (place count : ℕ) → Sure (Sweeps a place count)
sweeps_sure a place count =
    reads_sure (λ d answer e h. part_later (sweep_at a.keying (media a.keying d) place count) d answer e h)
    (λ d d' answer answer' e e' same quiet quiet' h h'.
    let P : ℕ → Type 0 = λ n. PartAnswer (sweep_at a.keying (media_sectors a.keying.auth a.keying.sectorsize (512 * n)) place count) d' answer' e' in
    part_alike (sweep_at a.keying (media a.keying d) place count) d d' answer answer' e e' same quiet quiet' h (subst P same.size h'))
