-- That metadata are never lost while they move.
use Rattle.std.proofs.Common.{◌≡◌, ◌≢◌, ℕ, zero, suc, ◌+◌, ◌*◌, ◌-◌, ◌<◌, ◌≤◌, ◌^◌, ◌==◌, List, [], ◌∷◌, ◌++◌, length, take, refl, ap, sym, subst, ◌∙◌, arith, cond, true, false, Bool, All, Ok, Err, Option, None, Some, inl, inr, Contains, ne_eqb}
use Rattle.std.proofs.lemmas.Bool.{eq-eqb}
use Rattle.std.proofs.lemmas.Bool.Decides.{nat_tests}
use Rattle.std.proofs.Math.Seq.{take-length}
use Rattle.std.proofs.lemmas.List.Elements.{All-nil, All-cons, All-head, All-tail, All-take, All-contains}
use Rattle.std.specs.Prelude.{nat_le, nat_lt}
use Rattle.std.specs.Str.{bytes_eq}
use Rattle.block_traits.specs.Content.{Content, IsContentOf, kept_after, last_of, logged, present, kept_values, with_events}
use Rattle.block_traits.specs.Disk.{DiskState, FailsIn, FitsSize, Gives, GivesFrom, Logs, last_sector}
use Rattle.block_traits.specs.Moments.{AtEachMoment, HoldsOldOr, KeepsAlone, WaitsForFlush}
use Rattle.block_traits.specs.Overwriting.{overwrite_events}
use Rattle.block_traits.specs.Causes.{Counted}
use Rattle.block_traits.specs.Streams.{EntropyState}
use Rattle.block_traits.specs.declared.disk.Event.{Event}
use Rattle.block_traits.specs.declared.disk.Event.TheVariants.{Write, Flush}
use Rattle.block_traits.proofs.Contents.{last_of-push, last_of-kept_values}
use Rattle.block_traits.proofs.Images.{held_at_end, held_when_settled}
use Rattle.block_traits.proofs.Keeping.{AllHold-one, AllHold-kept_after, AtEachMoment-part, HoldsOldOr-more, WaitsForFlush-more, WritesHere, flushed-more, kept_values-more}
use Rattle.block_traits.proofs.Logs.{FailsIn-then, Logs-then}
use Rattle.block_traits.proofs.Overwritten.{WritesHere-overwrite}
use Rattle.eli_base.specs.declared.refusals.Refusal.{Refusal}
use Rattle.eli_base.specs.declared.refusals.Refusal.TheVariants as refusals
use Rattle.eli_metadata.specs.Format.{HasFieldsInRange, IsWhole, encoded, fields, is_served, magic, metadata_in, number_at}
use Rattle.eli_metadata.specs.Place.{IsSectorOf}
use Rattle.eli_metadata.specs.declared.metadata.MetaFault.{MetaFault}
use Rattle.eli_metadata.specs.declared.metadata.Metadata.{Metadata}
use Rattle.eli_metadata.proofs.Laws.{flags-fields, metadata_in-encoded, version-fields}
use Rattle.resize_kill.specs.Resizing.{FindsOldMetadata, HoldsOneOf, KeepsOneOf, Moves, MovesPart, Prepares, grown, move_events, old_place, size_refusal}
use Rattle.resize_kill.specs.Trash.{TakesTrash, trash_sectors}

-- the events of a move
abbrev moving : ℕ → List ℕ → ℕ → List (List ℕ) → List Event
moving last new place values = Flush ∷ Write last new ∷ Flush ∷ overwrite_events place values

no_flush : Contains {X = Event} [] Flush → ⊥
no_flush found = All-contains (λ (event : Event). ⊥) [] Flush (All-nil (λ (event : Event). ⊥)) found

-- a write to another sector doesn't change what this one may hold
written_elsewhere : (m n : ℕ) (values : List (List ℕ)) (value : List ℕ) → m ≢ n → cond (m == n) (values ++ value ∷ []) values ≡ values
written_elsewhere m n values value other = ap (λ (b : Bool). cond b (values ++ value ∷ []) values) (ne_eqb m n other)

-- until the new sector is flushed, the old place holds one value
settled_1 : (c : Content) (place : ℕ) → kept_values (with_events (Flush ∷ []) c) place ≡ present c place ∷ []
settled_1 c place = kept_values-more c (Flush ∷ []) place ∙ ap (λ (value : List ℕ). value ∷ []) (last_of-kept_values c place)

settled_2 : (c : Content) (last place : ℕ) (new : List ℕ) → last ≢ place → kept_values (with_events (Flush ∷ Write last new ∷ []) c) place ≡ present c place ∷ []
settled_2 c last place new other =
    kept_values-more c (Flush ∷ Write last new ∷ []) place ∙ written_elsewhere last place (last_of (kept_values c place) ∷ []) new other ∙ ap (λ (value : List ℕ). value ∷ []) (last_of-kept_values c place)

-- once the new sector is flushed, the last sector holds this value alone
renewed : (c : Content) (last place : ℕ) (new : List ℕ) (values : List (List ℕ)) (k : ℕ) → last ≢ place
    → All (λ (value : List ℕ). value ≡ new) (kept_values (with_events (Flush ∷ Write last new ∷ Flush ∷ take k (overwrite_events place values)) c) last)
renewed c last place new values k other =
    let P : List ℕ → Type 0 = λ value. value ≡ new in
    let rest : List Event = take k (overwrite_events place values) in
    let first : List (List ℕ) = last_of (kept_values c last) ∷ [] in
    let here : (last == last) ≡ true = eq-eqb last last refl in
    let is : last_of (cond (last == last) (first ++ new ∷ []) first) ≡ new =
    ap (λ (b : Bool). last_of (cond b (first ++ new ∷ []) first)) here ∙ last_of-push first new in
    let elsewhere : All (WritesHere P last) (overwrite_events place values) = WritesHere-overwrite P last place values (λ same. absurd (other (sym same))) in
    rw (kept_values-more c (Flush ∷ Write last new ∷ Flush ∷ rest) last)
    (AllHold-kept_after rest P last (last_of (cond (last == last) (first ++ new ∷ []) first) ∷ []) (All-take (WritesHere P last) k (overwrite_events place values) elsewhere)
    (AllHold-one P _ is)).all

HoldsOneOf-more : (last : ℕ) (new : Metadata) (place : ℕ) (old : Metadata) (values : List (List ℕ)) (c : Content) (k : ℕ) → last + 1 ≡ length c.base → place < last
    → metadata_in (present c place) ≡ Ok old → HoldsOneOf last new place old c (with_events (take k (moving last (encoded new) place values)) c)
HoldsOneOf-more last new place old values c zero end below was flushed image unaltered =
    absurd (no_flush (flushed-more c [] flushed))
HoldsOneOf-more last new place old values c (suc zero) end below was flushed image unaltered =
    let now = with_events (Flush ∷ []) c in
    inr (ap metadata_in (held_when_settled now image place (present c place) (omega arith) (settled_1 c place) unaltered) ∙ was)
HoldsOneOf-more last new place old values c (suc (suc zero)) end below was flushed image unaltered =
    let now = with_events (Flush ∷ Write last (encoded new) ∷ []) c in
    let other : last ≢ place = omega arith in
    inr (ap metadata_in (held_when_settled now image place (present c place) (omega arith) (settled_2 c last place (encoded new) other) unaltered) ∙ was)
HoldsOneOf-more last new place old values c (suc (suc (suc k))) end below was flushed image unaltered =
    let now = with_events (Flush ∷ Write last (encoded new) ∷ Flush ∷ take k (overwrite_events place values)) c in
    let other : last ≢ place = omega arith in
    inl (held_at_end (λ (value : List ℕ). value ≡ encoded new) now image last end (renewed c last place (encoded new) values k other) unaltered)

at_least : (n : ℕ) → nat_lt n 2 ≡ false → 2 ≤ n
at_least n e = grind (arith, nat_tests)

is_below : (bound n : ℕ) → nat_le bound n ≡ false → n < bound
is_below bound n e = grind (arith, nat_tests)

-- if the sizes aren't refused, there are two device sectors or more, and more bytes than the old size
sizes_by : (a b : Bool) (x y : Refusal) → cond a (Some x) (cond b (Some y) None) ≡ None → (a ≡ false) × (b ≡ false)
sizes_by false false x y e = (refl, refl)
sizes_by false true x y e = absurd (cc)
sizes_by true b x y e = absurd (cc)

-- if the image has two device sectors and is larger than the old size, the old place comes before the last sector
below_end : (sectors oldsize : ℕ) → 2 ≤ sectors → oldsize < 512 * sectors → old_place oldsize + 1 < sectors
below_end sectors oldsize enough small = omega arith

old_place_below : (sectors oldsize : ℕ) → size_refusal sectors oldsize ≡ None → old_place oldsize + 1 < sectors
old_place_below sectors oldsize served =
    let passed = sizes_by (nat_lt sectors 2) (nat_le (512 * sectors) oldsize) (refusals.TooSmall (512 * sectors)) (refusals.NotGrown (512 * sectors) oldsize) served in
    below_end sectors oldsize (at_least sectors passed.0) (is_below (512 * sectors) oldsize passed.1)

-- nothing but the new sector is written to the new place
only_new : (last place : ℕ) (new : List ℕ) (values : List (List ℕ)) → place < last → All (WritesHere (λ value. value ≡ new) last) (moving last new place values)
only_new last place new values below =
    let P : List ℕ → Type 0 = λ value. value ≡ new in
    let Q = WritesHere P last in
    let elsewhere : All Q (overwrite_events place values) = WritesHere-overwrite P last place values (λ same. absurd (omega arith)) in
    All-cons Q Flush (Write last new ∷ Flush ∷ overwrite_events place values) tt
    (All-cons Q (Write last new) (Flush ∷ overwrite_events place values) (λ here. refl) (All-cons Q Flush (overwrite_events place values) tt elsewhere))

-- what was read from a disk that reports its content is what stands there, and its last sector is that of the content
record IsTold (disk : DiskState) (place : ℕ) (bytes : List ℕ) (c : Content) : Type 0 where
  stands : bytes ≡ present c place
  end : last_sector disk + 1 ≡ length c.base

told : (disk : DiskState) (place : ℕ) (bytes : List ℕ) (c : Content) → Gives disk place bytes → 1 ≤ disk.size → disk.content ≡ Some c → IsTold disk place bytes c
told disk place bytes c gives some is =
    let stands : bytes ≡ present c place = subst (λ (o : Option Content). GivesFrom o place bytes) is gives in
    let fits : IsContentOf disk.size c = subst (λ (o : Option Content). FitsSize disk.size o) is disk.well_formed.fits in
    record { stands = stands; end = omega (arith, fits.sectors) }

keeps-waits : (disk disk' : DiskState) (events : List Event) (k : ℕ) → disk'.content ≡ logged (take k (Flush ∷ events)) disk.content → AtEachMoment WaitsForFlush disk.content disk'.content
keeps-waits disk disk' events k e = AtEachMoment-part WaitsForFlush (Flush ∷ events) k disk.content disk'.content (λ c j is. WaitsForFlush-more events c j) e

KeepsOneOf-part : (disk disk' : DiskState) (old : Metadata) (oldsize : ℕ) (bytes random : List ℕ) (k : ℕ) → size_refusal disk.size oldsize ≡ None → Gives disk (old_place oldsize) bytes → metadata_in bytes ≡ Ok old
    → disk'.content ≡ logged (take k (move_events disk (old_place oldsize) (grown old disk.size) random)) disk.content → KeepsOneOf (grown old disk.size) (old_place oldsize) old disk disk'
KeepsOneOf-part disk disk' old oldsize bytes random k served gives found e =
    let new = grown old disk.size in
    let place = old_place oldsize in
    let last = last_sector disk in
    let values = trash_sectors random in
    let inside : place + 1 < disk.size = old_place_below disk.size oldsize served in
    let below : place < last = omega arith in
    record {
      waits = keeps-waits disk disk' (Write last (encoded new) ∷ Flush ∷ overwrite_events place values) k e;
      last = AtEachMoment-part (HoldsOldOr (IsSectorOf new) last) (moving last (encoded new) place values) k disk.content disk'.content
          (λ c j is. HoldsOldOr-more (IsSectorOf new) last (moving last (encoded new) place values) (only_new last place (encoded new) values below) c j) e;
      one = AtEachMoment-part (HoldsOneOf last new place old) (moving last (encoded new) place values) k disk.content disk'.content
          (λ c j is. let t = told disk place bytes c gives (omega arith) is in HoldsOneOf-more last new place old values c j t.end below (ap metadata_in (sym t.stands) ∙ found)) e;
    }

-- a read leaves the size of the disk, so the events of a move stay the same
events_before : (place : ℕ) (new : Metadata) (random : List ℕ) (disk middle : DiskState) → middle.size ≡ disk.size → move_events middle place new random ≡ move_events disk place new random
events_before place new random disk middle same =
    ap (λ (n : ℕ). Flush ∷ Write (n - 1) (encoded new) ∷ Flush ∷ overwrite_events place (trash_sectors random)) same

prepared : (oldsize : ℕ) (disk middle : DiskState) (entropy entropy' : EntropyState) (old : Metadata) (random : List ℕ) → size_refusal disk.size oldsize ≡ None → FindsOldMetadata (old_place oldsize) oldsize disk old middle
    → TakesTrash random entropy entropy' → IsWhole old → Prepares oldsize disk entropy old random entropy'
prepared oldsize disk middle entropy entropy' old random sizes found takes fits = record {
  sizes = sizes;
  bytes = found.finds.bytes;
  whole = found.finds.whole;
  told = found.finds.told;
  found = sym found.finds.answered;
  size = found.size;
  takes = takes;
  fits = fits;
}

-- what the parts of a move did is what the move did
pub moves : (oldsize : ℕ) (disk middle disk' : DiskState) (entropy entropy' : EntropyState) (old : Metadata) (random : List ℕ) → size_refusal disk.size oldsize ≡ None
    → FindsOldMetadata (old_place oldsize) oldsize disk old middle → TakesTrash random entropy entropy' → IsWhole old
    → Logs (move_events middle (old_place oldsize) (grown old disk.size) random) middle disk' → disk'.reads ≡ middle.reads → Moves oldsize disk entropy disk' entropy'
moves oldsize disk middle disk' entropy entropy' old random sizes found takes fits logs unasked =
    let P : List Event → Type 0 = λ es. Logs es middle disk' in
    record {
      old = old;
      random = random;
      prepares = prepared oldsize disk middle entropy entropy' old random sizes found takes fits;
      logs = Logs-then [] (move_events disk (old_place oldsize) (grown old disk.size) random) found.finds.logs
          (subst P (events_before (old_place oldsize) (grown old disk.size) random disk middle found.finds.logs.size) logs);
      asked = subst (λ (n : ℕ). Counted 1 disk.reads n) (sym unasked) found.finds.asked;
    }

pub moves_part : (oldsize : ℕ) (disk middle disk' : DiskState) (entropy entropy' : EntropyState) (old : Metadata) (random : List ℕ) → size_refusal disk.size oldsize ≡ None
    → FindsOldMetadata (old_place oldsize) oldsize disk old middle → TakesTrash random entropy entropy' → IsWhole old
    → FailsIn (move_events middle (old_place oldsize) (grown old disk.size) random) middle disk' → disk'.reads ≡ middle.reads → MovesPart oldsize disk entropy disk' entropy'
moves_part oldsize disk middle disk' entropy entropy' old random sizes found takes fits fails unasked =
    let P : List Event → Type 0 = λ es. FailsIn es middle disk' in
    record {
      old = old;
      random = random;
      prepares = prepared oldsize disk middle entropy entropy' old random sizes found takes fits;
      fails = FailsIn-then [] (move_events disk (old_place oldsize) (grown old disk.size) random) found.finds.logs
          (subst P (events_before (old_place oldsize) (grown old disk.size) random disk middle found.finds.logs.size) fails);
      asked = subst (λ (n : ℕ). Counted 1 disk.reads n) (sym unasked) found.finds.asked;
    }

-- ---- what a move leaves

pub KeepsOneOf-Moves : (oldsize : ℕ) (disk disk' : DiskState) (entropy entropy' : EntropyState) (moves : Moves oldsize disk entropy disk' entropy')
    → KeepsOneOf (grown moves.old disk.size) (old_place oldsize) moves.old disk disk'
KeepsOneOf-Moves oldsize disk disk' entropy entropy' moves =
    let events = move_events disk (old_place oldsize) (grown moves.old disk.size) moves.random in
    KeepsOneOf-part disk disk' moves.old oldsize moves.prepares.bytes moves.random (length events) moves.prepares.sizes moves.prepares.told moves.prepares.found
    (moves.logs.content ∙ ap (λ (es : List Event). logged es disk.content) (sym (take-length events)))

pub KeepsOneOf-MovesPart : (oldsize : ℕ) (disk disk' : DiskState) (entropy entropy' : EntropyState) (moves : MovesPart oldsize disk entropy disk' entropy')
    → KeepsOneOf (grown moves.old disk.size) (old_place oldsize) moves.old disk disk'
KeepsOneOf-MovesPart oldsize disk disk' entropy entropy' moves =
    KeepsOneOf-part disk disk' moves.old oldsize moves.prepares.bytes moves.random moves.fails.count moves.prepares.sizes moves.prepares.told moves.prepares.found moves.fails.logs.content

-- the flush settles the value of the last sector, and the passes after it write to another sector
alone_after : (events : List Event) (value : List ℕ) (last : ℕ) → All (WritesHere (λ other. ⊥) last) events → kept_after events last (value ∷ []) ≡ value ∷ []
alone_after [] value last all = refl
alone_after (Write m new ∷ events) value last all =
    let P = WritesHere (λ other. ⊥) last in
    let other : m ≢ last = All-head P (Write m new) events all in
    ap (kept_after events last) (written_elsewhere m last (value ∷ []) new other) ∙ alone_after events value last (All-tail P (Write m new) events all)
alone_after (Flush ∷ events) value last all = alone_after events value last (All-tail (WritesHere (λ other. ⊥) last) Flush events all)

alone_moved : (c : Content) (last place : ℕ) (new : List ℕ) (values : List (List ℕ)) → last ≢ place → kept_values (with_events (moving last new place values) c) last ≡ new ∷ []
alone_moved c last place new values other =
    let first : List (List ℕ) = last_of (kept_values c last) ∷ [] in
    let here : (last == last) ≡ true = eq-eqb last last refl in
    let is : last_of (cond (last == last) (first ++ new ∷ []) first) ≡ new =
    ap (λ (b : Bool). last_of (cond b (first ++ new ∷ []) first)) here ∙ last_of-push first new in
    let behind : All (WritesHere (λ other. ⊥) last) (overwrite_events place values) = WritesHere-overwrite (λ other. ⊥) last place values (λ same. absurd (other (sym same))) in
    kept_values-more c (moving last new place values) last
    ∙ ap (λ (value : List ℕ). kept_after (overwrite_events place values) last (value ∷ [])) is
    ∙ alone_after (overwrite_events place values) new last behind

alone_told : (told after : Option Content) (last place : ℕ) (new : List ℕ) (values : List (List ℕ)) → last ≢ place → after ≡ logged (moving last new place values) told → KeepsAlone new last after
alone_told None after last place new values other e = rw e tt
alone_told (Some c) after last place new values other e = rw e (alone_moved c last place new values other)

pub KeepsAlone-Moves : (oldsize : ℕ) (disk disk' : DiskState) (entropy entropy' : EntropyState) (moves : Moves oldsize disk entropy disk' entropy')
    → KeepsAlone (encoded (grown moves.old disk.size)) (last_sector disk) disk'.content
KeepsAlone-Moves oldsize disk disk' entropy entropy' moves =
    let inside : old_place oldsize + 1 < disk.size = old_place_below disk.size oldsize moves.prepares.sizes in
    let other : last_sector disk ≢ old_place oldsize = omega arith in
    alone_told disk.content disk'.content (last_sector disk) (old_place oldsize) (encoded (grown moves.old disk.size)) (trash_sectors moves.random) other moves.logs.content

-- ---- the metadata that are written are read back

-- the second of three tests holds
second_holds : (a b c : Bool) (value other : Metadata) (x y z : MetaFault) → cond a (cond b (cond c (Ok value) (Err z)) (Err y)) (Err x) ≡ Ok other → (b ≡ true) × (value ≡ other)
second_holds true true true value other x y z e = (refl, cc e)
second_holds true true false value other x y z e = absurd (cc e)
second_holds true false c value other x y z e = absurd (cc e)
second_holds false b c value other x y z e = absurd (cc e)

is_served-read : (bytes : List ℕ) (m : Metadata) → metadata_in bytes ≡ Ok m → is_served m.version m.flags ≡ true
unfolding metadata_in
is_served-read bytes m e =
    let both = second_holds (bytes_eq (take 16 bytes) magic) (is_served (number_at bytes 16 4) (number_at bytes 20 4)) _ (fields bytes) m _ _ _ e in
    let version : is_served (fields bytes).version (fields bytes).flags ≡ true = rw (← version-fields bytes, ← flags-fields bytes) both.0 in
    subst (λ (x : Metadata). is_served x.version x.flags ≡ true) both.1 version

grown_fits : (old : Metadata) (sectors : ℕ) → HasFieldsInRange old → sectors < 2 ^ 44 → HasFieldsInRange (grown old sectors)
grown_fits old sectors range small = record {
  version = range.version;
  flags = range.flags;
  ealgo = range.ealgo;
  keylen = range.keylen;
  aalgo = range.aalgo;
  provsize = omega arith;
  sectorsize = range.sectorsize;
  iterations = range.iterations;
}

pub read_again : (oldsize : ℕ) (disk : DiskState) (entropy entropy' : EntropyState) (old : Metadata) (random : List ℕ) → Prepares oldsize disk entropy old random entropy'
    → metadata_in (encoded (grown old disk.size)) ≡ Ok (grown old disk.size)
read_again oldsize disk entropy entropy' old random prepares =
    metadata_in-encoded (grown old disk.size) (grown_fits old disk.size prepares.fits.range disk.well_formed.bound) prepares.fits.salt prepares.fits.mkeys (is_served-read prepares.bytes old prepares.found)
