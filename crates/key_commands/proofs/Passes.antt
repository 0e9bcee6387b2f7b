-- The passes that overwrite slots, and what they leave.
use Rattle.std.proofs.Common.{◌≡◌, ◌≢◌, ◌==◌, ℕ, zero, suc, ◌+◌, ◌*◌, ◌<◌, refl, sym, ap, subst, ◌∙◌, arith, true, false, not, nat_lt, cond, bit_and, Bool, IsTrue, Option, Some, None, Ok, All, List, length, take, replicate, length-append, length-drop}
use Rattle.std.proofs.lemmas.List.{length-take-le, length-replicate}
use Rattle.std.proofs.lemmas.List.Elements.{All-map, All-weaker}
use Rattle.std.proofs.lemmas.Bool.Decides.{nat_tests}
use Rattle.std.proofs.lemmas.Nat.{and_assoc, and_comm}
use Rattle.block_traits.specs.Content.{last_of}
use Rattle.block_traits.specs.Disk.{DiskState, Logs, FailsIn, last_sector}
use Rattle.block_traits.specs.Moments.{KeepsAlone}
use Rattle.block_traits.specs.Overwriting.{passes_of, zeros}
use Rattle.block_traits.proofs.Overwritten.{KeepsAlone-overwrite, KeepsOldOr-overwrite, KeepsOldOr-overwrite_part, flushed-overwrite, flushed-overwrite_part, length-passes_of}
use Rattle.block_traits.specs.Streams.{EntropyState}
use Rattle.eli_base.specs.declared.refusals.Refusal.{Refusal}
use Rattle.eli_base.specs.declared.refusals.Refusal.TheVariants.{KeyNumberOutOfRange}
use Rattle.eli_metadata.specs.Checks.{is_set}
use Rattle.eli_metadata.specs.Format.{HasFieldsInRange, IsWhole, encoded, is_served, metadata_in}
use Rattle.eli_metadata.specs.declared.metadata.Metadata.{Metadata}
use Rattle.eli_metadata.proofs.Laws.{metadata_in-encoded}
use Rattle.key_slots.specs.Slots.{SameSlot, slot_bytes, with_slot_bytes, without_slot}
use Rattle.key_slots.proofs.Changes.{bytes_same, bytes_other, clear_other}
use Rattle.key_commands.specs.DeleteKeys.{Deletes, DeletesPart, Deletion, HasOtherKeys, Overwrites}
use Rattle.key_commands.specs.NewKey.{KeepsSlot}
use Rattle.key_commands.specs.Overwriting.{HasNoKey, IsThere, Names, deletion_refusal, filler_size, named_size, pass_events, pass_sectors, sector_without, without_keys}
use Rattle.key_commands.specs.declared.overwriting.Which.{Which}
use Rattle.key_commands.specs.declared.overwriting.Which.TheVariants as slots
use Rattle.key_commands.proofs.Changing.{KeepsSlot-same}

-- ---- metadata without keys

-- a bit that the mask lacks is clear
none_left : (keys mask bit : ℕ) → bit_and mask bit ≡ 0 → not (bit_and (bit_and keys mask) bit == 0) ≡ false
none_left keys mask bit e = ap (λ (k : ℕ). not (k == 0)) (and_assoc bit keys mask ∙ ap (bit_and keys) e ∙ and_comm keys 0)

pub is_set-without : (m : Metadata) (which : Which) (bytes : List ℕ) (s : ℕ) → IsThere which → Names which s → is_set (without_keys m which bytes) s ≡ false
is_set-without m slots.All bytes zero there named = none_left m.keys 252 1 refl
is_set-without m slots.All bytes (suc zero) there named = none_left m.keys 252 2 refl
is_set-without m slots.All bytes (suc (suc s)) there named = absurd (omega arith)
is_set-without m (slots.One zero) bytes s there named = rw named (none_left m.keys 254 1 refl)
is_set-without m (slots.One (suc zero)) bytes s there named = rw named (none_left m.keys 253 2 refl)
is_set-without m (slots.One (suc (suc slot))) bytes s there named = absurd (omega arith)

length-with_slot_bytes : (mkeys bytes : List ℕ) (slot : ℕ) → slot < 2 → length mkeys ≡ 384 → length bytes ≡ 192 → length (with_slot_bytes mkeys slot bytes) ≡ 384
length-with_slot_bytes mkeys bytes slot lt long long' =
    let front : length (take (192 * slot) mkeys) ≡ 192 * slot = length-take-le (192 * slot) mkeys (omega arith) in
    let back = length-drop (192 * slot + 192) mkeys in
    simp length-append (omega arith)

-- other slots leave the other fields in their ranges
HasFieldsInRange-slots : (m : Metadata) (keys : ℕ) (mkeys : List ℕ) → HasFieldsInRange m → HasFieldsInRange (record m { keys = keys; mkeys = mkeys })
HasFieldsInRange-slots m keys mkeys range = record {
  version = range.version;
  flags = range.flags;
  ealgo = range.ealgo;
  keylen = range.keylen;
  aalgo = range.aalgo;
  provsize = range.provsize;
  sectorsize = range.sectorsize;
  iterations = range.iterations;
}

IsWhole-without : (m : Metadata) (which : Which) (bytes : List ℕ) → IsThere which → IsWhole m → length bytes ≡ named_size which → IsWhole (without_keys m which bytes)
IsWhole-without m slots.All bytes there whole size = record { range = HasFieldsInRange-slots m _ _ whole.range; salt = whole.salt; mkeys = size }
IsWhole-without m (slots.One slot) bytes there whole size =
    record { range = HasFieldsInRange-slots m _ _ whole.range; salt = whole.salt; mkeys = length-with_slot_bytes m.mkeys bytes slot there whole.mkeys size }

is_served-without : (m : Metadata) (which : Which) (bytes : List ℕ) → is_served (without_keys m which bytes).version (without_keys m which bytes).flags ≡ is_served m.version m.flags
is_served-without m slots.All bytes = refl
is_served-without m (slots.One slot) bytes = refl

read-without : (m : Metadata) (which : Which) (bytes : List ℕ) → IsThere which → IsWhole m → length bytes ≡ named_size which
    → IsTrue (is_served m.version m.flags) → metadata_in (encoded (without_keys m which bytes)) ≡ Ok (without_keys m which bytes)
read-without m which bytes there whole size served =
    let new : IsWhole (without_keys m which bytes) = IsWhole-without m which bytes there whole size in
    metadata_in-encoded (without_keys m which bytes) new.range new.salt new.mkeys (is_served-without m which bytes ∙ served)

HasNoKey-without : (m : Metadata) (which : Which) (bytes : List ℕ) → IsThere which → IsWhole m → length bytes ≡ named_size which → HasNoKey m which (sector_without m which bytes)
HasNoKey-without m which bytes there whole size = record {
  bytes = bytes;
  size = size;
  sector = refl;
  read = read-without m which bytes there whole size;
  clear = λ s named. is_set-without m which bytes s there named;
}

-- ---- the metadata that are left

SameSlot-without_slot : (m : Metadata) (slot s : ℕ) (bytes : List ℕ) → length m.mkeys ≡ 384 → length bytes ≡ 192 → slot < 2 → s < 2 → s ≢ slot → SameSlot m (without_slot m slot bytes) s
SameSlot-without_slot m zero s bytes long long' lt ls ne = record {
  set = clear_other m.keys 0 s lt ls ne;
  bytes = bytes_other m.mkeys bytes 0 s long long' lt ls ne;
}
SameSlot-without_slot m (suc zero) s bytes long long' lt ls ne = record {
  set = clear_other m.keys 1 s lt ls ne;
  bytes = bytes_other m.mkeys bytes 1 s long long' lt ls ne;
}
SameSlot-without_slot m (suc (suc slot)) s bytes long long' lt ls ne = absurd (omega arith)

KeepsSlot-without : (m : Metadata) (which : Which) (bytes : List ℕ) (s : ℕ) → IsThere which → IsWhole m → length bytes ≡ named_size which → s < 2 → ¬ Names which s
    → KeepsSlot m (without_keys m which bytes) s
KeepsSlot-without m slots.All bytes s there whole size ls other = absurd (other ls)
KeepsSlot-without m (slots.One slot) bytes s there whole size ls other =
    KeepsSlot-same m (without_slot m slot bytes) s (SameSlot-without_slot m slot s bytes whole.mkeys size there ls other) refl (λ set parts key e. e)

slot_bytes-zeros : (m : Metadata) (which : Which) (s : ℕ) → IsThere which → IsWhole m → Names which s → slot_bytes (without_keys m which (zeros (named_size which))) s ≡ replicate 192 0
unfolding zeros
slot_bytes-zeros m slots.All zero there whole named = refl
slot_bytes-zeros m slots.All (suc zero) there whole named = refl
slot_bytes-zeros m slots.All (suc (suc s)) there whole named = absurd (omega arith)
slot_bytes-zeros m (slots.One slot) s there whole named = rw named (bytes_same m.mkeys (replicate 192 0) slot whole.mkeys (length-replicate {A = ℕ} 192 0) there)

-- slots that may be cleared exist
none_first : (test : Bool) (refusal : Refusal) (rest : Option Refusal) → cond test (Some refusal) rest ≡ None → test ≡ false
none_first true refusal rest e = absurd (cc)
none_first false refusal rest e = refl

is_there : (slot : ℕ) → nat_lt 1 slot ≡ false → slot < 2
is_there slot e = grind (arith, nat_tests)

there_by : (m : Metadata) (which : Which) (force : Bool) → deletion_refusal m which force ≡ None → IsThere which
there_by m slots.All force served = tt
there_by m (slots.One slot) force served = is_there slot (none_first (nat_lt 1 slot) (KeyNumberOutOfRange slot) _ served)

IsThere-served : (asked : Deletion) → deletion_refusal asked.meta asked.which asked.force ≡ None → IsThere asked.which
IsThere-served asked served = there_by asked.meta asked.which asked.force served

has_other_keys : (asked : Deletion) (m : Metadata) → IsThere asked.which → IsWhole asked.meta → m ≡ without_keys asked.meta asked.which (zeros (named_size asked.which)) → HasOtherKeys asked m
unfolding zeros
has_other_keys asked m there whole is =
    let last : List ℕ = zeros (named_size asked.which) in
    let size : length last ≡ named_size asked.which = length-replicate {A = ℕ} (named_size asked.which) 0 in
    rw is (record {
      read = λ served. read-without asked.meta asked.which last there whole size (sym (is_served-without asked.meta asked.which last) ∙ served);
      clear = λ s named. is_set-without asked.meta asked.which last s there named;
      named = λ s named. slot_bytes-zeros asked.meta asked.which s there whole named;
      other = λ s ls other. KeepsSlot-without asked.meta asked.which last s there whole size ls other;
    })

pub HasOtherKeys-Deletes : (asked : Deletion) (disk : DiskState) (entropy : EntropyState) (m : Metadata) (disk' : DiskState) (entropy' : EntropyState) → Deletes asked disk entropy m disk' entropy' → HasOtherKeys asked m
HasOtherKeys-Deletes asked disk entropy m disk' entropy' h = has_other_keys asked m (IsThere-served asked h.draws.served) h.draws.whole h.without.metadata

-- ---- the sectors of the passes

HasNoKey-passes : (m : Metadata) (which : Which) (random : List ℕ) → IsThere which → IsWhole m → length random ≡ filler_size which → All (HasNoKey m which) (pass_sectors m which random)
unfolding pass_sectors
HasNoKey-passes m which random there whole size =
    let pieces : List (List ℕ) = passes_of (named_size which) random in
    let such : All (λ (bytes : List ℕ). HasNoKey m which (sector_without m which bytes)) pieces =
    All-weaker (λ (bytes : List ℕ). length bytes ≡ named_size which) (λ (bytes : List ℕ). HasNoKey m which (sector_without m which bytes))
    (λ bytes long. HasNoKey-without m which bytes there whole long) pieces (length-passes_of (named_size which) random size) in
    All-map (HasNoKey m which) (sector_without m which) pieces such

last-passes : (m : Metadata) (which : Which) (random : List ℕ) → last_of (pass_sectors m which random) ≡ sector_without m which (zeros (named_size which))
unfolding pass_sectors
last-passes m which random = refl

some-passes : (m : Metadata) (which : Which) (random : List ℕ) → 0 < length (pass_sectors m which random)
unfolding pass_sectors
some-passes m which random = omega arith

-- ---- what the passes leave

overwrites_logs : (asked : Deletion) (random : List ℕ) (disk new : DiskState) → IsThere asked.which → IsWhole asked.meta → length random ≡ filler_size asked.which
    → Logs (pass_events disk asked.meta asked.which random) disk new → Overwrites asked disk new
overwrites_logs asked random disk new there whole size logs =
    let P : List ℕ → Type 0 = HasNoKey asked.meta asked.which in
    let sectors : List (List ℕ) = pass_sectors asked.meta asked.which random in
    let such : All P sectors = HasNoKey-passes asked.meta asked.which random there whole size in
    record {
      kept = KeepsOldOr-overwrite P (last_sector disk) sectors disk new such logs;
      flushed = flushed-overwrite P (last_sector disk) sectors disk new such logs;
    }

overwrites_fails : (asked : Deletion) (random : List ℕ) (disk new : DiskState) → IsThere asked.which → IsWhole asked.meta → length random ≡ filler_size asked.which
    → FailsIn (pass_events disk asked.meta asked.which random) disk new → Overwrites asked disk new
overwrites_fails asked random disk new there whole size fails =
    let P : List ℕ → Type 0 = HasNoKey asked.meta asked.which in
    let sectors : List (List ℕ) = pass_sectors asked.meta asked.which random in
    let such : All P sectors = HasNoKey-passes asked.meta asked.which random there whole size in
    record {
      kept = KeepsOldOr-overwrite_part P (last_sector disk) sectors disk new such fails;
      flushed = flushed-overwrite_part P (last_sector disk) sectors disk new such fails;
    }

keeps_alone : (disk new : DiskState) (m : Metadata) (which : Which) (random : List ℕ) (last : Metadata) → last ≡ without_keys m which (zeros (named_size which))
    → Logs (pass_events disk m which random) disk new → KeepsAlone (encoded last) (last_sector disk) new.content
keeps_alone disk new m which random last is logs =
    let P : List ℕ → Type 0 = λ bytes. KeepsAlone bytes (last_sector disk) new.content in
    let sectors : List (List ℕ) = pass_sectors m which random in
    let alone : P (last_of sectors) = KeepsAlone-overwrite (last_sector disk) sectors disk.content new.content (some-passes m which random) logs.content in
    subst P (last-passes m which random ∙ sym (ap encoded is)) alone

pub Overwrites-Deletes : (asked : Deletion) (disk : DiskState) (entropy : EntropyState) (m : Metadata) (disk' : DiskState) (entropy' : EntropyState) → Deletes asked disk entropy m disk' entropy' → Overwrites asked disk disk'
Overwrites-Deletes asked disk entropy m disk' entropy' h = overwrites_logs asked h.random disk disk' (IsThere-served asked h.draws.served) h.draws.whole h.draws.size h.logs

pub Overwrites-DeletesPart : (asked : Deletion) (disk : DiskState) (entropy : EntropyState) (disk' : DiskState) (entropy' : EntropyState) → DeletesPart asked disk entropy disk' entropy' → Overwrites asked disk disk'
Overwrites-DeletesPart asked disk entropy disk' entropy' h = overwrites_fails asked h.random disk disk' (IsThere-served asked h.draws.served) h.draws.whole h.draws.size h.fails

pub KeepsAlone-Deletes : (asked : Deletion) (disk : DiskState) (entropy : EntropyState) (m : Metadata) (disk' : DiskState) (entropy' : EntropyState) → Deletes asked disk entropy m disk' entropy'
    → KeepsAlone (encoded m) (last_sector disk) disk'.content
KeepsAlone-Deletes asked disk entropy m disk' entropy' h = keeps_alone disk disk' asked.meta asked.which h.random m h.without.metadata h.logs
