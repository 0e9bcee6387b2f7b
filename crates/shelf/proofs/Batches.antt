-- Sectors that are written and read in batches.
use Rattle.std.proofs.Common.{◌≡◌, ℕ, ◌+◌, ◌-◌, ◌*◌, ◌/◌, ◌%◌, ◌≤◌, List, [], ◌++◌, length, min, take, Ok, Err, refl, sym, ap, subst, ◌∙◌, arith, length-append}
use Rattle.std.proofs.Math.Nat.{div-mul-le_self, mul-div_cancel, mul-le-mul_right, mul-mod_left}
use Rattle.std.proofs.lemmas.List.{length-take-le}
use Rattle.block_traits.proofs.Causes.{Counted-then}
use Rattle.block_traits.proofs.Logs.{Logs-then, content-Logs}
use Rattle.command_rows.specs.Rows.{SectorsAnswer}
use Rattle.command_rows.specs.Vocabulary.{Attached, Counted, DiskState, Event, IsKept, Keying, Logs, ReadsAs, Refusal, data_writes, media, media_sectors, units}
use Rattle.eli_base.specs.declared.refusals.Refusal.TheVariants as refusals
use Rattle.sector_runs.proofs.Adjoining.{ReadsFrom-both, RunFails-behind, RunFault-behind, data_writes-more}
use Rattle.rand_core.specs.Steps.{fill_via_u64}
use Rattle.rand_pcg.specs.Lcg.{Lcg}
use Rattle.rand_pcg.specs.Pcg.{pcg64}
use Rattle.sha_stream.specs.Hasher.{Holds256}
use Rattle.sha_stream.specs.declared.hasher.Sha256.{Sha256}
use Rattle.command_rows.specs.verbs.Fill.{generated, words_of_sectors}
use Rattle.command_rows.proofs.Generated.{fill-whole, generated-more}

-- ---- the size of a batch

-- as many sectors as there is room for
pub batch_long : (n size left len : ℕ) (buffer : List ℕ) → length buffer ≡ len → n ≡ min (len / size) left → length (take (n * size) buffer) ≡ n * size
batch_long n size left len buffer has is =
    let most : n ≤ len / size = omega (arith, is) in
    let room : n * size ≤ length buffer = omega (arith, has, mul-le-mul_right size most, div-mul-le_self len size) in
    length-take-le (n * size) buffer room

pub whole_batch : (n size : ℕ) (bytes : List ℕ) (now : Keying) → size ≡ now.sectorsize → length bytes ≡ n * size → length bytes % now.sectorsize ≡ 0
whole_batch n size bytes now same long =
    ap (λ (l : ℕ). l % now.sectorsize) long ∙ ap (λ (s : ℕ). (n * s) % now.sectorsize) same ∙ mul-mod_left n now.sectorsize

pub count_batch : (n size : ℕ) (bytes : List ℕ) (now : Keying) → 1 ≤ size → size ≡ now.sectorsize → length bytes ≡ n * size → length bytes / now.sectorsize ≡ n
count_batch n size bytes now some same long =
    ap (λ (l : ℕ). l / now.sectorsize) long ∙ ap (λ (s : ℕ). (n * size) / s) (sym same) ∙ mul-div_cancel n some

-- keying, slot and read-only state stay from one batch to the next
pub kept_then : {D : Type 0} (old middle new : Attached D) → IsKept old middle → IsKept middle new → IsKept old new
kept_then old middle new a b = record { keying = b.keying ∙ a.keying; slot = b.slot ∙ a.slot; readonly = b.readonly ∙ a.readonly }

-- so many logical sectors stay
pub same_media : (k now : Keying) (d d' : DiskState) → now ≡ k → d'.size ≡ d.size → media now d' ≡ media k d
same_media k now d d' same size = λ i. media_sectors (same i).auth (same i).sectorsize (512 * size i)

-- ---- writing

-- the writes of so many sectors with the next words of a generator
abbrev pub left_writes : Keying → ℕ → ℕ → Lcg → List Event
left_writes k sector left g = data_writes k sector left (generated (words_of_sectors k.sectorsize left) g).0

words_bytes : (n w size : ℕ) → size ≡ 8 * w → n * size ≡ 8 * (n * w)
words_bytes n w size h = ap (λ (s : ℕ). n * s) h ∙ omega arith

many_words : (n rest w : ℕ) → (n + rest) * w ≡ n * w + rest * w
many_words n rest w = omega arith

-- a batch is written, and the others are left
pub batch_writes : (k now : Keying) (g next : Lcg) (sector after n left rest bytes : ℕ) (batch : List ℕ)
    → 1 ≤ k.sectorsize → k.sectorsize % 512 ≡ 0 → now ≡ k → bytes ≡ n * k.sectorsize → length batch ≡ bytes → left ≡ n + rest → after ≡ sector + n
    → (batch, next) ≡ fill_via_u64 pcg64 bytes g
    → left_writes k sector left g ≡ data_writes now sector (length batch / now.sectorsize) batch ++ left_writes k after rest next
batch_writes k now g next sector after n left rest bytes batch some whole same size long sum to filled =
    let w : ℕ = k.sectorsize / 8 in
    let eight : k.sectorsize ≡ 8 * w = omega arith in
    let full : (batch, next) ≡ generated (n * w) g = filled ∙ fill-whole bytes (n * w) g (size ∙ words_bytes n w k.sectorsize eight) in
    let front : (generated (n * w) g).0 ≡ batch = sym (ap (λ (p : List ℕ × Lcg). p.0) full) in
    let behind : (generated (n * w) g).1 ≡ next = sym (ap (λ (p : List ℕ × Lcg). p.1) full) in
    let more : left * w ≡ n * w + rest * w = ap (λ (c : ℕ). c * w) sum ∙ many_words n rest w in
    let all : (generated (left * w) g).0 ≡ batch ++ (generated (rest * w) next).0 =
    ap (λ (c : ℕ). (generated c g).0) more ∙ ap (λ (p : List ℕ × Lcg). p.0) (generated-more (n * w) (rest * w) g)
    ∙ (λ i. front i ++ (generated (rest * w) (behind i)).0) in
    let P : Keying → Type 0 = λ j. length batch / j.sectorsize ≡ n in
    let count : length batch / now.sectorsize ≡ n = subst P (sym same) (count_batch n k.sectorsize batch k some refl (long ∙ size)) in
    ap (λ (c : ℕ). data_writes k sector c (generated (left * w) g).0) sum
    ∙ ap (data_writes k sector (n + rest)) all
    ∙ data_writes-more k sector n rest batch (generated (rest * w) next).0 (long ∙ size)
    ∙ (λ i. data_writes (sym same i) sector (sym count i) batch ++ data_writes k (sym to i) rest (generated (rest * w) next).0)

-- no sectors are left
pub left_none : (k : Keying) (sector left : ℕ) (g : Lcg) → left ≡ 0 → left_writes k sector left g ≡ []
left_none k sector left g none = ap (λ (n : ℕ). left_writes k sector n g) none

-- ---- reading

-- so many sectors were read and hashed
pub record HasRead (k : Keying) (start count : ℕ) (old new : DiskState) (hasher : Sha256) : Type 0 where
  pub bytes : List ℕ
  pub long : length bytes ≡ count * k.sectorsize
  pub asked : Counted (count * units k) old.reads new.reads
  pub logs : Logs [] old new
  pub reads : ReadsAs old k start count (Ok bytes)
  pub holds : Holds256 hasher bytes

-- more sectors were read and hashed after them
pub HasRead-more : (k now : Keying) (start i count sector : ℕ) (batch : List ℕ) (first middle last : DiskState) (hasher next : Sha256) → now ≡ k → sector ≡ start + i
    → HasRead k start i first middle hasher → SectorsAnswer now sector count middle (Ok batch) last → ((m : List ℕ) → Holds256 hasher m → Holds256 next (m ++ batch))
    → HasRead k start (i + count) first last next
HasRead-more k now start i count sector batch first middle last hasher next same at before read more =
    let here : SectorsAnswer k (start + i) count middle (Ok batch) last =
    subst (λ (j : Keying). SectorsAnswer j (start + i) count middle (Ok batch) last) same (subst (λ (s : ℕ). SectorsAnswer now s count middle (Ok batch) last) at read) in
    record {
      bytes = before.bytes ++ batch;
      long = length-append before.bytes batch ∙ (λ j. before.long j + here.0 j) ∙ sym (many_words i count k.sectorsize);
      asked = Counted-then (i * units k) (count * units k) ((i + count) * units k) (omega arith) before.asked here.3;
      logs = Logs-then [] [] before.logs here.1;
      reads = ReadsFrom-both first.content middle.content k start i count before.bytes batch (content-Logs first middle before.logs) before.reads here.2;
      holds = more before.bytes before.holds;
    }

fails_behind : (refusal : Refusal) (k : Keying) (start i count rest : ℕ) (first middle last : DiskState) (hasher : Sha256)
    → HasRead k start i first middle hasher → SectorsAnswer k (start + i) count middle (Err refusal) last → SectorsAnswer k start (i + count + rest) first (Err refusal) last
fails_behind (refusals.Integrity offset) k start i count rest first middle last hasher before h = RunFault-behind k start i count rest offset before.bytes first middle last before.asked before.logs before.reads h
fails_behind refusals.DeviceFault k start i count rest first middle last hasher before h = RunFails-behind k start i count rest before.bytes first middle last before.asked before.logs before.reads h
fails_behind refusal k start i count rest first middle last hasher before h = absurd h

-- a refusal after them is that of all
pub HasRead-fails : (refusal : Refusal) (k now : Keying) (start i count all sector : ℕ) (first middle last : DiskState) (hasher : Sha256) → now ≡ k → sector ≡ start + i → i + count ≤ all
    → HasRead k start i first middle hasher → SectorsAnswer now sector count middle (Err refusal) last → SectorsAnswer k start all first (Err refusal) last
HasRead-fails refusal k now start i count all sector first middle last hasher same at within before h =
    let here : SectorsAnswer k (start + i) count middle (Err refusal) last =
    subst (λ (j : Keying). SectorsAnswer j (start + i) count middle (Err refusal) last) same (subst (λ (s : ℕ). SectorsAnswer now s count middle (Err refusal) last) at h) in
    let sum : i + count + (all - (i + count)) ≡ all = omega arith in
    subst (λ (n : ℕ). SectorsAnswer k start n first (Err refusal) last) sum (fails_behind refusal k start i count (all - (i + count)) first middle last hasher before here)
