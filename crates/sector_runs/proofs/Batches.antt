-- Logical sectors that are read or written in batches.
use Rattle.std.proofs.Common.{◌≡◌, ℕ, ◌+◌, ◌-◌, ◌*◌, ◌/◌, ◌<◌, ◌≤◌, List, [], length, take, drop, Option, Result, Ok, Err, sym, ap, subst, ◌∙◌, arith}
use Rattle.std.proofs.Math.Nat.{div-mul-le_self, mul-div_cancel, mul-le-mul_right}
use Rattle.std.proofs.lemmas.List.{length-drop, length-take-le}
use Rattle.std.proofs.lemmas.Slice.{take-put_mid}
use borrow.Rule.Slice.PartMut.{put_mid}
use Rattle.block_traits.specs.Causes.{Counted}
use Rattle.block_traits.specs.Content.{Content}
use Rattle.block_traits.specs.Disk.{DiskState, Logs}
use Rattle.eli_base.specs.Keying.{Keying}
use Rattle.sealing.specs.Sectors.{units}
use Rattle.sector_runs.specs.declared.faults.ReadFault.{ReadFault}
use Rattle.sector_runs.specs.declared.faults.ReadFault.TheVariants.{OutOfRange, DeviceFault, Integrity}
use Rattle.sector_runs.specs.Reading.{ReadsAs, ReadsFrom}
use Rattle.sector_runs.specs.Reads.{RunAnswers}
use Rattle.sector_runs.proofs.Adjoining.{ReadsFrom-both, RunFails-behind, RunFault-behind}

-- the bytes of the device sectors of all stand at the front of a buffer that has room for them
pub device_length : (k : Keying) (size rows all : ℕ) (buffer : List ℕ) → size ≡ k.sectorsize → rows ≡ units k → all / k.sectorsize * (512 * units k) ≤ length buffer
    → length (take (all / size * (512 * rows)) buffer) ≡ all / k.sectorsize * (512 * units k)
device_length k size rows all buffer same cut room =
    let bytes : all / size * (512 * rows) ≡ all / k.sectorsize * (512 * units k) = λ j. all / same j * (512 * cut j) in
    length-take-le (all / size * (512 * rows)) buffer (omega (arith, bytes, room)) ∙ bytes

-- ---- where a batch stands

-- Of `count` logical sectors with these bytes, the `many` from number i on are a batch of `wide` bytes. The ring gives
-- the keys of the keying that it had at first.
pub record IsBatch (k now : Keying) (size count many wide i : ℕ) (bytes : List ℕ) : Type 0 where
  pub kept : now ≡ k
  pub same : size ≡ k.sectorsize
  pub some : 0 < size
  pub within : i + many ≤ count
  pub broad : wide ≡ many * size
  pub room : (i + many) * size ≤ length bytes

pub batch_here : {k now : Keying} {size all many i : ℕ} {bytes : List ℕ} → now ≡ k → size ≡ k.sectorsize → 0 < size → i + many ≤ all / size → length bytes ≡ all
    → IsBatch k now size (all / size) many ((i + many) * size - i * size) i bytes
batch_here {k} {now} {size} {all} {many} {i} {bytes} kept same some within long = record {
  kept = kept;
  same = same;
  some = some;
  within = within;
  broad = omega arith;
  room = omega (arith, mul-le-mul_right size within, div-mul-le_self all size);
}

module _ {k now : Keying} {size count many wide i : ℕ} {bytes : List ℕ} (batch : IsBatch k now size count many wide i bytes) where
  -- how many bytes it has
  pub batch_length : length (take wide (drop (i * size) bytes)) ≡ many * size
  batch_length = length-take-le wide (drop (i * size) bytes) (omega (arith, length-drop (i * size) bytes, batch.room, batch.broad)) ∙ batch.broad

  pub batch_count : length (take wide (drop (i * size) bytes)) / now.sectorsize ≡ many
  batch_count = (λ j. batch_length j / (ap (λ (h : Keying). h.sectorsize) batch.kept ∙ sym batch.same) j) ∙ mul-div_cancel many batch.some

  -- its device sectors have room in the buffer
  pub batch_fits : (rows buffer : ℕ) → rows ≡ units k → many ≤ buffer / (512 * rows) → length (take wide (drop (i * size) bytes)) / now.sectorsize * (512 * units now) ≤ buffer
  batch_fits rows buffer cut few =
      let most : ℕ = buffer / (512 * rows) in
      let whole : most * (512 * rows) ≤ buffer = div-mul-le_self buffer (512 * rows) in
      let fits : many * (512 * rows) ≤ most * (512 * rows) = mul-le-mul_right (512 * rows) few in
      let all : length (take wide (drop (i * size) bytes)) / now.sectorsize * (512 * units now) ≡ many * (512 * rows) =
      λ j. batch_count j * (512 * (ap units batch.kept ∙ sym cut) j) in
      omega (arith, all, whole, fits)

  -- ---- what is read

  -- what reading it came to, in the words of the whole
  pub batch_answer : (middle last : DiskState) (sector : ℕ) (block : List ℕ) (answer : Result (Unit {0}) ReadFault)
      → RunAnswers now (sector + i) (length (take wide (drop (i * size) bytes)) / now.sectorsize) middle last block answer → RunAnswers k (sector + i) many middle last block answer
  batch_answer middle last sector block answer gives =
      let P : Keying → Type 0 = λ h. RunAnswers h (sector + i) many middle last block answer in
      let Q : ℕ → Type 0 = λ n. RunAnswers now (sector + i) n middle last block answer in
      subst P batch.kept (subst Q batch_count gives)

  -- a fault in it, after the sectors that were read before
  pub batch_fault : (fault : ReadFault) (first middle last : DiskState) (sector : ℕ) (front block all : List ℕ) → Counted (i * units k) first.reads middle.reads → Logs [] first middle
      → ReadsAs first k sector i (Ok front) → RunAnswers k (sector + i) many middle last block (Err fault) → RunAnswers k sector count first last all (Err fault)
  batch_fault (OutOfRange a b m) first middle last sector front block all asked logs so gives = absurd gives
  batch_fault DeviceFault first middle last sector front block all asked logs so gives =
      let P : ℕ → Type 0 = λ n. RunAnswers k sector n first last all (Err DeviceFault) in
      let whole : i + many + (count - (i + many)) ≡ count = omega arith in
      subst P whole (RunFails-behind k sector i many (count - (i + many)) front first middle last asked logs so gives)
  batch_fault (Integrity offset) first middle last sector front block all asked logs so gives =
      let P : ℕ → Type 0 = λ n. RunAnswers k sector n first last all (Err (Integrity offset)) in
      let whole : i + many + (count - (i + many)) ≡ count = omega arith in
      subst P whole (RunFault-behind k sector i many (count - (i + many)) offset front first middle last asked logs so gives)

  -- its bytes, after those of the sectors that were read before
  pub batch_reads : (told now_told : Option Content) (sector : ℕ) (block : List ℕ) → now_told ≡ told → length block ≡ many * size → ReadsFrom told k sector i (Ok (take (i * size) bytes))
      → ReadsFrom now_told k (sector + i) many (Ok block) → ReadsFrom told k sector (i + many) (Ok (take ((i + many) * size) (put_mid (i * size) wide bytes block)))
  batch_reads told now_told sector block there long so gives =
      let at : (i + many) * size ≡ i * size + length block = omega (arith, long) in
      let front : i * size ≤ length bytes = omega (arith, batch.room) in
      let P : List ℕ → Type 0 = λ all. ReadsFrom told k sector (i + many) (Ok all) in
      subst P (sym (take-put_mid (i * size) wide bytes block ((i + many) * size) at front))
      (ReadsFrom-both told now_told k sector i many (take (i * size) bytes) block there so gives)
