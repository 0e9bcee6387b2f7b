-- What a read of a provider says of the sectors that were asked for.
use Rattle.std.proofs.Common.{◌≡◌, ◌∙◌, inl, inr, ℕ, ◌+◌, ◌*◌, ◌/◌, ◌<◌, ◌≤◌, List, Option, None, Some, Ok, Err, IfSome, ap, sym, subst, arith, false}
use Rattle.std.proofs.Math.Nat.{add-mul, mul-div_cancel, mul-le-mul_right}
use Rattle.block_traits.specs.Content.{Content}
use Rattle.block_traits.specs.Disk.{DiskState}
use Rattle.eli_base.specs.Keying.{Keying}
use Rattle.provider.specs.Answers.{ReadAnswers, SectorRequest}
use Rattle.provider.specs.Attached.{Attached}
use Rattle.sector_runs.specs.Reading.{ReadsFrom, data_reading}
use Rattle.sector_runs.specs.declared.faults.ReadFault.{ReadFault}
use Rattle.sector_runs.specs.declared.faults.ReadFault.TheVariants as read
use Rattle.sealing.specs.Sectors.{units}
use Rattle.byte_ranges.specs.Reads.{ReadsWholeSectors}

-- so many sectors have so many bytes
pub as_many : (n size all : ℕ) → all ≡ n * size → 512 ≤ size → all / size ≡ n
as_many n size all are wide = ap (λ (m : ℕ). m / size) are ∙ mul-div_cancel n {n = size} (omega (arith, wide))

-- the bytes of so many sectors, if the disk reports its content
pub reads_so : (told : Option Content) (k : Keying) (sector n m : ℕ) (bytes : List ℕ) → m ≡ n → ReadsFrom told k sector m (Ok bytes) → IfSome told (λ c. data_reading k c sector n ≡ Ok bytes)
reads_so None k sector n m bytes same h = tt
reads_so (Some c) k sector n m bytes same h = subst (λ (j : ℕ). data_reading k c sector j ≡ Ok bytes) same h

-- a fault among so many sectors
fault_so : (told : Option Content) (k : Keying) (sector n m offset : ℕ) → m ≡ n → ReadsFrom told k sector m (Err offset) → IfSome told (λ c. (at : ℕ) × (data_reading k c sector n ≡ Err at))
fault_so None k sector n m offset same h = tt
fault_so (Some c) k sector n m offset same h = (offset, subst (λ (j : ℕ). data_reading k c sector j ≡ Err offset) same h)

-- a read of sectors that are there is refused only if the disk failed or a unit is a fault
pub cannot_read : {D : Type 0} (state : D → DiskState) (error : ReadFault) (r : SectorRequest) (n : ℕ) (bytes : List ℕ) (old new : Attached D) → r.count ≡ n → r.sector + n ≤ r.media
    → ReadAnswers state r bytes old new (Err error) → ReadsWholeSectors old.keying r.sector n bytes false (state old.disk) (state new.disk)
cannot_read state (read.OutOfRange sector count media) r n bytes old new same inside h = absurd (omega (arith, same, inside, h.0.passes))
cannot_read state read.DeviceFault r n bytes old new same inside h = inl h.fails.fails
cannot_read state (read.Integrity offset) r n bytes old new same inside h =
    inr (h.finds.logs, fault_so (state old.disk).content old.keying r.sector n r.count offset same h.finds.reads)

-- ---- how many units were read

pub reads_all : (n m unit before now : ℕ) → m ≡ n → now ≤ before + m * unit → now ≤ before + n * unit
reads_all n m unit before now same h =
    let all : m * unit ≡ n * unit = ap (λ (j : ℕ). j * unit) same in
    omega (arith, all, h)

-- no more reads than those up to one of so many sectors
reads_up_to : (n m passed unit each before now : ℕ) → m ≡ n → passed < m → unit < each → now ≤ before + (passed * each + unit + 1) → now ≤ before + n * each
reads_up_to n m passed unit each before now same more within h =
    let next : (passed + 1) * each ≡ passed * each + 1 * each = add-mul passed 1 each in
    let few : (passed + 1) * each ≤ m * each = mul-le-mul_right {m = passed + 1} {n = m} each (omega (arith, more)) in
    let all : m * each ≡ n * each = ap (λ (j : ℕ). j * each) same in
    omega (arith, next, few, all, within, h)

pub reads_few : {D : Type 0} (state : D → DiskState) (error : ReadFault) (r : SectorRequest) (n : ℕ) (bytes : List ℕ) (old new : Attached D) → r.count ≡ n
    → ReadAnswers state r bytes old new (Err error) → (state new.disk).reads ≤ (state old.disk).reads + n * units old.keying
reads_few {D} state (read.OutOfRange sector count media) r n bytes old new same h =
    subst (λ (p : Attached D). (state p.disk).reads ≤ (state old.disk).reads + n * units old.keying) (sym h.1) (omega arith)
reads_few state read.DeviceFault r n bytes old new same h =
    let at = h.fails in
    reads_up_to n r.count at.passed at.unit (units old.keying) (state old.disk).reads (state new.disk).reads same at.more at.within at.asked.most
reads_few state (read.Integrity offset) r n bytes old new same h =
    let at = h.finds in
    reads_up_to n r.count at.passed at.unit (units old.keying) (state old.disk).reads (state new.disk).reads same at.more at.within at.asked.most
