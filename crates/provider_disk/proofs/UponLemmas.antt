-- What the calls of a provider are as those of the disk upon it.
use Rattle.std.proofs.Common.{◌≡◌, ℕ, ◌+◌, ◌-◌, ◌*◌, ◌/◌, ◌<◌, true, false, List, [], length, sym, ap, ◌∙◌, arith, subst, Option, Some, None, Result, Ok, Err}
use Rattle.std.specs.Option.{option_map}
use Rattle.std.specs.Result.{OnOk, OnErr}
use Rattle.block_traits.specs.declared.disk.Event.{Event}
use Rattle.block_traits.specs.Causes.{Counted}
use Rattle.block_traits.specs.Content.{Content, IsSector}
use Rattle.block_traits.specs.Disk.{DiskState, FailsIn, FitsSize, GivesFrom, Logs}
use Rattle.eli_base.specs.Keying.{Keying}
use Rattle.provider.specs.Answers.{FailsWrite, IsInRange, ReadAnswers, WriteAnswers, request}
use Rattle.provider.specs.Attached.{Attached, media}
use Rattle.sector_runs.specs.Reading.{ReadsFrom}
use Rattle.sector_runs.specs.declared.faults.ReadFault.{ReadFault}
use Rattle.sector_runs.specs.declared.faults.ReadFault.TheVariants as read
use Rattle.provider.specs.declared.faults.WriteFault.{WriteFault}
use Rattle.provider.specs.declared.faults.WriteFault.TheVariants as write
use Rattle.sealing.specs.Sectors.{IsSingle, units}
use Rattle.provider_disk.specs.Opened.{opened_content, opened_events}
use Rattle.provider_disk.proofs.OpenedKept.{present-opened_content}
use Rattle.provider_disk.proofs.OpenedLemmas.{FailsIn-opened, IsUpon, Logs-opened, reads-opened, units_of}

-- a disk upon a provider with this keying is one upon the disk below it
pub upon_one : {k j : Keying} {below here : DiskState} → j ≡ k → here.size ≡ below.size - 1 → here.shows ≡ false → here.content ≡ option_map (opened_content j) below.content → here.faults ≡ below.faults
    → IsUpon k below here
upon_one {k} {j} {below} {here} same size shows content faults = record {
  size = size;
  shows = shows;
  content = content ∙ ap (λ (j : Keying). option_map (opened_content j) below.content) same;
  faults = faults;
}

-- what a call of the provider logs is what the disk upon it logs, opened
pub logs_upon : (k : Keying) (events shown : List Event) {below later old new : DiskState} → opened_events k (below.size - 1) events ≡ shown → IsUpon k below old → IsUpon k later new
    → Logs events below later → Logs shown old new
logs_upon k events shown {below} {later} {old} {new} are is will logs =
    let P : List Event → Type 0 = λ events. Logs events old new in subst P are (Logs-opened k events is will logs)

pub fails_upon : (k : Keying) (events shown : List Event) {below later old new : DiskState} → opened_events k (below.size - 1) events ≡ shown → IsUpon k below old → IsUpon k later new
    → FailsIn events below later → FailsIn shown old new
fails_upon k events shown {below} {later} {old} {new} are is will fails =
    let P : List Event → Type 0 = λ events. FailsIn events old new in subst P are (FailsIn-opened k events is will fails)

pub ok_so : {T E : Type 0} {P Q : Type 0} (r : Result T E) → (P → Q) → OnOk r P → OnOk r Q
ok_so (Ok done) so p = so p
ok_so (Err failed) so p = tt

pub err_so : {T E : Type 0} {P Q : Type 0} (r : Result T E) → (P → Q) → OnErr r P → OnErr r Q
err_so (Ok done) so p = tt
err_so (Err failed) so p = so p

-- one sector is asked for
pub count_of : (k : Keying) (bytes : List ℕ) → IsSingle k → IsSector bytes → length bytes / k.sectorsize ≡ 1
count_of k bytes single sized = λ i. sized i / single.size i

media_of : (k : Keying) (d : DiskState) → IsSingle k → media k d ≡ d.size - 1
media_of k d single = ap (λ (u : ℕ). (512 * d.size - 512) / (512 * u)) (units_of k single) ∙ omega arith

in_range : {D : Type 0} (state : D → DiskState) (p : Attached D) (n : ℕ) (bytes : List ℕ) → IsSingle p.keying → IsSector bytes → n < (state p.disk).size - 1
    → IsInRange (request state p n bytes)
in_range state p n bytes single sized inside =
    let one = count_of p.keying bytes single sized in
    let end = media_of p.keying (state p.disk) single in
    omega (arith, one, end)

pub gives_opened : (k : Keying) (size n count : ℕ) (bytes : List ℕ) (told : Option Content) → IsSingle k → FitsSize size told → n < size - 1 → count ≡ 1
    → ReadsFrom told k n count (Ok bytes) → GivesFrom (option_map (opened_content k) told) n bytes
gives_opened k size n count bytes None single fits inside one reads = tt
gives_opened k size n count bytes (Some c) single fits inside one reads =
    let same = fits.sectors in
    let small : n < length c.base - 1 = omega arith in
    reads-opened k c n count bytes single one reads ∙ sym (present-opened_content k c n small)

-- a read is refused only if the device failed
pub read_fails : {D : Type 0} (state : D → DiskState) (n : ℕ) (into bytes : List ℕ) (old new : Attached D) (fault : ReadFault) → IsSingle old.keying → IsSector into
    → n < (state old.disk).size - 1 → ReadAnswers state (request state old n into) bytes old new (Err fault) → FailsIn [] (state old.disk) (state new.disk)
read_fails state n into bytes old new (read.OutOfRange sector count there) single sized inside answer =
    let range = in_range state old n into single sized inside in
    let passes = answer.0.passes in
    absurd (omega arith)
read_fails state n into bytes old new read.DeviceFault single sized inside answer = answer.fails.fails
read_fails state n into bytes old new (read.Integrity offset) single sized inside answer = absurd (answer.finds.tagged single.off)

-- one device sector is read for one that is asked for, even if that read failed
pub reads_once : (k : Keying) (count before now : ℕ) → IsSingle k → count ≡ 1 → Counted (count * units k) before now → Counted 1 before now
reads_once k count before now single one asked =
    let P : ℕ → Type 0 = λ many. Counted many before now in
    let many : count * units k ≡ 1 * 1 = λ i. one i * units_of k single i in
    subst P many asked

pub fails_once : {D : Type 0} (state : D → DiskState) (n : ℕ) (into bytes : List ℕ) (old new : Attached D) (fault : ReadFault) → IsSingle old.keying → IsSector into
    → n < (state old.disk).size - 1 → ReadAnswers state (request state old n into) bytes old new (Err fault) → Counted 1 (state old.disk).reads (state new.disk).reads
fails_once state n into bytes old new (read.OutOfRange sector count there) single sized inside answer =
    let range = in_range state old n into single sized inside in
    let passes = answer.0.passes in
    absurd (omega arith)
fails_once state n into bytes old new read.DeviceFault single sized inside answer =
    let fails = answer.fails in
    let P : ℕ → Type 0 = λ many. Counted many (state old.disk).reads (state new.disk).reads in
    let one = count_of old.keying into single sized in
    let more = fails.more in
    let within = fails.within in
    let alone : units old.keying ≡ 1 = units_of old.keying single in
    let none : fails.passed ≡ 0 = omega (arith, one, more) in
    let first : fails.unit ≡ 0 = omega (arith, alone, within) in
    let many : fails.passed * units old.keying + fails.unit + 1 ≡ 0 * 1 + 0 + 1 = λ i. none i * alone i + first i + 1 in
    subst P many fails.asked
fails_once state n into bytes old new (read.Integrity offset) single sized inside answer = absurd (answer.finds.tagged single.off)

-- a write is refused only if the device failed
pub write_fails : {D : Type 0} (state : D → DiskState) (n : ℕ) (bytes : List ℕ) (old new : Attached D) (fault : WriteFault) → IsSingle old.keying → old.readonly ≡ false → IsSector bytes
    → n < (state old.disk).size - 1 → WriteAnswers state (request state old n bytes) bytes old new (Err fault)
    → FailsWrite old.keying (request state old n bytes) bytes (state old.disk) (state new.disk)
write_fails state n bytes old new write.ReadOnly single writable sized inside answer = let e : true ≡ false = sym answer.0 ∙ writable in absurd (cc e)
write_fails state n bytes old new (write.OutOfRange sector count there) single writable sized inside answer =
    let range = in_range state old n bytes single sized inside in
    let passes = answer.1.passes in
    absurd (omega arith)
write_fails state n bytes old new write.DeviceFault single writable sized inside answer = answer.1
