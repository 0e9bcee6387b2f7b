-- Ranges of bytes, and the sectors that they lie in.
use Rattle.std.proofs.Common.{◌≡◌, ◌∙◌, inl, inr, ℕ, ◌+◌, ◌-◌, ◌*◌, ◌/◌, ◌%◌, ◌<◌, ◌≤◌, List, length, take, drop, Option, None, Some, Ok, Err, IfSome, Bool, true, refl, ap, sym, subst, arith, length-drop, length-take-le, false}
use Rattle.std.proofs.Math.Nat.{add-mul, div-add-mod', lt_of_mul-lt-mul_right}
use Rattle.block_traits.specs.Content.{Content}
use Rattle.block_traits.specs.Disk.{DiskState}
use Rattle.eli_base.specs.Keying.{Keying}
use Rattle.provider.specs.Attached.{media}
use Rattle.sector_runs.specs.Reading.{data_reading}
use Rattle.byte_ranges.specs.Ranges.{IsCoverOf, IsInside, first_sector, part_of, range_reading, sectors_covered, skipped}
use Rattle.byte_ranges.specs.Reads.{CannotReadRange, ReadsRange, ReadsWholeSectors}
use Rattle.byte_ranges.specs.declared.cover.Cover.{Cover}
use Rattle.byte_ranges.specs.declared.ranges.ByteRange.{ByteRange}

-- the sectors that a range needs are there if the range is
few_enough : (o n size there first skip count : ℕ) → first ≡ o / size → skip ≡ o % size → count * size < skip + n + size → o + n ≤ there * size → first + count ≤ there
few_enough o n size there first skip count first_is skip_is least inside =
    let split : first * size + skip ≡ o = ap (λ (m : ℕ). m * size + skip) first_is ∙ ap (λ (m : ℕ). o / size * size + m) skip_is ∙ div-add-mod' o size in
    let sum = add-mul first count size in
    let next = add-mul there 1 size in
    let less : (first + count) * size < (there + 1) * size = omega (arith, split, sum, next, least, inside) in
    let lt = lt_of_mul-lt-mul_right size less in
    omega (arith, lt)

pub sectors_inside : (k : Keying) (d : DiskState) (r : ByteRange) (cover : Cover) → IsCoverOf k r cover → IsInside k d r → cover.first + cover.count ≤ media k d
sectors_inside k d r cover is inside =
    few_enough r.offset r.count k.sectorsize (media k d) cover.first cover.skip cover.count is.first is.skip (subst (λ (m : ℕ). m < cover.skip + r.count + k.sectorsize) is.whole is.least) inside

-- the sectors of a range that is inside are there
pub covered_inside : (k : Keying) (d : DiskState) (r : ByteRange) → 0 < k.sectorsize → IsInside k d r → first_sector k r + sectors_covered k r ≤ media k d
covered_inside k d r some inside =
    let all : ℕ = skipped k r + r.count + (k.sectorsize - 1) in
    let split : all / k.sectorsize * k.sectorsize + all % k.sectorsize ≡ all = div-add-mod' all k.sectorsize in
    few_enough r.offset r.count k.sectorsize (media k d) (first_sector k r) (skipped k r) (sectors_covered k r) refl refl (omega (arith, split, some)) inside

-- reading a range gives as many bytes as were asked for
as_asked : (k : Keying) (r : ByteRange) (cover : Cover) (bytes : List ℕ) → IsCoverOf k r cover → length bytes ≡ cover.whole → length (take r.count (drop cover.skip bytes)) ≡ r.count
as_asked k r cover bytes is all =
    length-take-le r.count (drop cover.skip bytes) (omega (arith, length-drop cover.skip bytes, all, is.covers))

-- the part of what sectors read as
part_read : (told : Option Content) (k : Keying) (r : ByteRange) (cover : Cover) (bytes : List ℕ) → IsCoverOf k r cover → IfSome told (λ c. data_reading k c cover.first cover.count ≡ Ok bytes)
    → IfSome told (λ c. range_reading k c r ≡ Ok (take r.count (drop cover.skip bytes)))
part_read None k r cover bytes is h = tt
part_read (Some c) k r cover bytes is h =
    ap (λ (m : ℕ). part_of k r (data_reading k c m (sectors_covered k r))) (sym is.first)
    ∙ ap (λ (m : ℕ). part_of k r (data_reading k c cover.first m)) (sym is.count)
    ∙ ap (part_of k r) h
    ∙ ap (λ (m : ℕ). Ok (take r.count (drop m bytes))) (sym is.skip)

fault_read : (told : Option Content) (k : Keying) (r : ByteRange) (cover : Cover) → IsCoverOf k r cover → IfSome told (λ c. (at : ℕ) × (data_reading k c cover.first cover.count ≡ Err at))
    → IfSome told (λ c. (at : ℕ) × (range_reading k c r ≡ Err at))
fault_read None k r cover is h = tt
fault_read (Some c) k r cover is h = (
  h.0,
  ap (λ (m : ℕ). part_of k r (data_reading k c m (sectors_covered k r))) (sym is.first)
      ∙ ap (λ (m : ℕ). part_of k r (data_reading k c cover.first m)) (sym is.count)
      ∙ ap (part_of k r) h.1,
)

cannot_range : (k : Keying) (r : ByteRange) (cover : Cover) (bytes : List ℕ) (old new : DiskState) → IsCoverOf k r cover
    → ReadsWholeSectors k cover.first cover.count bytes false old new → CannotReadRange k r old new
cannot_range k r cover bytes old new is h =
    elim h [ inl fails ↦ inl fails | inr read ↦ inr (read.0, fault_read old.content k r cover is read.1) ]

-- what reading its sectors says of a range
pub range_by : (answer : Bool) (k : Keying) (r : ByteRange) (cover : Cover) (bytes : List ℕ) (old new : DiskState) → IsCoverOf k r cover → length bytes ≡ cover.whole
    → ReadsWholeSectors k cover.first cover.count bytes answer old new → ReadsRange k r (take r.count (drop cover.skip bytes)) answer old new
range_by true k r cover bytes old new is all h =
    record { size = as_asked k r cover bytes is all; logs = h.0; reads = part_read old.content k r cover bytes is h.1 }
range_by false k r cover bytes old new is all h = cannot_range k r cover bytes old new is h
