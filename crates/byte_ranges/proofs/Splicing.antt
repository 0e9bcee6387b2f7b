-- What stands beside the bytes of a write in its sectors.
use Rattle.std.proofs.Common.{◌≡◌, ◌∙◌, inl, inr, ℕ, ◌+◌, ◌-◌, ◌*◌, ◌<◌, ◌≤◌, List, [], length, take, drop, Option, None, Some, Err, IfSome, ap, sym, subst, arith, Bool, true, false}
use Rattle.std.proofs.Math.Nat.{add-mul}
use Rattle.std.proofs.lemmas.List.{drop-take, take-take}
use Rattle.block_traits.specs.Content.{Content}
use Rattle.block_traits.specs.Disk.{DiskState, FailsIn, Logs}
use Rattle.block_traits.proofs.Logs.{FailsIn-then, Logs-then, content-Logs}
use Rattle.block_traits.specs.declared.disk.Event.{Event}
use Rattle.eli_base.specs.Keying.{Keying}
use Rattle.eli_base.specs.Units.{media_sectors}
use Rattle.provider.specs.Attached.{media}
use Rattle.byte_ranges.proofs.Covering.{sectors_inside}
use Rattle.sector_runs.specs.Reading.{sector_reading}
use Rattle.byte_ranges.specs.Edges.{EdgeFails, HasBack, HasFront, PutsBackEdge, PutsFrontEdge}
use Rattle.byte_ranges.specs.Ranges.{IsCoverOf, IsEdge, IsInside, IsSpliced, SectorHas, first_sector, sectors_covered, skipped}
use Rattle.byte_ranges.specs.Writes.{CannotSplice, SplicesInto}
use Rattle.byte_ranges.specs.declared.cover.Cover.{Cover}
use Rattle.byte_ranges.specs.declared.ranges.ByteRange.{ByteRange}

-- ---- beside the bytes

pub whole_of : (k : Keying) (r : ByteRange) (cover : Cover) (n : ℕ) → IsCoverOf k r cover → n ≡ cover.whole → n ≡ sectors_covered k r * k.sectorsize
whole_of k r cover n is same = same ∙ is.whole ∙ ap (λ (m : ℕ). m * k.sectorsize) is.count

-- the last bytes of the last sector
from_there : (size count whole end : ℕ) → whole ≡ count * size → 1 ≤ count → end ≤ whole → whole < end + size → size - (whole - end) ≡ end - (count - 1) * size
from_there size count whole end all some within least =
    let split : count ≡ (count - 1) + 1 = omega (arith, some) in
    let next : count * size ≡ (count - 1) * size + 1 * size = ap (λ (m : ℕ). m * size) split ∙ add-mul (count - 1) 1 size in
    omega (arith, all, next, within, least)

-- the bytes that were written are still there
still_there : (skip n : ℕ) (olds mids news : List ℕ) → drop skip mids ≡ drop skip olds → take (skip + n) news ≡ take (skip + n) mids → take n (drop skip news) ≡ take n (drop skip olds)
still_there skip n olds mids news front back = sym (drop-take skip n news) ∙ ap (drop skip) back ∙ drop-take skip n mids ∙ ap (take n) front

-- the bytes before those that were written are still there
front_there : (skip n : ℕ) (mids news there : List ℕ) → take (skip + n) news ≡ take (skip + n) mids → take skip mids ≡ take skip there → take skip news ≡ take skip there
front_there skip n mids news there back front =
    sym (take-take skip (skip + n) news (omega arith)) ∙ ap (take skip) back ∙ take-take skip (skip + n) mids (omega arith) ∙ front

front_of : (k : Keying) (c : Content) (r : ByteRange) (cover : Cover) (mids news : List ℕ) → IsCoverOf k r cover → take (cover.skip + r.count) news ≡ take (cover.skip + r.count) mids
    → (there : List ℕ) × SectorHas k c cover.first there × (take cover.skip mids ≡ take cover.skip there)
    → (there : List ℕ) × SectorHas k c (first_sector k r) there × (take (skipped k r) news ≡ take (skipped k r) there)
front_of k c r cover mids news is back h = (
  h.0,
  subst (λ (m : ℕ). SectorHas k c m h.0) is.first h.1,
  subst (λ (m : ℕ). take m news ≡ take m h.0) is.skip (front_there cover.skip r.count mids news h.0 back h.2),
)

back_of : (k : Keying) (c : Content) (r : ByteRange) (cover : Cover) (news : List ℕ) (from : ℕ) → IsCoverOf k r cover → from ≡ cover.skip + r.count - (cover.count - 1) * k.sectorsize
    → (there : List ℕ) × SectorHas k c (cover.first + (cover.count - 1)) there × (drop (cover.skip + r.count) news ≡ drop from there)
    → (there : List ℕ) × SectorHas k c (first_sector k r + (sectors_covered k r - 1)) there
    × (drop (skipped k r + r.count) news ≡ drop (skipped k r + r.count - (sectors_covered k r - 1) * k.sectorsize) there)
back_of k c r cover news from is same h = (
  h.0,
  subst (λ (m : ℕ). SectorHas k c (first_sector k r + (m - 1)) h.0) is.count (subst (λ (m : ℕ). SectorHas k c (m + (cover.count - 1)) h.0) is.first h.1),
  subst (λ (m : ℕ). drop (skipped k r + r.count) news ≡ drop (skipped k r + r.count - (m - 1) * k.sectorsize) h.0) is.count
      (subst (λ (m : ℕ). drop (m + r.count) news ≡ drop (m + r.count - (cover.count - 1) * k.sectorsize) h.0) is.skip (h.2 ∙ ap (λ (m : ℕ). drop m h.0) same)),
)

spliced_told : (told : Option Content) (k : Keying) (r : ByteRange) (cover : Cover) (olds mids news : List ℕ) → IsCoverOf k r cover → length olds ≡ cover.whole
    → HasFront told k cover.first cover.skip olds mids → HasBack told k (cover.first + (cover.count - 1)) (cover.skip + r.count) mids news
    → IfSome told (λ c. IsSpliced k c r (take r.count (drop cover.skip olds)) news)
spliced_told None k r cover olds mids news is size front back = tt
spliced_told (Some c) k r cover olds mids news is size front back =
    let middle : length mids ≡ cover.whole = front.size ∙ size in
    let all : length news ≡ cover.whole = back.size ∙ middle in
    let from : k.sectorsize - (length mids - (cover.skip + r.count)) ≡ cover.skip + r.count - (cover.count - 1) * k.sectorsize =
    ap (λ (m : ℕ). k.sectorsize - (m - (cover.skip + r.count))) middle
    ∙ from_there k.sectorsize cover.count cover.whole (cover.skip + r.count) is.whole is.some is.covers is.least in
    record {
      fills = whole_of k r cover (length news) is all;
      written = ap (λ (m : ℕ). take r.count (drop m news)) (sym is.skip) ∙ still_there cover.skip r.count olds mids news front.rest back.rest;
      front = λ some. front_of k c r cover mids news is back.rest (front.front (subst (λ (m : ℕ). 0 < m) (sym is.skip) some));
      back = λ more. back_of k c r cover news (k.sectorsize - (length mids - (cover.skip + r.count))) is from
          (back.back (omega (arith, middle, is.whole, is.count, is.skip, more, ap (λ (m : ℕ). m * k.sectorsize) is.count)));
    }

HasBack-before : (k : Keying) (sector end : ℕ) (mids news : List ℕ) (old middle : DiskState) → Logs [] old middle → HasBack middle.content k sector end mids news → HasBack old.content k sector end mids news
HasBack-before k sector end mids news old middle logs h = subst (λ (told : Option Content). HasBack told k sector end mids news) (content-Logs old middle logs) h

-- both parts were put there
pub spliced : (k : Keying) (r : ByteRange) (cover : Cover) (olds mids news : List ℕ) (old middle new : DiskState) → IsCoverOf k r cover → length olds ≡ cover.whole
    → PutsFrontEdge k cover.first cover.skip olds mids true old middle → PutsBackEdge k (cover.first + (cover.count - 1)) (cover.skip + r.count) mids news true middle new
    → SplicesInto k r cover.skip olds news true old new
spliced k r cover olds mids news old middle new is size front back = (
  Logs-then [] [] front.0 back.0,
  back.1.size ∙ front.1.size,
  spliced_told old.content k r cover olds mids news is size front.1
      (HasBack-before k (cover.first + (cover.count - 1)) (cover.skip + r.count) mids news old middle front.0 back.1),
)

-- ---- if a sector can't be read

fault_before : (told : Option Content) (k : Keying) (r : ByteRange) (sector : ℕ) → IsEdge k r sector → IfSome told (λ c. (offset : ℕ) × (sector_reading k c sector ≡ Err offset))
    → IfSome told (λ c. (sector offset : ℕ) × IsEdge k r sector × (sector_reading k c sector ≡ Err offset))
fault_before None k r sector edge h = tt
fault_before (Some c) k r sector edge h = (sector, h.0, edge, h.1)

cannot : (k : Keying) (r : ByteRange) (sector : ℕ) (old new : DiskState) → IsEdge k r sector → EdgeFails k sector old new → CannotSplice k r old new
cannot k r sector old new edge h = elim h [ inl fails ↦ inl fails | inr read ↦ inr (read.0, fault_before old.content k r sector edge read.1) ]

FailsIn-before : (old middle new : DiskState) → Logs [] old middle → FailsIn [] middle new → FailsIn [] old new
FailsIn-before old middle new logs fails = FailsIn-then [] [] logs fails

EdgeFails-before : (k : Keying) (sector : ℕ) (old middle new : DiskState) → Logs [] old middle → EdgeFails k sector middle new → EdgeFails k sector old new
EdgeFails-before k sector old middle new logs h = elim h [
  | inl fails ↦ inl (FailsIn-before old middle new logs fails)
  | inr read ↦ inr (
    Logs-then [] [] logs read.0,
    subst (λ (told : Option Content). IfSome told (λ c. (offset : ℕ) × (sector_reading k c sector ≡ Err offset))) (content-Logs old middle logs) read.1,
  )
]

pub no_front : (k : Keying) (r : ByteRange) (cover : Cover) (olds mids : List ℕ) (old new : DiskState) → IsCoverOf k r cover
    → PutsFrontEdge k cover.first cover.skip olds mids false old new → CannotSplice k r old new
no_front k r cover olds mids old new is h =
    cannot k r cover.first old new (inl (subst (λ (m : ℕ). 0 < m) is.skip h.0, is.first)) h.1

pub no_back : (k : Keying) (r : ByteRange) (cover : Cover) (olds mids news : List ℕ) (old middle new : DiskState) → IsCoverOf k r cover → length olds ≡ cover.whole
    → PutsFrontEdge k cover.first cover.skip olds mids true old middle → PutsBackEdge k (cover.first + (cover.count - 1)) (cover.skip + r.count) mids news false middle new
    → CannotSplice k r old new
no_back k r cover olds mids news old middle new is size front back =
    let more : skipped k r + r.count < sectors_covered k r * k.sectorsize =
    omega (arith, back.0, front.1.size, size, is.whole, is.skip, ap (λ (m : ℕ). m * k.sectorsize) is.count) in
    cannot k r (cover.first + (cover.count - 1)) old new
    (inr (more, (λ i. is.first i + (is.count i - 1))))
    (EdgeFails-before k (cover.first + (cover.count - 1)) old middle new front.0 back.1)

pub has_cover : (k : Keying) (d : DiskState) (r : ByteRange) (cover : Cover) → IsCoverOf k r cover → IsInside k d r → (cover.first + 1 ≤ media k d) × (cover.first + (cover.count - 1) + 1 ≤ media k d)
has_cover k d r cover is inside = let all = sectors_inside k d r cover is inside in (omega (arith, all, is.some), omega (arith, all, is.some))

pub media_kept : (k : Keying) (events : List Event) (old new : DiskState) → Logs events old new → media k new ≡ media k old
media_kept k events old new logs = ap (λ (n : ℕ). media_sectors k.auth k.sectorsize (512 * n)) logs.size

pub media_same : (k other : Keying) (old new : DiskState) → other ≡ k → Logs [] old new → media other new ≡ media k old
media_same k other old new same logs = ap (λ (key : Keying). media key new) same ∙ media_kept k [] old new logs

-- the last sector is there
pub last_there : (k other : Keying) (old new : DiskState) (r : ByteRange) (cover : Cover) → other ≡ k → Logs [] old new → IsCoverOf k r cover → IsInside k old r → cover.first + (cover.count - 1) + 1 ≤ media other new
last_there k other old new r cover same logs is inside = omega (arith, media_same k other old new same logs, (has_cover k old r cover is inside).1)

-- all sectors of a range are there
pub all_there : (k other : Keying) (old new : DiskState) (r : ByteRange) (cover : Cover) → other ≡ k → Logs [] old new → IsCoverOf k r cover → IsInside k old r → cover.first + cover.count ≤ media other new
all_there k other old new r cover same logs is inside = omega (arith, media_same k other old new same logs, sectors_inside k old r cover is inside)

-- what putting the second part returns, once the first part is there
pub splices_by : (answer : Bool) (k other : Keying) (r : ByteRange) (cover : Cover) (olds mids news : List ℕ) (old middle new : DiskState) → other ≡ k → IsCoverOf k r cover → length olds ≡ cover.whole
    → PutsFrontEdge k cover.first cover.skip olds mids true old middle → PutsBackEdge other (cover.first + (cover.count - 1)) (cover.skip + r.count) mids news answer middle new
    → SplicesInto k r cover.skip olds news answer old new
splices_by true k other r cover olds mids news old middle new same is size front back =
    spliced k r cover olds mids news old middle new is size front
    (subst (λ (key : Keying). PutsBackEdge key (cover.first + (cover.count - 1)) (cover.skip + r.count) mids news true middle new) same back)
splices_by false k other r cover olds mids news old middle new same is size front back =
    no_back k r cover olds mids news old middle new is size front
    (subst (λ (key : Keying). PutsBackEdge key (cover.first + (cover.count - 1)) (cover.skip + r.count) mids news false middle new) same back)
