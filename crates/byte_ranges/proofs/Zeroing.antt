-- Zeros that are written piece by piece, and what stands beside them.
use Rattle.std.proofs.Common.{◌≡◌, ◌∙◌, ℕ, ◌+◌, ◌-◌, ◌*◌, ◌^◌, ◌<◌, ◌≤◌, Bool, true, false, List, [], ◌++◌, length, take, drop, replicate, Option, None, Some, IfSome, ap, sym, subst, arith, append_assoc, length-append, length-drop, length-take-le}
use Rattle.std.proofs.Math.Nat.{add-mul, div-le_self, mul-le-mul_right}
use Rattle.std.proofs.Math.Seq.{drop-append-add, take-append-add, take-append_seam}
use Rattle.std.proofs.lemmas.List.{drop-replicate, drop-take, length-replicate, replicate-append-replicate, take-append-drop, take-replicate, take-take}
use Rattle.aes_core.specs.Schedule.{AreBytes}
use Rattle.aes_core.proofs.KeyBytes.{AreBytes-append, AreBytes-zeros}
use Rattle.block_traits.specs.Content.{Content}
use Rattle.block_traits.specs.Disk.{Continues, DiskState, FailsIn, Logs}
use Rattle.block_traits.specs.declared.disk.Event.{Event}
use Rattle.block_traits.proofs.Logs.{Continues-then, FailsIn-part}
use Rattle.eli_base.specs.Keying.{Keying}
use Rattle.eli_base.specs.Units.{media_sectors}
use Rattle.provider.specs.Attached.{Attached, IsKept, media}
use Rattle.sealing.specs.Sectors.{units}
use Rattle.sector_runs.specs.Writing.{data_writes}
use Rattle.sector_runs.proofs.Adjoining.{data_writes-more}
use Rattle.byte_ranges.specs.Edges.{HasBack, HasFront, PutsFrontEdge}
use Rattle.byte_ranges.specs.Ranges.{IsCoverOf, SectorHas}
use Rattle.byte_ranges.specs.Writes.{FlushesWhere, IsWrittenInPart, LogsOrFails, SplicesInto, WritesRange}
use Rattle.byte_ranges.specs.Zeros.{FindsEdges, ReadsLastEdge, after_zeros, with_zeros}
use Rattle.byte_ranges.specs.declared.cover.Cover.{Cover}
use Rattle.byte_ranges.specs.declared.ranges.ByteRange.{ByteRange}
use Rattle.byte_ranges.specs.declared.splices.Written.{Written}
use Rattle.byte_ranges.proofs.Splicing.{no_back, spliced}
use Rattle.byte_ranges.proofs.Writing.{part_written, writes_by}

-- ---- lists

length-with_zeros : (all : ℕ) (front back : List ℕ) → length front + length back ≤ all → length (with_zeros all front back) ≡ all
length-with_zeros all front back fits =
    let n : ℕ = all - length front - length back in
    length-append front (replicate n 0 ++ back)
    ∙ ap (λ (m : ℕ). length front + m) (length-append (replicate n 0) back ∙ ap (λ (m : ℕ). m + length back) (length-replicate n 0))
    ∙ omega (arith, fits)

AreBytes-with_zeros : (all : ℕ) (front back : List ℕ) → AreBytes front → AreBytes back → AreBytes (with_zeros all front back)
AreBytes-with_zeros all front back fronts backs =
    let n : ℕ = all - length front - length back in
    AreBytes-append front (replicate n 0 ++ back) fronts (AreBytes-append (replicate n 0) back (AreBytes-zeros n) backs)

-- what comes first, and what comes after it
take-front : (skip n : ℕ) (front more : List ℕ) → length front ≡ skip → take (skip + n) (front ++ more) ≡ front ++ take n more
take-front skip n front more long = ap (λ (m : ℕ). take (m + n) (front ++ more)) (sym long) ∙ take-append-add front more n

-- what comes after a front is the same as far as that
same_after : (skip n : ℕ) (front more other : List ℕ) → length front ≡ skip → take n more ≡ take n other → take (skip + n) (front ++ more) ≡ take (skip + n) (front ++ other)
same_after skip n front more other long same =
    take-front skip n front more long ∙ ap (λ (l : List ℕ). front ++ l) same ∙ sym (take-front skip n front other long)

drop-front : (skip n : ℕ) (front more : List ℕ) → length front ≡ skip → drop (skip + n) (front ++ more) ≡ drop n more
drop-front skip n front more long = ap (λ (m : ℕ). drop (m + n) (front ++ more)) (sym long) ∙ drop-append-add front more n

front_itself : (skip : ℕ) (front more : List ℕ) → length front ≡ skip → take skip (front ++ more) ≡ front
front_itself skip front more long = ap (λ (m : ℕ). take m (front ++ more)) (sym long) ∙ take-append_seam front more

behind_itself : (skip : ℕ) (front more : List ℕ) → length front ≡ skip → drop skip (front ++ more) ≡ more
behind_itself skip front more long = ap (λ (m : ℕ). drop m (front ++ more)) (omega (arith, long)) ∙ drop-append-add front more 0

-- only zeros are left
pub all_zeros : (n : ℕ) (bytes : List ℕ) → bytes ≡ replicate n 0 → drop 0 bytes ≡ replicate (length bytes - 0) 0
all_zeros n bytes same = same ∙ ap (λ (m : ℕ). replicate m 0) (omega (arith, ap length same, length-replicate {A = ℕ} n 0))

-- ---- pieces

-- zeros after a front, of which the first are in a piece
zeros_parted : (n here rest : ℕ) (front back whole : List ℕ) → n ≡ here + rest → front ++ replicate here 0 ≡ whole → front ++ (replicate n 0 ++ back) ≡ whole ++ (replicate rest 0 ++ back)
zeros_parted n here rest front back whole split same =
    let parted : replicate n 0 ≡ replicate here 0 ++ replicate rest 0 = ap (λ (m : ℕ). replicate m 0) split ∙ sym (replicate-append-replicate here rest 0) in
    ap (λ (l : List ℕ). front ++ (l ++ back)) parted
    ∙ ap (λ (l : List ℕ). front ++ l) (append_assoc (replicate here 0) (replicate rest 0) back)
    ∙ sym (append_assoc front (replicate here 0) (replicate rest 0 ++ back))
    ∙ ap (λ (l : List ℕ). l ++ (replicate rest 0 ++ back)) same

zeros_between : (n m : ℕ) (front back first : List ℕ) → first ≡ front ++ replicate n 0 → n ≡ m → first ++ back ≡ front ++ (replicate m 0 ++ back)
zeros_between n m front back first same many =
    ap (λ (l : List ℕ). l ++ back) same ∙ append_assoc front (replicate n 0) back ∙ ap (λ (j : ℕ). front ++ (replicate j 0 ++ back)) many

-- the bytes of a piece, and those of the sectors after it
bytes_of_piece : (size many count skip : ℕ) (sectors back : List ℕ) → length sectors ≡ many * size → skip ≤ length sectors → drop skip sectors ≡ replicate (length sectors - skip) 0
    → many < count → length back < size → with_zeros (count * size) (take skip sectors) back ≡ sectors ++ with_zeros ((count - many) * size) [] back
bytes_of_piece size many count skip sectors back room within zeros more few =
    let front : List ℕ = take skip sectors in
    let none : List ℕ = [] in
    let long : length front ≡ skip = length-take-le skip sectors within in
    let parts : count ≡ many + (count - many) = omega (arith, more) in
    let all : count * size ≡ many * size + (count - many) * size = ap (λ (m : ℕ). m * size) parts ∙ add-mul many (count - many) size in
    let some : 1 * size ≤ (count - many) * size = mul-le-mul_right {m = 1} {n = count - many} size (omega (arith, more)) in
    let here : ℕ = length sectors - skip in
    let rest : ℕ = (count - many) * size - length none - length back in
    let split : count * size - length front - length back ≡ here + rest = omega (arith, long, all, room, within, some, few) in
    let first : front ++ replicate here 0 ≡ sectors = ap (λ (l : List ℕ). front ++ l) (sym zeros) ∙ take-append-drop skip sectors in
    zeros_parted (count * size - length front - length back) here rest front back sectors split first

-- the bytes of the last piece
bytes_of_rest : (size many count skip : ℕ) (sectors back : List ℕ) → length sectors ≡ many * size → drop skip sectors ≡ replicate (length sectors - skip) 0
    → count ≤ many → skip + length back ≤ count * size
    → take (length (take (count * size) sectors) - length back) (take (count * size) sectors) ++ back ≡ with_zeros (count * size) (take skip sectors) back
bytes_of_rest size many count skip sectors back room zeros fewer fits =
    let all : ℕ = count * size in
    let inside : all ≤ many * size = mul-le-mul_right {m = count} {n = many} size fewer in
    let front : List ℕ = take skip sectors in
    let long : length front ≡ skip = length-take-le skip sectors (omega (arith, room, inside, fits)) in
    let end : ℕ = length (take all sectors) - length back in
    let whole : length (take all sectors) ≡ all = length-take-le all sectors (omega (arith, room, inside)) in
    let place : end ≡ skip + (end - skip) = omega (arith, whole, fits) in
    let here : take end (take all sectors) ≡ front ++ replicate (end - skip) 0 =
    take-take end all sectors (omega (arith, whole))
    ∙ ap (take end) (sym (take-append-drop skip sectors))
    ∙ ap (λ (m : ℕ). take m (front ++ drop skip sectors)) place
    ∙ take-front skip (end - skip) front (drop skip sectors) long
    ∙ ap (λ (l : List ℕ). front ++ take (end - skip) l) zeros
    ∙ ap (λ (l : List ℕ). front ++ l) (take-replicate (end - skip) (length sectors - skip) 0 (omega (arith, whole, room, inside, fits))) in
    zeros_between (end - skip) (all - length front - length back) front back (take end (take all sectors)) here (omega (arith, whole, long, fits))

-- what is left of the writes is a piece and what comes after it
pub next_piece : (k : Keying) (first many count skip : ℕ) (sectors back : List ℕ) (all : List Event) (middle start : DiskState) → length sectors ≡ many * k.sectorsize → skip ≤ length sectors
    → drop skip sectors ≡ replicate (length sectors - skip) 0 → many < count → length back < k.sectorsize
    → Continues (data_writes k first count (with_zeros (count * k.sectorsize) (take skip sectors) back)) all middle start
    → Continues (data_writes k first many sectors ++ data_writes k (first + many) (count - many) (with_zeros ((count - many) * k.sectorsize) [] back)) all middle start
next_piece k first many count skip sectors back all middle start room within zeros more few continues =
    let rest : List ℕ = with_zeros ((count - many) * k.sectorsize) [] back in
    let parts : count ≡ many + (count - many) = omega (arith, more) in
    let events : data_writes k first count (with_zeros (count * k.sectorsize) (take skip sectors) back) ≡ data_writes k first many sectors ++ data_writes k (first + many) (count - many) rest =
    ap (data_writes k first count) (bytes_of_piece k.sectorsize many count skip sectors back room within zeros more few)
    ∙ ap (λ (n : ℕ). data_writes k first n (sectors ++ rest)) parts
    ∙ data_writes-more k first many (count - many) sectors rest room in
    subst (λ (e : List Event). Continues e all middle start) events continues

-- a piece was written, and the writes after it are left
pub piece_written : (k other : Keying) (first many count : ℕ) (sectors behind : List ℕ) (all : List Event) (middle start new : DiskState) → other ≡ k
    → Continues (data_writes k first many sectors ++ data_writes k (first + many) (count - many) behind) all middle start → Logs (data_writes other first many sectors) middle new
    → Continues (data_writes k (first + many) (count - many) behind) all new start
piece_written k other first many count sectors behind all middle start new same continues logs =
    Continues-then (data_writes k first many sectors) (data_writes k (first + many) (count - many) behind) all continues
    (subst (λ (key : Keying). Logs (data_writes key first many sectors) middle new) same logs)

-- a piece failed
pub piece_failed : (k other : Keying) (first many count : ℕ) (sectors behind : List ℕ) (all : List Event) (middle start new : DiskState) → other ≡ k
    → Continues (data_writes k first many sectors ++ data_writes k (first + many) (count - many) behind) all middle start → FailsIn (data_writes other first many sectors) middle new
    → FailsIn all start new
piece_failed k other first many count sectors behind all middle start new same continues fails =
    FailsIn-part (data_writes k first many sectors) (data_writes k (first + many) (count - many) behind) all continues
    (subst (λ (key : Keying). FailsIn (data_writes key first many sectors) middle new) same fails)

ends_all : (answer : Bool) (left all : List Event) (middle start new : DiskState) → Continues left all middle start → LogsOrFails left answer middle new → LogsOrFails all answer start new
ends_all true left all middle start new continues h = continues.whole new h
ends_all false left all middle start new continues h = continues.part new h

-- the last piece was written, or failed
pub ends_by : (answer : Bool) (k other : Keying) (size first many count skip : ℕ) (sectors back : List ℕ) (all : List Event) (middle start new : DiskState) → other ≡ k → size ≡ k.sectorsize → length sectors ≡ many * k.sectorsize
    → drop skip sectors ≡ replicate (length sectors - skip) 0 → count ≤ many → skip + length back ≤ count * k.sectorsize
    → Continues (data_writes k first count (with_zeros (count * k.sectorsize) (take skip sectors) back)) all middle start
    → LogsOrFails (data_writes other first count (take (length (take (count * size) sectors) - length back) (take (count * size) sectors) ++ back)) answer middle new
    → LogsOrFails all answer start new
ends_by answer k other size first many count skip sectors back all middle start new same is room zeros fewer fits continues h =
    ends_all answer (data_writes k first count (with_zeros (count * k.sectorsize) (take skip sectors) back)) all middle start new continues
    (subst (λ (l : List ℕ). LogsOrFails (data_writes k first count l) answer middle new) (bytes_of_rest k.sectorsize many count skip sectors back room zeros fewer fits)
    (subst (λ (n : ℕ). LogsOrFails (data_writes k first count (take (length (take (count * n) sectors) - length back) (take (count * n) sectors) ++ back)) answer middle new) is
    (subst (λ (key : Keying). LogsOrFails (data_writes key first count (take (length (take (count * size) sectors) - length back) (take (count * size) sectors) ++ back)) answer middle new) same h)))

pub one_more : (count many size n : ℕ) → many < count → n < size → n ≤ (count - many) * size
one_more count many size n more few = let some : 1 * size ≤ (count - many) * size = mul-le-mul_right {m = 1} {n = count - many} size (omega (arith, more)) in omega (arith, some, few)

-- a sector's bytes are some of those of all
pub within_room : (skip size many all : ℕ) → skip < size → 1 ≤ many → all ≡ many * size → skip ≤ all
within_room skip size many all few some room = let one : 1 * size ≤ many * size = mul-le-mul_right {m = 1} {n = many} size some in omega (arith, one, few, room)

pub IsKept-then : {D : Type 0} (old middle new : Attached D) → IsKept old middle → IsKept middle new → IsKept old new
IsKept-then old middle new a b = record { keying = b.keying ∙ a.keying; slot = b.slot ∙ a.slot; readonly = b.readonly ∙ a.readonly }

-- the number of a sector fits its type
pub media_small : (k : Keying) (d : DiskState) → media k d < 2 ^ 64
media_small k d = let most : media k d ≤ 512 * d.size - 512 = div-le_self (512 * d.size - 512) (512 * units k) in omega (arith, most, d.well_formed.bound)

pub still_there : (k other : Keying) (old new : DiskState) (n : ℕ) → other ≡ k → new.size ≡ old.size → n ≤ media k old → n ≤ media other new
still_there k other old new n same size inside =
    subst (λ (m : ℕ). n ≤ media_sectors other.auth other.sectorsize (512 * m)) (sym size) (subst (λ (key : Keying). n ≤ media key old) (sym same) inside)

-- ---- edges

front_told : (told : Option Content) (k : Keying) (sector skip : ℕ) (mids more : List ℕ) → length (take skip mids) ≡ skip
    → IfSome told (λ c. (there : List ℕ) × SectorHas k c sector there × (take skip mids ≡ take skip there))
    → IfSome told (λ c. (there : List ℕ) × SectorHas k c sector there × (take skip (take skip mids ++ more) ≡ take skip there))
front_told None k sector skip mids more long h = tt
front_told (Some c) k sector skip mids more long h = (h.0, h.1, front_itself skip (take skip mids) more long ∙ h.2)

-- what comes before the zeros, among as many bytes as all sectors have
front_there : (told : Option Content) (k : Keying) (sector skip all : ℕ) (olds mids : List ℕ) → skip ≤ length olds → skip ≤ all → HasFront told k sector skip olds mids
    → HasFront told k sector skip (replicate all 0) (take skip mids ++ replicate (all - skip) 0)
front_there told k sector skip all olds mids within fits h =
    let front : List ℕ = take skip mids in
    let long : length front ≡ skip = length-take-le skip mids (omega (arith, h.size, within)) in
    record {
      size = length-append front (replicate (all - skip) 0) ∙ omega (arith, long, length-replicate {A = ℕ} (all - skip) 0, length-replicate {A = ℕ} all 0, fits);
      rest = behind_itself skip front (replicate (all - skip) 0) long ∙ sym (drop-replicate skip all 0);
      front = λ some. front_told told k sector skip mids (replicate (all - skip) 0) long (h.front some);
    }

back_told : (told : Option Content) (k : Keying) (sector left from : ℕ) (edge news : List ℕ) → left ≤ k.sectorsize → from ≡ k.sectorsize - left → news ≡ after_zeros k left edge
    → IfSome told (λ c. SectorHas k c sector (take k.sectorsize edge))
    → IfSome told (λ c. (there : List ℕ) × SectorHas k c sector there × (news ≡ drop from there))
back_told None k sector left from edge news within place same h = tt
back_told (Some c) k sector left from edge news within place same h =
    let all : k.sectorsize - left + left ≡ k.sectorsize = omega (arith, within) in (
      take k.sectorsize edge,
      h,
      same
          ∙ sym (drop-take (k.sectorsize - left) left edge)
          ∙ ap (λ (n : ℕ). drop (k.sectorsize - left) (take n edge)) all
          ∙ ap (λ (n : ℕ). drop n (take k.sectorsize edge)) (sym place),
    )

length-after_zeros : (k : Keying) (left : ℕ) (edge : List ℕ) → length edge ≡ 65536 → k.sectorsize ≤ 65536 → left ≤ k.sectorsize → length (after_zeros k left edge) ≡ left
length-after_zeros k left edge long small within =
    length-take-le left (drop (k.sectorsize - left) edge) (omega (arith, length-drop (k.sectorsize - left) edge, long, small, within))

-- zeros before other bytes
zeros_first : (n m : ℕ) (back : List ℕ) → m ≡ n → take n (replicate m 0 ++ back) ≡ replicate n 0
zeros_first n m back many = ap (λ (j : ℕ). take n (replicate j 0 ++ back)) many ∙ front_itself n (replicate n 0) back (length-replicate n 0)

behind_zeros : (n m : ℕ) (back : List ℕ) → m ≡ n → drop n (replicate m 0 ++ back) ≡ back
behind_zeros n m back many = ap (λ (j : ℕ). drop n (replicate j 0 ++ back)) many ∙ behind_itself n (replicate n 0) back (length-replicate n 0)

-- what comes after the zeros, among as many bytes as all sectors have
back_there : (told : Option Content) (k : Keying) (sector skip n left all : ℕ) (front edge : List ℕ) → length front ≡ skip → skip + n + left ≡ all → left ≤ k.sectorsize → k.sectorsize ≤ 65536 → length edge ≡ 65536
    → (0 < left → IfSome told (λ c. SectorHas k c sector (take k.sectorsize edge)))
    → HasBack told k sector (skip + n) (front ++ replicate (all - skip) 0) (with_zeros all front (after_zeros k left edge))
back_there told k sector skip n left all front edge long sum within small room h =
    let back : List ℕ = after_zeros k left edge in
    let few : length back ≡ left = length-after_zeros k left edge room small within in
    let many : all - length front - length back ≡ n = omega (arith, long, few, sum) in
    let whole : length (front ++ replicate (all - skip) 0) ≡ all = length-append front (replicate (all - skip) 0) ∙ omega (arith, long, length-replicate {A = ℕ} (all - skip) 0, sum) in
    let zeros = zeros_first n (all - length front - length back) back many in
    let behind = behind_zeros n (all - length front - length back) back many in
    record {
      size = length-with_zeros all front back (omega (arith, long, few, sum)) ∙ sym whole;
      rest = same_after skip n front (replicate (all - length front - length back) 0 ++ back) (replicate (all - skip) 0) long
          (zeros ∙ sym (take-replicate n (all - skip) 0 (omega (arith, sum))));
      back = λ more. back_told told k sector left (k.sectorsize - (length (front ++ replicate (all - skip) 0) - (skip + n))) edge
          (drop (skip + n) (with_zeros all front back)) within (omega (arith, whole, sum))
          (drop-front skip n front (replicate (all - length front - length back) 0 ++ back) long ∙ behind) (h (omega (arith, more, whole, sum)));
    }

-- what reading the last sector says, once what comes before the zeros is there
pub finds_by : (answer : Bool) (k other : Keying) (r : ByteRange) (cover : Cover) (left : ℕ) (olds mids edge : List ℕ) (old middle new : DiskState) → other ≡ k → IsCoverOf k r cover → cover.skip + r.count + left ≡ cover.whole
    → cover.skip ≤ length olds → k.sectorsize ≤ 65536 → length edge ≡ 65536 → PutsFrontEdge k cover.first cover.skip olds mids true old middle
    → ReadsLastEdge other (cover.first + (cover.count - 1)) left edge answer middle new → FindsEdges k r cover left olds mids edge answer old new
finds_by true k other r cover left olds mids edge old middle new same is sum within small room front last =
    let zeros : List ℕ = replicate cover.whole 0 in
    let here : List ℕ = take cover.skip mids in
    let long : length here ≡ cover.skip = length-take-le cover.skip mids (omega (arith, front.1.size, within)) in
    let last_is : ReadsLastEdge k (cover.first + (cover.count - 1)) left edge true middle new =
    subst (λ (key : Keying). ReadsLastEdge key (cover.first + (cover.count - 1)) left edge true middle new) same last in (
      front.1.size,
      front.1.rest,
      spliced k r cover zeros (here ++ replicate (cover.whole - cover.skip) 0) (with_zeros cover.whole here (after_zeros k left edge)) old middle new is (length-replicate cover.whole 0)
          (front.0, front_there old.content k cover.first cover.skip cover.whole olds mids within (omega (arith, sum)) front.1)
          (last_is.0, back_there middle.content k (cover.first + (cover.count - 1)) cover.skip r.count left cover.whole here edge long sum (omega (arith, sum, is.least)) small room last_is.1),
    )
finds_by false k other r cover left olds mids edge old middle new same is sum within small room front last =
    let zeros : List ℕ = replicate cover.whole 0 in
    let here : List ℕ = take cover.skip mids in
    let long : length here ≡ cover.skip = length-take-le cover.skip mids (omega (arith, front.1.size, within)) in
    let between : List ℕ = here ++ replicate (cover.whole - cover.skip) 0 in
    let whole : length between ≡ cover.whole = length-append here (replicate (cover.whole - cover.skip) 0) ∙ omega (arith, long, length-replicate {A = ℕ} (cover.whole - cover.skip) 0, sum) in
    let last_is : ReadsLastEdge k (cover.first + (cover.count - 1)) left edge false middle new =
    subst (λ (key : Keying). ReadsLastEdge key (cover.first + (cover.count - 1)) left edge false middle new) same last in
    no_back k r cover zeros between between old middle new is (length-replicate cover.whole 0)
    (front.0, front_there old.content k cover.first cover.skip cover.whole olds mids within (omega (arith, sum)) front.1)
    (omega (arith, whole, sum, last_is.0), last_is.1)

-- ---- ranges

-- the bytes after the zeros, as they stand in the last sector
pub back_is : (k : Keying) (size left : ℕ) (edge : List ℕ) → size ≡ k.sectorsize → left ≤ size → take (size - (size - left)) (drop (size - left) edge) ≡ after_zeros k left edge
back_is k size left edge is within =
    ap (λ (m : ℕ). take m (drop (size - left) edge)) (omega (arith, within)) ∙ ap (λ (m : ℕ). take left (drop (m - left) edge)) is

-- what the sectors of a range of zeros are given
pub given : (k other : Keying) (cover : Cover) (r : ByteRange) (size left : ℕ) (found edge : List ℕ) → other ≡ k → IsCoverOf k r cover → size ≡ k.sectorsize → left ≤ size
    → with_zeros (cover.count * other.sectorsize) (take cover.skip found) (take (size - (size - left)) (drop (size - left) edge)) ≡ with_zeros cover.whole (take cover.skip found) (after_zeros k left edge)
given k other cover r size left found edge same is there within =
    ap (λ (key : Keying). with_zeros (cover.count * key.sectorsize) (take cover.skip found) (take (size - (size - left)) (drop (size - left) edge))) same
    ∙ ap (λ (n : ℕ). with_zeros n (take cover.skip found) (take (size - (size - left)) (drop (size - left) edge))) (sym is.whole)
    ∙ ap (with_zeros cover.whole (take cover.skip found)) (back_is k size left edge there within)

range_zeros : (skip n all : ℕ) → skip + n ≤ all → take {A = ℕ} n (drop skip (replicate all 0)) ≡ replicate n 0
range_zeros skip n all inside = ap (λ (l : List ℕ). take n l) (drop-replicate skip all 0) ∙ take-replicate n (all - skip) 0 (omega (arith, inside))

-- the zeros were written, and what flushing says of it
pub zeroed_by : (answer : Written) (k other : Keying) (r : ByteRange) (flush : Bool) (cover : Cover) (front back sectors : List ℕ) (old middle third new : DiskState) → other ≡ k → IsCoverOf k r cover
    → AreBytes front → AreBytes back → SplicesInto k r cover.skip (replicate cover.whole 0) (with_zeros cover.whole front back) true old middle
    → sectors ≡ with_zeros cover.whole front back → Logs (data_writes other cover.first cover.count sectors) middle third → FlushesWhere flush answer third new
    → WritesRange k r flush (replicate r.count 0) answer old new
zeroed_by answer k other r flush cover front back sectors old middle third new same is fronts backs splices are writes flushes =
    let whole : List ℕ = with_zeros cover.whole front back in
    subst (λ (l : List ℕ). WritesRange k r flush l answer old new) (range_zeros cover.skip r.count cover.whole is.covers)
    (writes_by answer k other r flush cover (replicate cover.whole 0) whole old middle third new same is (length-replicate cover.whole 0) (AreBytes-with_zeros cover.whole front back fronts backs) splices
    (subst (λ (l : List ℕ). Logs (data_writes other cover.first cover.count l) middle third) are writes) flushes)

-- only a part of the zeros was written
pub zeroed_in_part : (k other : Keying) (r : ByteRange) (flush : Bool) (cover : Cover) (front back sectors : List ℕ) (old middle new : DiskState) → other ≡ k → IsCoverOf k r cover
    → AreBytes front → AreBytes back → SplicesInto k r cover.skip (replicate cover.whole 0) (with_zeros cover.whole front back) true old middle
    → sectors ≡ with_zeros cover.whole front back → FailsIn (data_writes other cover.first cover.count sectors) middle new
    → IsWrittenInPart k r flush (replicate r.count 0) old new
zeroed_in_part k other r flush cover front back sectors old middle new same is fronts backs splices are fails =
    let whole : List ℕ = with_zeros cover.whole front back in
    subst (λ (l : List ℕ). IsWrittenInPart k r flush l old new) (range_zeros cover.skip r.count cover.whole is.covers)
    (part_written k r flush cover (replicate cover.whole 0) whole old middle new is (length-replicate cover.whole 0) (AreBytes-with_zeros cover.whole front back fronts backs) splices
    (subst (λ (l : List ℕ). FailsIn (data_writes k cover.first cover.count l) middle new) are
    (subst (λ (key : Keying). FailsIn (data_writes key cover.first cover.count sectors) middle new) same fails)))
