-- Units that are listed one after the other.
use Rattle.std.proofs.Common.{◌≡◌, ◌⊎◌, inl, inr, ℕ, zero, suc, ◌+◌, ◌-◌, ◌*◌, ◌/◌, ◌^◌, ◌<◌, ◌≤◌, Bool, true, false, cond, List, [], ◌∷◌, ◌++◌, length, take, drop, All, Option, Some, None, Result, Ok, Err, IsErr, is_ok, refl, sym, ap, subst, ◌∙◌, arith, add-zero, append-nil, append_assoc, length-append}
use Rattle.std.proofs.Math.Nat.{div-mul-le_self, mul-le-mul_right}
use Rattle.std.proofs.lemmas.List.{drop-drop, length-drop, length-take-le, take-append-drop, take_all, take_at}
use Rattle.std.proofs.lemmas.List.Elements.{All-append, All-cons, All-nil}
use Rattle.std.proofs.lemmas.Slice.{drop-append-drop}
use borrow.Rule.Slice.PartMut.{put_mid}
use Rattle.block_traits.specs.Content.{Content, IsSector, present}
use Rattle.block_traits.specs.Disk.{DiskState, GivesEach, GivesEachFrom, GivesFrom, Logs}
use Rattle.block_traits.specs.Causes.{Counted}
use Rattle.block_traits.specs.Parts.{part, parts}
use Rattle.block_traits.specs.declared.disk.DiskFailed.{DiskFailed}
use Rattle.block_traits.proofs.Causes.{Counted-then}
use Rattle.block_traits.proofs.Logs.{Logs-then, content-Logs}
use Rattle.block_traits.proofs.PartLists.{length-parts}
use Rattle.eli_base.specs.Keying.{Keying}
use Rattle.eli_base.specs.Units.{media_sectors}
use Rattle.sector_runs.specs.Reading.{StandFrom, standing}
use Rattle.sector_runs.specs.Reads.{FailsAmong}
use Rattle.sector_runs.specs.Verdicts.{Judges, verdict}
use Rattle.sector_runs.specs.declared.judged.Judged.{Judged}
use Rattle.sector_runs.proofs.Cuts.{parts-add}
use Rattle.sector_runs.proofs.Data.{StandFrom-each}
use Rattle.range_keys.specs.Keys.{le64}
use Rattle.sealing.specs.Sectors.{unit_reading_at, units}
use Rattle.verify_sweep.specs.Sweeping.{Lists, ListsFailing, Looks, Sweep, SweepAnswers, failing_units, faults_in, le64s, unit_readings_at, refused_at, sectors_swept}
use Rattle.verify_sweep.specs.declared.sweeping.Swept.{Swept}

-- ---- lists of units and of numbers, one after the other

pub unit_readings_at-append : (k : Keying) (n : ℕ) (front behind : List (List ℕ)) → unit_readings_at k n (front ++ behind) ≡ unit_readings_at k n front ++ unit_readings_at k (n + length front) behind
unit_readings_at-append k n [] behind = ap (λ (m : ℕ). unit_readings_at k m behind) (sym (add-zero n))
unit_readings_at-append k n (sector ∷ front) behind =
    let at : n + 1 + length front ≡ n + suc (length front) = omega arith in
    ap (λ (l : List (Result (List ℕ) ℕ)). unit_reading_at k n sector ∷ l) (unit_readings_at-append k (n + 1) front behind
    ∙ ap (λ (m : ℕ). unit_readings_at k (n + 1) front ++ unit_readings_at k m behind) at)

faults_in-append : (front behind : List (Result (List ℕ) ℕ)) → faults_in (front ++ behind) ≡ faults_in front ++ faults_in behind
faults_in-append [] behind = refl
faults_in-append (Ok bytes ∷ front) behind = faults_in-append front behind
faults_in-append (Err offset ∷ front) behind = ap (λ (l : List ℕ). offset ∷ l) (faults_in-append front behind)

pub failing_units-append : (k : Keying) (n : ℕ) (front behind : List (List ℕ)) → failing_units k n (front ++ behind) ≡ failing_units k n front ++ failing_units k (n + length front) behind
failing_units-append k n front behind = ap faults_in (unit_readings_at-append k n front behind) ∙ faults_in-append (unit_readings_at k n front) (unit_readings_at k (n + length front) behind)

le64s-append : (front behind : List ℕ) → le64s (front ++ behind) ≡ le64s front ++ le64s behind
le64s-append [] behind = refl
le64s-append (n ∷ front) behind = ap (λ (l : List ℕ). le64 n ++ l) (le64s-append front behind) ∙ sym (append_assoc (le64 n) (le64s front) (le64s behind))

length-le64s : (ns : List ℕ) → length (le64s ns) ≡ 8 * length ns
length-le64s [] = refl
length-le64s (n ∷ ns) = length-append (le64 n) (le64s ns) ∙ (let all : 8 + length (le64s ns) ≡ 8 * suc (length ns) = omega (arith, length-le64s ns) in all)

-- ---- one device sector: it is accepted, or it fails at its own byte offset

-- what is listed of a device sector and of those after it
faults-of : (test : Bool) (bytes : List ℕ) (offset : ℕ) (readings : List (Result (List ℕ) ℕ)) →
    let r : Result (List ℕ) ℕ = cond test (Ok bytes) (Err offset) in
    ((is_ok r ≡ true) × (faults_in (r ∷ readings) ≡ faults_in readings)) ⊎ ((r ≡ Err offset) × (faults_in (r ∷ readings) ≡ offset ∷ faults_in readings))
faults-of true bytes offset readings = inl (refl, refl)
faults-of false bytes offset readings = inr (refl, refl)

pub failing-of : (k : Keying) (n : ℕ) (sector : List ℕ) (sectors : List (List ℕ)) →
    ((is_ok (unit_reading_at k n sector) ≡ true) × (failing_units k n (sector ∷ sectors) ≡ failing_units k (n + 1) sectors))
    ⊎ ((unit_reading_at k n sector ≡ Err (512 * n)) × (failing_units k n (sector ∷ sectors) ≡ 512 * n ∷ failing_units k (n + 1) sectors))
failing-of k n sector sectors = faults-of _ _ (512 * n) (unit_readings_at k (n + 1) sectors)

-- ---- what is listed

-- one that fails is one that isn't accepted
failing-one : (k : Keying) (n : ℕ) (sector : List ℕ) → failing_units k n (sector ∷ []) ≡ refused_at n (is_ok (unit_reading_at k n sector) ∷ [])
failing-one k n sector = elim (failing-of k n sector []) [
  | inl fine ↦ fine.1 ∙ ap (λ (b : Bool). refused_at n (b ∷ [])) (sym fine.0)
  | inr bad ↦ bad.1 ∙ ap (λ (r : Result (List ℕ) ℕ). refused_at n (is_ok r ∷ [])) (sym bad.0)
]

-- a unit that is accepted is looked at, and nothing is listed
pub Lists-none : (n bad : ℕ) (accepted : Bool) (found : List ℕ) → accepted ≡ true → Lists (refused_at n (accepted ∷ [])) bad bad found found
Lists-none n bad accepted found so =
    let none : refused_at n (accepted ∷ []) ≡ [] = ap (λ (b : Bool). refused_at n (b ∷ [])) so in
    let front : List ℕ = take (8 * bad) found in
    let behind : List ℕ = drop (8 * bad) found in
    record {
      now_is = sym (add-zero bad) ∙ sym (ap (λ (l : List ℕ). bad + length l) none);
      listed = sym (take-append-drop (8 * bad) found) ∙ ap (λ (l : List ℕ). l ++ behind) (sym (append-nil front)) ∙ sym (ap (λ (l : List ℕ). front ++ le64s l ++ behind) none);
    }

-- the offset of one that isn't is put after the others
pub Lists-one : (n bad width : ℕ) (accepted : Bool) (found bytes : List ℕ) → accepted ≡ false → bytes ≡ le64 (512 * n) → width ≡ 8
    → Lists (refused_at n (accepted ∷ [])) bad (bad + 1) found (put_mid (8 * bad) width found bytes)
Lists-one n bad width accepted found bytes so is wide =
    let one : refused_at n (accepted ∷ []) ≡ 512 * n ∷ [] = ap (λ (b : Bool). refused_at n (b ∷ [])) so in
    let front : List ℕ = take (8 * bad) found in
    let behind : List ℕ = drop (8 * (bad + 1)) found in
    let place : 8 * bad + width ≡ 8 * (bad + 1) = omega arith in
    let left : drop width (drop (8 * bad) found) ≡ behind = drop-drop width (8 * bad) found ∙ ap (λ (m : ℕ). drop m found) place in
    record {
      now_is = sym (ap (λ (l : List ℕ). bad + length l) one);
      listed = (λ i. front ++ (is i ++ left i))
          ∙ sym (append_assoc front (le64 (512 * n)) behind)
          ∙ ap (λ (l : List ℕ). front ++ l ++ behind) (sym (append-nil (le64 (512 * n))))
          ∙ sym (ap (λ (l : List ℕ). front ++ le64s l ++ behind) one);
    }

pub Lists-nothing : (bad : ℕ) (found : List ℕ) → Lists [] bad bad found found
Lists-nothing bad found = record {
  now_is = sym (add-zero bad);
  listed = sym (take-append-drop (8 * bad) found) ∙ ap (λ (l : List ℕ). l ++ drop (8 * bad) found) (sym (append-nil (take (8 * bad) found)));
}

-- some, and others after them
Lists-then : (ns more : List ℕ) (bad now next : ℕ) (before found after : List ℕ) → 8 * bad ≤ length before → Lists ns bad now before found → Lists more now next found after
    → Lists (ns ++ more) bad next before after
Lists-then ns more bad now next before found after room one two =
    let front : List ℕ = take (8 * bad) before in
    let all : List ℕ = front ++ le64s ns in
    let first : length front ≡ 8 * bad = length-take-le (8 * bad) before room in
    let so : found ≡ all ++ drop (8 * now) before = one.listed in
    let long : length all ≡ 8 * now = length-append front (le64s ns) ∙ (let sum : length front + length (le64s ns) ≡ 8 * now = omega (arith, first, length-le64s ns, one.now_is) in sum) in
    let here : take (8 * now) found ≡ all = ap (take (8 * now)) so ∙ take_at all (drop (8 * now) before) (8 * now) long in
    let order : 8 * now ≤ 8 * next = omega (arith, two.now_is) in
    let behind : drop (8 * next) found ≡ drop (8 * next) before = ap (drop (8 * next)) so ∙ drop-append-drop (8 * now) before all (8 * next) order long in
    record {
      now_is = two.now_is ∙ (let sum : now + length more ≡ bad + length (ns ++ more) = omega (arith, one.now_is, length-append ns more) in sum);
      listed = two.listed ∙ (λ i. here i ++ le64s more ++ behind i)
          ∙ ap (λ (l : List ℕ). l ++ drop (8 * next) before) (append_assoc front (le64s ns) (le64s more) ∙ ap (λ (l : List ℕ). front ++ l) (sym (le64s-append ns more)));
    }

-- some device sectors, and more after them
pub Lists-more : (k : Keying) (n done many bad now next : ℕ) (device before found after : List ℕ) → 8 * bad ≤ length before → Lists (failing_units k n (parts 512 done device)) bad now before found
    → Lists (failing_units k (n + done) (parts 512 many (drop (512 * done) device))) now next found after → Lists (failing_units k n (parts 512 (done + many) device)) bad next before after
Lists-more k n done many bad now next device before found after room one two =
    let front : List (List ℕ) = parts 512 done device in
    let behind : List (List ℕ) = parts 512 many (drop (512 * done) device) in
    let all : failing_units k n (parts 512 (done + many) device) ≡ failing_units k n front ++ failing_units k (n + done) behind =
    ap (failing_units k n) (parts-add done many device) ∙ failing_units-append k n front behind
    ∙ ap (λ (m : ℕ). failing_units k n front ++ failing_units k (n + m) behind) (length-parts 512 done device) in
    subst (λ (l : List ℕ). Lists l bad next before after) (sym all) (Lists-then (failing_units k n front) (failing_units k (n + done) behind) bad now next before found after room one two)

-- one more that was checked
pub Lists-judged : (k : Keying) (n m bad now next : ℕ) (judged : Judged) (device before found after : List ℕ) → 8 * bad ≤ length before → Judges k n device judged → m < judged.count
    → Lists (failing_units k n (parts 512 m device)) bad now before found → Lists (refused_at (n + m) (verdict judged m ∷ [])) now next found after → Lists (failing_units k n (parts 512 (m + 1) device)) bad next before after
Lists-judged k n m bad now next judged device before found after room judges lt one two =
    let same : refused_at (n + m) (verdict judged m ∷ []) ≡ failing_units k (n + m) (parts 512 1 (drop (512 * m) device)) =
    ap (λ (b : Bool). refused_at (n + m) (b ∷ [])) (judges.each m lt) ∙ sym (failing-one k (n + m) (part 512 m device)) in
    Lists-more k n m 1 bad now next device before found after room one (subst (λ (l : List ℕ). Lists l now next found after) same two)

-- at most as many fail as there are
pub few_failing : (k : Keying) (n : ℕ) (sectors : List (List ℕ)) → length (failing_units k n sectors) ≤ length sectors
few_failing k n [] = omega arith
few_failing k n (sector ∷ sectors) =
    let rest = few_failing k (n + 1) sectors in
    let P : List ℕ → Type 0 = λ l. length l ≤ suc (length sectors) in
    elim (failing-of k n sector sectors) [
      | inl fine ↦ subst P (sym fine.1) (omega (arith, rest))
      | inr bad ↦ subst P (sym bad.1) (omega (arith, rest))
    ]

-- at most as many are listed as were looked at
pub listed_few : (k : Keying) (n count bad now : ℕ) (device before after : List ℕ) → Lists (failing_units k n (parts 512 count device)) bad now before after → now ≤ bad + count
listed_few k n count bad now device before after lists = omega (arith, lists.now_is, few_failing k n (parts 512 count device), length-parts 512 count device)

-- ---- units that were looked at

-- what one read gave
pub gives_one : (told : Option Content) (n : ℕ) (bytes : List ℕ) → length bytes ≡ 512 → GivesFrom told n bytes → GivesEachFrom told n bytes
gives_one None n bytes long gives = λ j lt. tt
gives_one (Some c) n bytes long gives = λ j lt.
    let none : 0 ≡ j = omega (arith, long, lt) in
    let here : part 512 0 bytes ≡ present c (n + 0) = take_all 512 bytes (omega (arith, long)) ∙ gives ∙ ap (present c) (sym (add-zero n)) in
    subst (λ (m : ℕ). part 512 m bytes ≡ present c (n + m)) none here

whole_parts : (count : ℕ) (bytes : List ℕ) → 512 * count ≤ length bytes → All IsSector (parts 512 count bytes)
whole_parts zero bytes room = All-nil IsSector
whole_parts (suc count) bytes room =
    All-cons IsSector (take 512 bytes) (parts 512 count (drop 512 bytes)) (length-take-le 512 bytes (omega arith)) (whole_parts count (drop 512 bytes) (omega (arith, length-drop 512 bytes)))

StandFrom-parts : (told : Option Content) (first count : ℕ) (bytes : List ℕ) → GivesEachFrom told first bytes → count ≤ length bytes / 512 → StandFrom told first count (parts 512 count bytes)
StandFrom-parts told first count bytes each fits =
    let P : ℕ → Type 0 = λ n. StandFrom told n count (parts 512 count bytes) in
    let at : first + 0 ≡ first = omega arith in
    subst P at (StandFrom-each told first 0 count bytes each (omega (arith, fits)))

pub Looks-some : (k : Keying) (n count bad now : ℕ) (bytes before after : List ℕ) (old new : DiskState) → length bytes ≡ 512 * count → GivesEach old n bytes
    → Lists (failing_units k n (parts 512 (length bytes / 512) bytes)) bad now before after → Counted count old.reads new.reads → Logs [] old new → Looks k n count bad now before after old new
Looks-some k n count bad now bytes before after old new long each lists asked logs =
    let same : length bytes / 512 ≡ count = omega (arith, long) in
    record {
      sectors = parts 512 count bytes;
      all = length-parts 512 count bytes;
      whole = whole_parts count bytes (omega (arith, long));
      stand = StandFrom-parts old.content n count bytes each (omega (arith, long));
      lists = subst (λ (m : ℕ). Lists (failing_units k n (parts 512 m bytes)) bad now before after) same lists;
      asked = asked;
      logs = logs;
    }

-- units of sectors that are there have small numbers
pub unit_small : (k : Keying) (n size : ℕ) → n ≤ media_sectors k.auth k.sectorsize (512 * size) * units k → size < 2 ^ 44 → n ≤ 2 ^ 44
unit_small k n size below small =
    let all : ℕ = 512 * size - 512 in
    let bytes : ℕ = 512 * units k in
    let media : ℕ = all / bytes in
    let whole : media * bytes ≤ all = div-mul-le_self all bytes in
    omega (arith, below, whole, small)

-- units of sectors that are there are there
pub units_within : (start n units media : ℕ) → start + n ≤ media → start * units + n * units ≤ media * units
units_within start n units media fits = let all : (start + n) * units ≤ media * units = mul-le-mul_right units fits in omega (arith, all)

-- at most as many are listed as there are
pub refused_few : (n : ℕ) (accepted : List Bool) → length (refused_at n accepted) ≤ length accepted
refused_few n [] = omega arith
refused_few n (true ∷ accepted) = omega (arith, refused_few (n + 1) accepted)
refused_few n (false ∷ accepted) = omega (arith, refused_few (n + 1) accepted)

pub length-standing : (c : Content) (n count : ℕ) → length (standing c n count) ≡ count
length-standing c n zero = refl
length-standing c n (suc count) = ap suc (length-standing c (n + 1) count)

pub standing-append : (c : Content) (n count more : ℕ) → standing c n (count + more) ≡ standing c n count ++ standing c (n + count) more
standing-append c n zero more =
    let none : zero + more ≡ more = omega arith in
    ap (standing c n) none ∙ ap (λ (m : ℕ). standing c m more) (sym (add-zero n))
standing-append c n (suc count) more =
    let all : suc count + more ≡ suc (count + more) = omega arith in
    let at : n + 1 + count ≡ n + suc count = omega arith in
    ap (standing c n) all
    ∙ ap (λ (l : List (List ℕ)). present c n ∷ l) (standing-append c (n + 1) count more ∙ ap (λ (m : ℕ). standing c (n + 1) count ++ standing c m more) at)

-- ---- some units more

listed_next : (before now after first more : List ℕ) (bad next : ℕ) → now ≡ le64s first ++ drop (8 * bad) before → bad ≡ length first → next ≡ bad + length more
    → after ≡ take (8 * bad) now ++ le64s more ++ drop (8 * next) now → after ≡ le64s (first ++ more) ++ drop (8 * next) before
listed_next before now after first more bad next so count sum is =
    let long : length (le64s first) ≡ 8 * bad = length-le64s first ∙ ap (λ (n : ℕ). 8 * n) (sym count) in
    let front : take (8 * bad) now ≡ le64s first = ap (take (8 * bad)) so ∙ take_at (le64s first) (drop (8 * bad) before) (8 * bad) long in
    let order : 8 * bad ≤ 8 * next = omega arith in
    let behind : drop (8 * next) now ≡ drop (8 * next) before = ap (drop (8 * next)) so ∙ drop-append-drop (8 * bad) before (le64s first) (8 * next) order long in
    is ∙ (λ i. front i ++ le64s more ++ behind i) ∙ sym (ap (λ (l : List ℕ). l ++ drop (8 * next) before) (le64s-append first more))

StandFrom-more : (told now : Option Content) (first i count : ℕ) (sectors more : List (List ℕ)) → now ≡ told → StandFrom told first i sectors → StandFrom now (first + i) count more
    → StandFrom told first (i + count) (sectors ++ more)
StandFrom-more None now first i count sectors more same so next = tt
StandFrom-more (Some c) now first i count sectors more same so next =
    let here : more ≡ standing c (first + i) count = subst (λ (told : Option Content). StandFrom told (first + i) count more) same next in
    (λ j. so j ++ here j) ∙ sym (standing-append c first i count)

pub ListsFailing-next : (k : Keying) (first i count bad now : ℕ) (before found after : List ℕ) (start middle last : DiskState) → ListsFailing k first i bad before found start middle
    → Looks k (first + i) count bad now found after middle last → ListsFailing k first (i + count) now before after start last
ListsFailing-next k first i count bad now before found after start middle last so one =
    let next : List ℕ = failing_units k (first + i) one.sectors in
    let more : failing_units k first (so.sectors ++ one.sectors) ≡ failing_units k first so.sectors ++ next =
    failing_units-append k first so.sectors one.sectors
    ∙ ap (λ (m : ℕ). failing_units k first so.sectors ++ failing_units k (first + m) one.sectors) so.all in
    record {
      sectors = so.sectors ++ one.sectors;
      all = length-append so.sectors one.sectors ∙ (λ j. so.all j + one.all j);
      whole = All-append IsSector so.sectors one.sectors so.whole one.whole;
      stand = StandFrom-more start.content middle.content first i count so.sectors one.sectors (content-Logs start middle so.logs) so.stand one.stand;
      bad_is = one.lists.now_is ∙ ap (λ (m : ℕ). m + length next) so.bad_is
          ∙ sym (length-append (failing_units k first so.sectors) next) ∙ sym (ap (λ (l : List ℕ). length l) more);
      listed = listed_next before found after (failing_units k first so.sectors) next bad now so.listed so.bad_is one.lists.now_is one.lists.listed
          ∙ sym (ap (λ (l : List ℕ). le64s l ++ drop (8 * now) before) more);
      asked = Counted-then i count (i + count) refl so.asked one.asked;
      logs = Logs-then [] [] so.logs one.logs;
    }

-- what is returned if a read failed
pub sweep_fails : (s : Sweep) (before after : List ℕ) (answer : Result Swept DiskFailed) (old new : DiskState) → IsErr answer → FailsAmong (sectors_swept s * units s.keying) old new → SweepAnswers s before after answer old new
sweep_fails s before after (Ok done) old new is fails = absurd cc
sweep_fails s before after (Err failed) old new is fails = fails
