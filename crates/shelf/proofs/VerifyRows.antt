-- The row of `verify`.
use Rattle.std.proofs.Common.{◌≡◌, ◌∙◌, ℕ, suc, ◌+◌, ◌-◌, ◌*◌, ◌/◌, ◌^◌, ◌<◌, ◌≤◌, Bool, true, false, cond, List, [], ◌∷◌, ◌++◌, length, drop, Some, None, IfOk, IfSome, Result, Ok, Err, refl, ap, sym, subst, arith, append_assoc, IfErr}
use Rattle.std.proofs.Math.Nat.{div-mul-le_self, mul-le-mul_right}
use Rattle.std.proofs.lemmas.Bool.Decides.{nat_tests}
use Rattle.command_rows.specs.Rows.{Holding, Reach, StoresBytes, Then, reach_of}
use Rattle.command_rows.specs.Vocabulary.{Attached, CabinetState, Counted, DiskState, EntropyState, IsAnswer, IsKept, KeepsFiles, Keying, ListsFailing, MayRefuse, Refusal, Request, Span, bytes_at, failing_units, faults_in, file_answer, has_tags, le64, le64s, media, media_sectors, refused_word, sectors_swept, sweep_at, unit_readings_at, units}
use Rattle.eli_base.specs.declared.refusals.Refusal.TheVariants as refusals
use Rattle.sector_runs.specs.Reads.{FailsAmong}
use Rattle.reply_text.specs.Text.{numbers_in}
use Rattle.reply_text.proofs.Offsets.{numbers_in-next}
use Rattle.verify_sweep.specs.declared.sweeping.Swept.{Swept}
use Rattle.command_rows.specs.verbs.Verify.{FindsPlace, ListsUnits, LoadsPlace, NeedsPlace, NeedsTags, StoresPlace, SweepsFrom, SweptPart, VerifyRow, if_inside, if_tagged, place_in, place_size, unless_absent}
use Rattle.command_rows.proofs.SweepPlaces.{is_inside}
use Rattle.shelf.specs.Shelved.{attachment_of}
use Rattle.shelf.specs.Verifying.{swept_part, without_file}
use Rattle.shelf.proofs.Rows.{Then-goes_on, Then-refused}
use Rattle.shelf.proofs.Sectors.{at, kept_holding}

-- ---- the numbers that were listed are read back

abbrev AreRead : List ℕ → List ℕ → Type 0
AreRead more ns = numbers_in (length ns) (le64s ns ++ more) ≡ ns

read_none : (more : List ℕ) → AreRead more []
unfolding numbers_in
read_none more = refl

read_one : (n : ℕ) (ns more : List ℕ) → n < 2 ^ 64 → AreRead more ns → AreRead more (n ∷ ns)
read_one n ns more small rest =
    ap (numbers_in (suc (length ns))) (append_assoc (le64 n) (le64s ns) more) ∙ numbers_in-next (length ns) n (le64s ns ++ more) small ∙ ap (λ (l : List ℕ). n ∷ l) rest

read_next : (accepted : Bool) (bytes : List ℕ) (offset : ℕ) (readings : List (Result (List ℕ) ℕ)) (more : List ℕ) → offset < 2 ^ 64 → AreRead more (faults_in readings)
    → AreRead more (faults_in ((let r : Result (List ℕ) ℕ = cond accepted (Ok bytes) (Err offset) in r) ∷ readings))
read_next true bytes offset readings more small rest = rest
read_next false bytes offset readings more small rest = read_one offset (faults_in readings) more small rest

offsets_read : (k : Keying) (n : ℕ) (sectors : List (List ℕ)) (more : List ℕ) → 512 * (n + length sectors) ≤ 2 ^ 64 → AreRead more (failing_units k n sectors)
offsets_read k n [] more small = read_none more
offsets_read k n (sector ∷ sectors) more small = read_next _ _ (512 * n) (unit_readings_at k (n + 1) sectors) more (omega arith) (offsets_read k (n + 1) sectors more (omega arith))

-- ---- no more are listed than units were read

fewer_next : (accepted : Bool) (bytes : List ℕ) (offset : ℕ) (readings : List (Result (List ℕ) ℕ)) (most : ℕ) → length (faults_in readings) ≤ most
    → length (faults_in ((let r : Result (List ℕ) ℕ = cond accepted (Ok bytes) (Err offset) in r) ∷ readings)) ≤ suc most
fewer_next true bytes offset readings most rest = omega arith
fewer_next false bytes offset readings most rest = omega arith

fewer_listed : (k : Keying) (n : ℕ) (sectors : List (List ℕ)) → length (failing_units k n sectors) ≤ length sectors
fewer_listed k n [] = omega arith
fewer_listed k n (sector ∷ sectors) = fewer_next _ _ (512 * n) (unit_readings_at k (n + 1) sectors) (length sectors) (fewer_listed k (n + 1) sectors)

few_units : (count units : ℕ) → count ≤ 16384 / units → count * units ≤ 16384
few_units count units few =
    let all : count * units ≤ 16384 / units * units = mul-le-mul_right units few in
    let whole : 16384 / units * units ≤ 16384 = div-mul-le_self 16384 units in
    omega (arith, all, whole)

pub few_offsets : (k : Keying) (there place count bad : ℕ) (before buffer : List ℕ) (old new : DiskState)
    → ListsFailing k (place * units k) (sectors_swept (sweep_at k there place count) * units k) bad before buffer old new → 8 * bad ≤ 131072
few_offsets k there place count bad before buffer old new h =
    let few : sectors_swept (sweep_at k there place count) ≤ 16384 / units k = omega arith in
    let most = few_units (sectors_swept (sweep_at k there place count)) (units k) few in
    let listed = fewer_listed k (place * units k) h.sectors in
    omega (arith, most, listed, h.bad_is, h.all)

-- ---- the file

place_load : (line : List ℕ) (file : Span) (disk : DiskState) (holding : Holding) (entropy : EntropyState) (old new : CabinetState) (loaded : Result (List ℕ) Refusal)
    → IfSome old.files (λ files. IsAnswer (file_answer file.word place_size (files (bytes_at line file))) loaded) → IfOk loaded (λ bytes. length bytes ≤ place_size) → IfErr loaded (λ refusal. IfSome (refused_word refusal) (λ word. file.word ≡ word))
    → IfErr loaded (MayRefuse place_size old new) → KeepsFiles old new → Counted 1 old.loads new.loads → new.stores ≡ old.stores
    → LoadsPlace line file (reach_of disk holding old entropy) (unless_absent loaded) (reach_of disk holding new entropy)
place_load line file disk holding entropy old new loaded told within word cause keeps asked unstored = record {
  loaded = loaded;
  loads = record { told = told; within = within; word = word; cause = cause; keeps = keeps; asked = asked; unstored = unstored; disk = refl; holding = refl; entropy = refl };
  answered = refl;
}

-- the file was loaded
pub place_loaded : (line : List ℕ) (file : Span) (disk : DiskState) (holding : Holding) (entropy : EntropyState) (old new : CabinetState) (bytes : List ℕ)
    → IfSome old.files (λ files. IsAnswer (file_answer file.word place_size (files (bytes_at line file))) (Ok bytes)) → length bytes ≤ place_size → KeepsFiles old new → Counted 1 old.loads new.loads → new.stores ≡ old.stores
    → FindsPlace false line file (reach_of disk holding old entropy) (place_in file.word (Some bytes)) (reach_of disk holding new entropy)
place_loaded line file disk holding entropy old new bytes told within keeps asked unstored =
    Then-goes_on (LoadsPlace line file) _ (reach_of disk holding old entropy) (reach_of disk holding new entropy) (Some bytes) _ _
    (place_load line file disk holding entropy old new (Ok bytes) told within tt tt keeps asked unstored) (refl, refl)

-- the file of the place wasn't loaded
pub place_unloaded : (line : List ℕ) (file : Span) (disk : DiskState) (holding : Holding) (entropy : EntropyState) (old new : CabinetState) (refusal : Refusal)
    → IfSome old.files (λ files. IsAnswer {T = List ℕ} (file_answer file.word place_size (files (bytes_at line file))) (Err refusal)) → IfSome (refused_word refusal) (λ word. file.word ≡ word) → MayRefuse place_size old new refusal
    → KeepsFiles old new → Counted 1 old.loads new.loads → new.stores ≡ old.stores → FindsPlace false line file (reach_of disk holding old entropy) (without_file refusal) (reach_of disk holding new entropy)
place_unloaded line file disk holding entropy old new (refusals.FileAbsent word) told named cause keeps asked unstored =
    Then-goes_on (LoadsPlace line file) _ (reach_of disk holding old entropy) (reach_of disk holding new entropy) None _ _
    (place_load line file disk holding entropy old new (Err (refusals.FileAbsent word)) told tt named cause keeps asked unstored) (refl, refl)
place_unloaded line file disk holding entropy old new refusal told named cause keeps asked unstored =
    Then-refused (LoadsPlace line file) _ (reach_of disk holding old entropy) (reach_of disk holding new entropy) refusal
    (place_load line file disk holding entropy old new (Err refusal) told tt named cause keeps asked unstored)

-- ---- the sweep

-- the offsets of sectors that are there are small
end_small : (k : Keying) (place n size : ℕ) → place + n ≤ media_sectors k.auth k.sectorsize (512 * size) → size < 2 ^ 44 → 512 * (place * units k + n * units k) ≤ 2 ^ 64
end_small k place n size inside small =
    let all : ℕ = 512 * size - 512 in
    let bytes : ℕ = 512 * units k in
    let there : ℕ = all / bytes in
    let whole : there * bytes ≤ all = div-mul-le_self all bytes in
    let fits : (place + n) * units k ≤ there * units k = mul-le-mul_right (units k) inside in
    omega (arith, whole, fits, small)

lists_units : (k : Keying) (place count bad : ℕ) (before buffer : List ℕ) (old new : DiskState) → 512 * (place * units k + count) ≤ 2 ^ 64
    → ListsFailing k (place * units k) count bad before buffer old new → ListsUnits k (place * units k) count (numbers_in bad buffer) old new
lists_units k place count bad before buffer old new small h =
    let first : ℕ = place * units k in
    let fits : 512 * (first + length h.sectors) ≤ 2 ^ 64 = omega (arith, small, h.all) in
    record {
      sectors = h.sectors;
      all = h.all;
      whole = h.whole;
      stand = h.stand;
      listed = (λ i. numbers_in (h.bad_is i) (h.listed i)) ∙ offsets_read k first h.sectors (drop (8 * bad) before) fits;
      asked = h.asked;
      logs = h.logs;
    }

pub place_is_far : {D : Type 0} (state : D → DiskState) (queue : List Request) (cabinet : CabinetState) (entropy : EntropyState) (p : Attached D) (place count there : ℕ) → there ≡ media p.keying (state p.disk) → there < place
    → SweepsFrom (attachment_of queue p) place count (at state queue cabinet entropy p) (Err (refusals.BadPlace place there)) (at state queue cabinet entropy p)
place_is_far state queue cabinet entropy p place count there is far =
    let refused : if_inside place there ≡ Err (refusals.BadPlace place there) = grind (arith, nat_tests) in
    Then-refused (NeedsPlace (attachment_of queue p) place) _ _ _ _ (sym refused ∙ ap (if_inside place) is, refl)

pub sweep_failed : {D : Type 0} (state : D → DiskState) (queue : List Request) (cabinet : CabinetState) (entropy : EntropyState) (old new : Attached D) (place count : ℕ) → place ≤ media old.keying (state old.disk) → IsKept old new
    → FailsAmong (sectors_swept (sweep_at old.keying (media old.keying (state old.disk)) place count) * units old.keying) (state old.disk) (state new.disk)
    → SweepsFrom (attachment_of queue old) place count (at state queue cabinet entropy old) (Err refusals.DeviceFault) (at state queue cabinet entropy new)
sweep_failed state queue cabinet entropy old new place count inside kept h =
    Then-goes_on (NeedsPlace (attachment_of queue old) place) _ (at state queue cabinet entropy old) (at state queue cabinet entropy old) tt _ _ (sym (is_inside place _ inside), refl)
    (record { reads = h; holding = kept_holding queue old new kept; outside = record { cabinet = refl; entropy = refl } })

pub sweep_done : {D : Type 0} (state : D → DiskState) (queue : List Request) (cabinet : CabinetState) (entropy : EntropyState) (old new : Attached D) (place count : ℕ) (before buffer : List ℕ) (swept : Swept)
    → place ≤ media old.keying (state old.disk) → (state old.disk).size < 2 ^ 44 → IsKept old new
    → swept.next ≡ place + sectors_swept (sweep_at old.keying (media old.keying (state old.disk)) place count)
    → ListsFailing old.keying (place * units old.keying) (sectors_swept (sweep_at old.keying (media old.keying (state old.disk)) place count) * units old.keying) swept.bad before buffer (state old.disk) (state new.disk)
    → SweepsFrom (attachment_of queue old) place count (at state queue cabinet entropy old) (swept_part buffer (Ok swept)) (at state queue cabinet entropy new)
sweep_done state queue cabinet entropy old new place count before buffer swept inside small kept next h =
    let there : ℕ = media old.keying (state old.disk) in
    let n : ℕ = sectors_swept (sweep_at old.keying there place count) in
    let fits : place + n ≤ there = omega arith in
    Then-goes_on (NeedsPlace (attachment_of queue old) place) _ (at state queue cabinet entropy old) (at state queue cabinet entropy old) tt _ _ (sym (is_inside place there inside), refl)
    (record {
      reads = (next, lists_units old.keying place (n * units old.keying) swept.bad before buffer (state old.disk) (state new.disk) (end_small old.keying place n (state old.disk).size fits small) h);
      holding = kept_holding queue old new kept;
      outside = record { cabinet = refl; entropy = refl };
    })

-- ---- the row

pub verify_untagged : {D : Type 0} (state : D → DiskState) (queue : List Request) (cabinet : CabinetState) (entropy : EntropyState) (p : Attached D) (line : List ℕ) (file : Span) (count : ℕ) (restart : Bool) → has_tags p.keying.auth ≡ false
    → VerifyRow line file count restart (attachment_of queue p) (at state queue cabinet entropy p) (Err refusals.NotAuthenticated) (at state queue cabinet entropy p)
verify_untagged state queue cabinet entropy p line file count restart untagged = Then-refused (NeedsTags (attachment_of queue p)) _ _ _ _ (sym (ap if_tagged untagged), refl)

-- the steps after the tags
tagged_behind : {D : Type 0} (state : D → DiskState) (queue : List Request) (cabinet : CabinetState) (entropy : EntropyState) (p : Attached D) (line : List ℕ) (file : Span) (count : ℕ) (restart : Bool) (answer : Result SweptPart Refusal) (new : Reach) → has_tags p.keying.auth ≡ true
    → Then (FindsPlace restart line file) (λ place. Then (SweepsFrom (attachment_of queue p) place count) (λ part. StoresPlace line file part)) (at state queue cabinet entropy p) answer new
    → VerifyRow line file count restart (attachment_of queue p) (at state queue cabinet entropy p) answer new
tagged_behind state queue cabinet entropy p line file count restart answer new tagged h =
    Then-goes_on (NeedsTags (attachment_of queue p)) _ (at state queue cabinet entropy p) (at state queue cabinet entropy p) tt answer new (sym (ap if_tagged tagged), refl) h

pub verify_unplaced : {D : Type 0} (state : D → DiskState) (queue : List Request) (cabinet loaded : CabinetState) (entropy : EntropyState) (p : Attached D) (line : List ℕ) (file : Span) (count : ℕ) (restart : Bool) (refusal : Refusal) → has_tags p.keying.auth ≡ true
    → FindsPlace restart line file (at state queue cabinet entropy p) (Err refusal) (at state queue loaded entropy p)
    → VerifyRow line file count restart (attachment_of queue p) (at state queue cabinet entropy p) (Err refusal) (at state queue loaded entropy p)
verify_unplaced state queue cabinet loaded entropy p line file count restart refusal tagged finds =
    tagged_behind state queue cabinet entropy p line file count restart (Err refusal) (at state queue loaded entropy p) tagged
    (Then-refused (FindsPlace restart line file) _ (at state queue cabinet entropy p) (at state queue loaded entropy p) refusal finds)

-- the steps after the place
placed_behind : {D : Type 0} (state : D → DiskState) (queue : List Request) (cabinet loaded : CabinetState) (entropy : EntropyState) (p : Attached D) (line : List ℕ) (file : Span) (count : ℕ) (restart : Bool) (place : ℕ) (answer : Result SweptPart Refusal) (new : Reach)
    → has_tags p.keying.auth ≡ true → FindsPlace restart line file (at state queue cabinet entropy p) (Ok place) (at state queue loaded entropy p)
    → Then (SweepsFrom (attachment_of queue p) place count) (λ part. StoresPlace line file part) (at state queue loaded entropy p) answer new
    → VerifyRow line file count restart (attachment_of queue p) (at state queue cabinet entropy p) answer new
placed_behind state queue cabinet loaded entropy p line file count restart place answer new tagged finds h =
    tagged_behind state queue cabinet entropy p line file count restart answer new tagged
    (Then-goes_on (FindsPlace restart line file) _ (at state queue cabinet entropy p) (at state queue loaded entropy p) place answer new finds h)

pub verify_unswept : {D : Type 0} (state : D → DiskState) (queue : List Request) (cabinet loaded : CabinetState) (entropy : EntropyState) (old new : Attached D) (line : List ℕ) (file : Span) (count : ℕ) (restart : Bool) (place : ℕ) (refusal : Refusal)
    → has_tags old.keying.auth ≡ true → FindsPlace restart line file (at state queue cabinet entropy old) (Ok place) (at state queue loaded entropy old)
    → SweepsFrom (attachment_of queue old) place count (at state queue loaded entropy old) (Err refusal) (at state queue loaded entropy new)
    → VerifyRow line file count restart (attachment_of queue old) (at state queue cabinet entropy old) (Err refusal) (at state queue loaded entropy new)
verify_unswept state queue cabinet loaded entropy old new line file count restart place refusal tagged finds sweeps =
    placed_behind state queue cabinet loaded entropy old line file count restart place (Err refusal) (at state queue loaded entropy new) tagged finds
    (Then-refused (SweepsFrom (attachment_of queue old) place count) _ (at state queue loaded entropy old) (at state queue loaded entropy new) refusal sweeps)

pub verify_unstored : {D : Type 0} (state : D → DiskState) (queue : List Request) (cabinet loaded stored : CabinetState) (entropy : EntropyState) (old new : Attached D) (line : List ℕ) (file : Span) (count : ℕ) (restart : Bool) (place : ℕ) (part : SweptPart) (bytes : List ℕ) (refusal : Refusal)
    → has_tags old.keying.auth ≡ true → FindsPlace restart line file (at state queue cabinet entropy old) (Ok place) (at state queue loaded entropy old)
    → SweepsFrom (attachment_of queue old) place count (at state queue loaded entropy old) (Ok part) (at state queue loaded entropy new) → bytes ≡ le64 part.next
    → StoresBytes line file bytes (at state queue loaded entropy new) (Err refusal) (at state queue stored entropy new)
    → VerifyRow line file count restart (attachment_of queue old) (at state queue cabinet entropy old) (Err refusal) (at state queue stored entropy new)
verify_unstored state queue cabinet loaded stored entropy old new line file count restart place part bytes refusal tagged finds sweeps is stores =
    let stores_next = subst (λ (b : List ℕ). StoresBytes line file b (at state queue loaded entropy new) (Err refusal) (at state queue stored entropy new)) is stores in
    placed_behind state queue cabinet loaded entropy old line file count restart place (Err refusal) (at state queue stored entropy new) tagged finds
    (Then-goes_on (SweepsFrom (attachment_of queue old) place count) _ (at state queue loaded entropy old) (at state queue loaded entropy new) part (Err refusal) (at state queue stored entropy new) sweeps
    (Then-refused (StoresBytes line file (le64 part.next)) _ (at state queue loaded entropy new) (at state queue stored entropy new) refusal stores_next))

pub verify_stored : {D : Type 0} (state : D → DiskState) (queue : List Request) (cabinet loaded stored : CabinetState) (entropy : EntropyState) (old new : Attached D) (line : List ℕ) (file : Span) (count : ℕ) (restart : Bool) (place : ℕ) (part : SweptPart) (bytes : List ℕ)
    → has_tags old.keying.auth ≡ true → FindsPlace restart line file (at state queue cabinet entropy old) (Ok place) (at state queue loaded entropy old)
    → SweepsFrom (attachment_of queue old) place count (at state queue loaded entropy old) (Ok part) (at state queue loaded entropy new) → bytes ≡ le64 part.next
    → StoresBytes line file bytes (at state queue loaded entropy new) (Ok tt) (at state queue stored entropy new)
    → VerifyRow line file count restart (attachment_of queue old) (at state queue cabinet entropy old) (Ok part) (at state queue stored entropy new)
verify_stored state queue cabinet loaded stored entropy old new line file count restart place part bytes tagged finds sweeps is stores =
    let stores_next = subst (λ (b : List ℕ). StoresBytes line file b (at state queue loaded entropy new) (Ok tt) (at state queue stored entropy new)) is stores in
    placed_behind state queue cabinet loaded entropy old line file count restart place (Ok part) (at state queue stored entropy new) tagged finds
    (Then-goes_on (SweepsFrom (attachment_of queue old) place count) _ (at state queue loaded entropy old) (at state queue loaded entropy new) part (Ok part) (at state queue stored entropy new) sweeps
    (Then-goes_on (StoresBytes line file (le64 part.next)) _ (at state queue loaded entropy new) (at state queue stored entropy new) tt (Ok part) (at state queue stored entropy new) stores_next (refl, refl)))
