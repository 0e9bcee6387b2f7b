-- An open request by its fields.
use Rattle.std.proofs.Common.{◌≡◌, ℕ, ◌+◌, ◌-◌, ◌*◌, ◌/◌, ◌%◌, ◌<◌, ◌≤◌, ◌^◌, List, [], ◌∷◌, ◌++◌, length, take, drop, Ok, Err, refl, sym, ap, ◌∙◌, subst, arith}
use Rattle.std.proofs.Math.Nat.{div-add-mod, mul-div_cancel}
use Rattle.std.proofs.lemmas.List.{length-take-le}
use Rattle.block_traits.specs.Disk.{DiskState, Gives, Logs}
use Rattle.block_traits.specs.declared.disk.Event.{Event}
use Rattle.block_traits.specs.declared.disk.Event.TheVariants as event
use Rattle.block_traits.specs.Parts.{parts}
use Rattle.block_traits.proofs.PartLists.{get_or-parts}
use Rattle.eli_base.specs.Keying.{Keying}
use Rattle.eli_base.specs.Requests.{request_limit}
use Rattle.eli_base.specs.Units.{media_sectors}
use Rattle.provider.specs.Attached.{Attached}
use Rattle.sector_runs.proofs.InMemory.{sector_inside}
use Rattle.sealing.specs.Sectors.{units}
use Rattle.bio_queue.specs.declared.job.Job.{Job}
use Rattle.bio_queue.specs.declared.job.Job.TheVariants.{Read, Write, Flush}
use Rattle.bio_queue.specs.declared.job.Reaped.TheVariants.{Bytes}
use Rattle.bio_queue.specs.Answers.{Gave, HasBadUnit, IsGiven, IsOfProvider, asked}
use Rattle.bio_queue.specs.Kept.{IsHeld, shown}
use Rattle.bio_queue.specs.Requests.{Request, first_of, step_events, stepped}
use Rattle.sealing.specs.Data.{opened_data, sealed_sectors}

-- what is seen of these fields
abbrev pub seen : ℕ → Job → ℕ → ℕ → List ℕ → Request
seen tag job done all bytes = record { tag = tag; job = job; done = done; units = all; device = shown job done all bytes }

-- ---- a new request

-- the first device sector of so many logical sectors, each of which has as many
first_made : (sector count each : ℕ) → 1 ≤ count → sector * each ≡ sector * (count * each / count)
first_made sector count each some = let e : count * each ≡ each * count = omega arith in ap (λ (n : ℕ). sector * n) (sym (ap (λ (n : ℕ). n / count) e ∙ mul-div_cancel each some))

pub held_read : (job : Job) (sector count each bytes : ℕ) → job ≡ Read sector count → 1 ≤ count → bytes ≡ 512 * (count * each) → IsHeld job 0 (count * each) (sector * each) bytes
held_read job sector count each bytes is some room =
    subst (λ (j : Job). IsHeld j 0 (count * each) (sector * each) bytes) (sym is) (record { within = omega arith; place = first_made sector count each some; room = room })

pub held_write : (job : Job) (sector count each bytes : ℕ) → job ≡ Write sector count → 1 ≤ count → bytes ≡ 512 * (count * each) → IsHeld job 0 (count * each) (sector * each) bytes
held_write job sector count each bytes is some room =
    subst (λ (j : Job). IsHeld j 0 (count * each) (sector * each) bytes) (sym is) (record { within = omega arith; place = first_made sector count each some; room = room })

-- the bytes of so many logical sectors
pub counted : (k : Keying) (count bytes : ℕ) → bytes ≡ count * k.sectorsize → 512 ≤ k.sectorsize → (bytes / k.sectorsize ≡ count) × (bytes % k.sectorsize ≡ 0)
counted k count bytes is some =
    let S : ℕ = k.sectorsize in
    let many : bytes / S ≡ count = ap (λ (n : ℕ). n / S) is ∙ mul-div_cancel count (omega (arith, some)) in
    let all : bytes / S * S ≡ bytes = ap (λ (n : ℕ). n * S) many ∙ sym is in
    (many, omega (arith, div-add-mod bytes S, all))

-- the bytes of their device sectors
pub room_for : (k : Keying) (count many all bytes : ℕ) → many ≡ count → all ≡ count * units k → bytes ≡ 512 * all → bytes ≡ many * (512 * units k)
room_for k count many all bytes counts is room =
    let turned : 512 * (count * units k) ≡ count * (512 * units k) = omega arith in
    room ∙ ap (λ (n : ℕ). 512 * n) is ∙ turned ∙ ap (λ (n : ℕ). n * (512 * units k)) (sym counts)

pub made-write : (k : Keying) (tag : ℕ) (job : Job) (sector count all many : ℕ) (from bytes : List ℕ) → job ≡ Write sector count → all ≡ count * units k → many ≡ count
    → parts 512 (many * units k) bytes ≡ sealed_sectors k sector many from → seen tag job 0 all bytes ≡ asked k tag job from
made-write k tag job sector count all many from bytes is whole counts sealed =
    let same : all ≡ many * units k = whole ∙ ap (λ (n : ℕ). n * units k) (sym counts) in
    let device : parts 512 all bytes ≡ sealed_sectors k sector count from = ap (λ (n : ℕ). parts 512 n bytes) same ∙ sealed ∙ ap (λ (n : ℕ). sealed_sectors k sector n from) counts in
    subst (λ (j : Job). seen tag j 0 all bytes ≡ asked k tag j from) (sym is)
    (λ i. record { tag = tag; job = Write sector count; done = 0; units = whole i; device = device i })

pub first_small : (k : Keying) (sector count each size : ℕ) → each ≡ units k → 1 ≤ count → sector + count ≤ media_sectors k.auth k.sectorsize (512 * size) → size < 2 ^ 44 → sector * each < 2 ^ 64
first_small k sector count each size is some fits small =
    let at : sector * each ≡ sector * units k = ap (λ (n : ℕ). sector * n) is in
    let inside = sector_inside k sector size (omega arith) in
    omega (arith, at, inside)

-- ---- a step

pub logs_as : {D : Type 0} (state : D → DiskState) (old now new : Attached D) (told events : List Event) → now ≡ new → told ≡ events → Logs events (state old.disk) (state new.disk) → Logs told (state old.disk) (state now.disk)
logs_as state old now new told events same is logs =
    subst (λ (p : Attached _). Logs told (state old.disk) (state p.disk)) (sym same) (subst (λ (e : List Event). Logs e (state old.disk) (state new.disk)) (sym is) logs)

pub events-read : (tag : ℕ) (job : Job) (sector count done all : ℕ) (bytes : List ℕ) → job ≡ Read sector count → step_events (seen tag job done all bytes) ≡ []
events-read tag job sector count done all bytes is = ap (λ (j : Job). step_events (seen tag j done all bytes)) is

pub events-write : (tag : ℕ) (job : Job) (sector count done all first n : ℕ) (bytes unit : List ℕ) → job ≡ Write sector count → first ≡ first_of job all → n ≡ first + done → done < all → unit ≡ take 512 (drop (512 * done) bytes)
    → step_events (seen tag job done all bytes) ≡ event.Write n unit ∷ []
events-write tag job sector count done all first n bytes unit is place next more cut =
    let at : first ≡ first_of (Write sector count) all = place ∙ ap (λ (j : Job). first_of j all) is in
    ap (λ (j : Job). step_events (seen tag j done all bytes)) is
    ∙ (λ i. event.Write ((ap (λ (m : ℕ). m + done) (sym at) ∙ sym next) i) ((get_or-parts 512 all done bytes more ∙ sym cut) i) ∷ [])

pub events-flush : (tag : ℕ) (job : Job) (done all : ℕ) (bytes : List ℕ) → job ≡ Flush → step_events (seen tag job done all bytes) ≡ event.Flush ∷ []
events-flush tag job done all bytes is = ap (λ (j : Job). step_events (seen tag j done all bytes)) is

-- the bytes that a step was given, and what it leaves of the request
abbrev pub StepGives : DiskState → Request → Request → Type 0
StepGives d old new = (bytes : List ℕ) × IsGiven d old.job (first_of old.job old.units + old.done) bytes × (new ≡ stepped old bytes)

pub stepped-read : (d : DiskState) (tag : ℕ) (job : Job) (sector count done all first n : ℕ) (bytes now got : List ℕ) → job ≡ Read sector count → first ≡ first_of job all → n ≡ first + done → Gives d n got
    → parts 512 (done + 1) now ≡ parts 512 done bytes ++ got ∷ [] → StepGives d (seen tag job done all bytes) (seen tag job (done + 1) all now)
stepped-read d tag job sector count done all first n bytes now got is place next gives put =
    let at : first ≡ first_of (Read sector count) all = place ∙ ap (λ (j : Job). first_of j all) is in
    subst (λ (j : Job). StepGives d (seen tag j done all bytes) (seen tag j (done + 1) all now)) (sym is)
    (got, subst (λ (m : ℕ). Gives d m got) (next ∙ ap (λ (m : ℕ). m + done) at) gives, (λ i. record { tag = tag; job = Read sector count; done = done + 1; units = all; device = put i }))

pub stepped-write : (d : DiskState) (tag : ℕ) (job : Job) (sector count done all : ℕ) (bytes : List ℕ) → job ≡ Write sector count → StepGives d (seen tag job done all bytes) (seen tag job (done + 1) all bytes)
stepped-write d tag job sector count done all bytes is =
    subst (λ (j : Job). StepGives d (seen tag j done all bytes) (seen tag j (done + 1) all bytes)) (sym is) ([], tt, refl)

pub stepped-flush : (d : DiskState) (tag : ℕ) (job : Job) (done all : ℕ) (bytes : List ℕ) → job ≡ Flush → StepGives d (seen tag job done all bytes) (seen tag job (done + 1) all bytes)
stepped-flush d tag job done all bytes is = subst (λ (j : Job). StepGives d (seen tag j done all bytes) (seen tag j (done + 1) all bytes)) (sym is) ([], tt, refl)

-- ---- what a read gives

-- the bytes of a read at the front of a buffer
pub record IsFront (k : Keying) (count all size : ℕ) (front : List ℕ) : Type 0 where
  pub units_are : all ≡ count * units k
  pub same : count * size ≡ count * k.sectorsize
  pub long : length front ≡ count * size
  pub counts : length front / k.sectorsize ≡ count
  pub whole : length front % k.sectorsize ≡ 0

pub front_of : (k : Keying) (media sector count all size : ℕ) (job : Job) (into : List ℕ) → job ≡ Read sector count → IsOfProvider k media job all → size ≡ k.sectorsize → 512 ≤ size → request_limit ≤ length into
    → IsFront k count all size (take (count * size) into)
front_of k media sector count all size job into is of sized some room =
    let there : IsOfProvider k media (Read sector count) all = subst (λ (j : Job). IsOfProvider k media j all) is of in
    let same : count * size ≡ count * k.sectorsize = ap (λ (n : ℕ). count * n) sized in
    let few = there.2 in
    let long : length (take (count * size) into) ≡ count * size = length-take-le (count * size) into (omega (arith, same, few, room)) in
    let counts = counted k count (length (take (count * size) into)) (long ∙ same) (omega (arith, sized, some)) in
    record { units_are = there.1; same = same; long = long; counts = counts.0; whole = counts.1 }

-- all of it was read
opened_as : (k : Keying) (sector count done all many : ℕ) (bytes : List ℕ) → all - done ≡ 0 → done ≤ all → all ≡ count * units k → many ≡ count
    → opened_data k sector count (parts 512 done bytes) ≡ opened_data k sector many (parts 512 (many * units k) bytes)
opened_as k sector count done all many bytes none within whole counts =
    let end : done ≡ all = omega arith in
    let same : done ≡ many * units k = end ∙ whole ∙ ap (λ (n : ℕ). n * units k) (sym counts) in
    λ i. opened_data k sector (sym counts i) (parts 512 (same i) bytes)

pub gave-read : (k : Keying) (job : Job) (sector count done all size : ℕ) (bytes device front given before : List ℕ) → job ≡ Read sector count → all - done ≡ 0 → done ≤ all → IsFront k count all size front → device ≡ bytes
    → length given ≡ length front → opened_data k sector (length front / k.sectorsize) (parts 512 (length front / k.sectorsize * units k) device) ≡ Ok given
    → Gave k job (shown job done all bytes) before (given ++ drop (count * size) before) (Bytes (count * size))
gave-read k job sector count done all size bytes device front given before is none within f same long opened =
    let size_is : length given ≡ count * size = long ∙ f.long in
    let all_read = opened_as k sector count done all (length front / k.sectorsize) bytes none within f.units_are f.counts in
    let read : opened_data k sector count (parts 512 done bytes) ≡ Ok given = all_read ∙ (λ i. opened_data k sector (length front / k.sectorsize) (parts 512 (length front / k.sectorsize * units k) (sym same i))) ∙ opened in
    let here : Gave k (Read sector count) (parts 512 done bytes) before (given ++ drop (count * size) before) (Bytes (count * size)) =
    (given, read, ap Bytes (sym size_is), size_is ∙ f.same, ap (λ (m : ℕ). given ++ drop m before) (sym size_is)) in
    subst (λ (j : Job). Gave k j (shown j done all bytes) before (given ++ drop (count * size) before) (Bytes (count * size))) (sym is) here

pub bad-read : (k : Keying) (job : Job) (sector count done all size offset : ℕ) (bytes device front : List ℕ) → job ≡ Read sector count → all - done ≡ 0 → done ≤ all → IsFront k count all size front → device ≡ bytes
    → opened_data k sector (length front / k.sectorsize) (parts 512 (length front / k.sectorsize * units k) device) ≡ Err offset → HasBadUnit k job (shown job done all bytes) offset
bad-read k job sector count done all size offset bytes device front is none within f same opened =
    let all_read = opened_as k sector count done all (length front / k.sectorsize) bytes none within f.units_are f.counts in
    subst (λ (j : Job). HasBadUnit k j (shown j done all bytes) offset) (sym is)
    (all_read ∙ (λ i. opened_data k sector (length front / k.sectorsize) (parts 512 (length front / k.sectorsize * units k) (sym same i))) ∙ opened)
