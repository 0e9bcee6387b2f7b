-- What is read from an image that a crash left, once it is attached again.
use Rattle.std.proofs.Common.{◌≡◌, ap, arith, subst, sym, ℕ, zero, suc, ◌+◌, ◌*◌, ◌<◌, ◌≤◌, List, length, Option, None, Some, Result, Ok, Err, IfSome}
use Rattle.block_traits.specs.Crash.{IsUnsettled}
use Rattle.command_rows.specs.Vocabulary.{Attached, Content, DiskState, FitsSize, IsContentOf, IsKeying, Keying, joined, keying_of, media_sectors}
use Rattle.eli_base.specs.declared.parameters.Params.{Params}
use Rattle.provider.specs.declared.faults.AttachFault.{AttachFault}
use Rattle.sector_runs.specs.declared.faults.ReadFault.{ReadFault}
use Rattle.sector_runs.specs.declared.faults.ReadFault.TheVariants as read
use Rattle.provider_readings.proofs.Attaching.{attaches, reads}
use Rattle.provider_readings.specs.Attaching.{AttachesOrLacksMemory, HasImage, ReadsImage, image_sectors}
use Rattle.geli_core.specs.Headline.{AnswersBy, AttachesAndReads, EachReads, OpensAndReads, ReadsAfterCrashes, ReadsAsChosen, ReadsAsStands, ReadsBy}
use Rattle.geli_core.specs.Survivors.{EnduresCrashes}
use Rattle.geli_core.specs.Vocabulary.{ReadAnswers, Step, image_units, moment, request, survivor}

-- the keying of parameters is one that a provider may have
keyed : (params : Params) (master : List ℕ) → IsKeying (keying_of params (record { bytes = master }))
keyed params master = record { allowed = params.allowed; sized = params.sized; at_least = params.at_least; at_most = params.at_most; whole = params.whole }

abbrev Reading : Type 1
Reading = ℕ → Result (List ℕ) ℕ → Type 0

-- ---- reading

-- each logical sector of the image reads so
abbrev AllRead : List (List ℕ) → ℕ → Keying → Reading → Type 0
AllRead image most k P = (sector : ℕ) → sector < most → P sector (joined (image_units k sector image))

each_reads : (image : List (List ℕ)) (most : ℕ) (k : Keying) (P : Reading) → AllRead image most k P → (sector count : ℕ) → sector + count ≤ most → EachReads P sector count (image_sectors k sector count image)
each_reads image most k P all sector zero fits = tt
each_reads image most k P all sector (suc count) fits = (all sector (omega (arith, fits)), each_reads image most k P all (sector + 1) count (omega (arith, fits)))

disk_size : (image : List (List ℕ)) (disk : DiskState) → HasImage image disk → length image ≡ disk.size
disk_size image disk has =
    let fits : IsContentOf disk.size (survivor image) = subst (FitsSize disk.size) has disk.well_formed.fits in
    fits.sectors

abbrev media_of : Keying → ℕ → ℕ
media_of k size = media_sectors k.auth k.sectorsize (512 * size)

answers_by : {D : Type 0} (state : D → DiskState) (image : List (List ℕ)) (P : Reading) (sector : ℕ) (into bytes : List ℕ) (old new : Attached D) (answer : Result (Unit {0}) ReadFault)
    → AllRead image (media_of old.keying (state old.disk).size) old.keying P → ReadAnswers state (request state old sector into) bytes old new answer
    → ReadsImage old.keying (request state old sector into) image bytes answer (state old.disk) (state new.disk)
    → AnswersBy P (request state old sector into) bytes answer (state old.disk) (state new.disk)
answers_by state image P sector into bytes old new (Ok done) all h is = record {
  readings = image_sectors old.keying sector (request state old sector into).count image;
  each = each_reads image (media_of old.keying (state old.disk).size) old.keying P all sector (request state old sector into).count h.in_range;
  together = is;
}
answers_by state image P sector into bytes old new (Err (read.Integrity offset)) all h is = record {
  readings = image_sectors old.keying sector (request state old sector into).count image;
  each = each_reads image (media_of old.keying (state old.disk).size) old.keying P all sector (request state old sector into).count h.in_range;
  together = is;
}
answers_by state image P sector into bytes old new (Err (read.OutOfRange first asked there)) all h is = is
answers_by state image P sector into bytes old new (Err read.DeviceFault) all h is = is

reads_by : {D : Type 0} (state : D → DiskState) (image : List (List ℕ)) (k : Keying) (P : Reading) → IsKeying k → AllRead image (media_of k (length image)) k P → ReadsBy state image k P
reads_by state image k P fits all sector into bytes old new answer has is h =
    let fits_there : IsKeying old.keying = subst IsKeying (sym is) fits in
    let all_there : AllRead image (media_of old.keying (length image)) old.keying P = subst (λ (j : Keying). AllRead image (media_of j (length image)) j P) (sym is) all in
    let sized : AllRead image (media_of old.keying (state old.disk).size) old.keying P =
    subst (λ (n : ℕ). AllRead image (media_of old.keying n) old.keying P) (disk_size image (state old.disk) has) all_there in
    let said = reads state image sector into bytes old new answer has fits_there h in
    (answers_by state image P sector into bytes old new answer sized h said.0, said.1)

-- ---- attaching

attaches_and_reads : {D : Type 0} (state : D → DiskState) (image : List (List ℕ)) (P : Keying → Reading) (given : D) (params : Params) (s : ℕ) (master : List ℕ) (result : Result (Attached D) (D × AttachFault))
    → ((k : Keying) → IsKeying k → AllRead image (media_of k (length image)) k (P k)) → AttachesOrLacksMemory given params s master result → AttachesAndReads state image P given params s master result
attaches_and_reads state image P given params s master (Ok p) all h =
    let fits : IsKeying p.keying = subst IsKeying (sym h.keying) (keyed params master) in
    (h, fits, reads_by state image p.keying (P p.keying) fits (all p.keying fits))
attaches_and_reads state image P given params s master (Err refused) all h = h

opens_and_reads : {D : Type 0} (state : D → DiskState) (image : List (List ℕ)) (P : Keying → Reading) → ((k : Keying) → IsKeying k → AllRead image (media_of k (length image)) k (P k)) → OpensAndReads state image P
opens_and_reads state image P all m params key readonly s master disk result has opened h =
    attaches_and_reads state image P disk params s master result all (attaches state image m params key readonly s master disk result has opened h)

-- ---- the sentence

below_media : (k : Keying) (image base : List (List ℕ)) (sector : ℕ) → length image ≡ length base → sector < media_of k (length image) → sector < media_of k (length base)
below_media k image base sector same = subst (λ (n : ℕ). sector < media_of k n) same

pub reads_after_crashes : {D : Type 0} (state : D → DiskState) (steps : List Step) (c : Content) → EnduresCrashes steps c → ReadsAfterCrashes state steps c
reads_after_crashes state steps c e = record {
  whole = λ t choice image is. opens_and_reads state image (ReadsAsChosen c steps t choice)
      (λ k fits sector lt. ap joined ((e.endures t k sector fits (below_media k image c.base sector is.size lt)).whole choice image is));
  torn = λ t image is. opens_and_reads state image (ReadsAsStands c steps t (IsUnsettled (moment t steps c)) image)
      (λ k fits sector lt.
      let causes = (e.endures t k sector fits (below_media k image c.base sector is.same.size lt)).torn image is in
      record { causes = causes; is = ap joined causes.from.readings });
  altered = λ t image is. opens_and_reads state image (ReadsAsStands c steps t (λ n. Unit {0}) image)
      (λ k fits sector lt.
      let causes = (e.endures t k sector fits (below_media k image c.base sector is.same.size lt)).altered image is in
      record { causes = causes; is = ap joined causes.from.readings });
}

pub some_read : {D : Type 0} (state : D → DiskState) (steps : List Step) (told : Option Content) → IfSome told (EnduresCrashes steps) → IfSome told (ReadsAfterCrashes state steps)
some_read state steps None h = tt
some_read state steps (Some c) h = reads_after_crashes state steps c h
