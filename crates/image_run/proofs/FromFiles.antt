-- What a crash leaves of the files of an image reads as promised, since it may be left of what is reported.
use Rattle.std.proofs.Common.{◌≡◌, ◌∙◌, ℕ, ◌<◌, List, length, take, refl, sym, ap, subst, Option, Some, None, Result}
use Rattle.std.specs.Prelude.{IfSome}
use Rattle.std.proofs.Math.Seq.{take-length}
use Rattle.block_traits.specs.Content.{Content}
use Rattle.block_traits.specs.Crash.{IsAltered, IsImage, IsTorn, IsUnsettled}
use Rattle.block_traits.specs.Disk.{DiskState}
use Rattle.block_traits.specs.declared.disk.Disk.{Ghosts}
use Rattle.command_rows.specs.Vocabulary.{IsKeying, Keying}
use Rattle.file_edge.specs.Told.{Told}
use Rattle.file_edge.specs.declared.file_disk.FileDisk.{FileDisk}
use Rattle.geli_core.specs.Survivors.{EnduresCrashes}
use Rattle.image_layers.specs.Images.{IfFilesTell, image_disk_state, told_in_files}
use Rattle.image_layers.specs.InFiles.{AreCovered, LeavesNoMore, kept_in_files}
use Rattle.image_layers.specs.declared.image_disks.ImageDisk.{ImageDisk}
use Rattle.image_run.specs.Surviving.{ReadsFromFiles}
use Rattle.readings.specs.Crashes.{Endures, IsFlushed, ReadsWithCauses, image_unit, image_units}
use Rattle.readings.specs.Ever.{ever}
use Rattle.readings.specs.Read.{Matches, read}
use Rattle.readings.specs.Steps.{Step, after, cell}
use Rattle.readings.specs.Survivors.{ReadsAsPut, chosen, content_media, moment}
use Rattle.readings.specs.Writings.{Put, PutUnit}
use Rattle.readings.proofs.Survivors.{moment-after}
use Rattle.sealing.specs.Sectors.{unit_place, units}

-- the moment after all steps
last_moment : (steps : List Step) (c : Content) → after steps c ≡ moment (length steps) steps c
last_moment steps c = sym (moment-after (length steps) steps c ∙ ap (λ (s : List Step). after s c) (take-length steps))

module _ (kept : ℕ → List (List ℕ)) (c : Content) (steps : List Step) (no_more : LeavesNoMore kept (after steps c)) (endures : EnduresCrashes steps c) where
  all : take (length steps) steps ≡ steps
  all = take-length steps

  at_end : (k : Keying) (sector : ℕ) → IsKeying k → sector < content_media k c → Endures c steps (length steps) k sector
  at_end k sector is below = endures.endures (length steps) k sector is below

  pub reads_from_files : ReadsFromFiles kept c steps
  reads_from_files = record {
    whole = λ image left.
        let one = no_more.whole image left in (
          one.0,
          λ k sector is below.
              subst (λ (s : List Step). image_units k sector image ≡ read k sector (chosen k sector (cell c s) one.0)) all
              ((at_end k sector is below).whole one.0 image (subst (λ (m : Content). IsImage m one.0 image) (last_moment steps c) one.1)),
        );
    torn = λ image left k sector is below.
        let P : List Step → Content → Type 0 = λ s m. ReadsWithCauses k sector (cell c s) (IsUnsettled m) (ever c s) image in
        subst (λ (s : List Step). P s (after steps c)) all
        (subst (P (take (length steps) steps)) (sym (last_moment steps c))
        ((at_end k sector is below).torn image (subst (λ (m : Content). IsTorn m image) (last_moment steps c) (no_more.torn image left))));
    altered = λ image left k sector is below.
        subst (λ (s : List Step). ReadsWithCauses k sector (cell c s) (λ n. Unit {0}) (ever c s) image) all
        ((at_end k sector is below).altered image (subst (λ (m : Content). IsAltered m image) (last_moment steps c) (no_more.altered image left)));
    flushed = λ image left k sector is below j p inside was matches.
        (at_end k sector is below).flushed j p inside (subst (λ (s : List Step). IsFlushed s (unit_place k sector j) (Put p)) (sym all) was) matches
        image (subst (λ (m : Content). IsTorn m image) (last_moment steps c) (no_more.torn image left));
  }

module _ {F : Type 0} {g : Ghosts (FileDisk F)} (told : F → Option Told) where
  files : (was : Option Content) (state : DiskState) (steps : List Step) → IfSome was (λ c. (state.content ≡ Some (after steps c)) × EnduresCrashes steps c) → AreCovered g told state
      → IfSome was (λ c. (now : ImageDisk F g) → image_disk_state now ≡ state → ReadsFromFiles (kept_in_files told now) c steps)
  files None state steps grew covers = tt
  files (Some c) state steps grew covers = λ now is.
      let P : Option Content → Type 0 = λ k. IfSome k (LeavesNoMore (kept_in_files told now)) in
      reads_from_files (kept_in_files told now) c steps (subst P (ap (λ (s : DiskState). s.content) is ∙ grew.0) (covers now is)) grew.1

  -- the files of a disk that is in this state
  pub in_files : (disk : ImageDisk F g) (state : DiskState) (steps : List Step) → IfFilesTell told disk (λ c. (state.content ≡ Some (after steps c)) × EnduresCrashes steps c) → AreCovered g told state
      → IfFilesTell told disk (λ c. (now : ImageDisk F g) → image_disk_state now ≡ state → ReadsFromFiles (kept_in_files told now) c steps)
  in_files disk state steps grew covers = files (told_in_files told disk) state steps grew covers
