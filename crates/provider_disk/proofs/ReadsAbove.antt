-- What a provider that is attached upon a disk upon a provider reads, on an image that was left below.
use Rattle.std.proofs.Common.{◌≡◌, ℕ, zero, suc, ◌+◌, ◌-◌, ◌*◌, ◌/◌, ◌≤◌, List, ◌∷◌, length, refl, sym, ap, ◌∙◌, subst, arith, Option, Some, Result, Ok, Err}
use Rattle.std.specs.Option.{option_map}
use Rattle.block_traits.specs.declared.disk.Event.{Event}
use Rattle.block_traits.specs.Content.{Content, IsContentOf}
use Rattle.block_traits.specs.Crash.{IsImage}
use Rattle.block_traits.specs.Disk.{DiskState, FitsSize}
use Rattle.eli_base.specs.Keying.{Keying}
use Rattle.eli_base.specs.Units.{media_sectors}
use Rattle.provider.specs.Answers.{ReadAnswers, request}
use Rattle.provider.specs.Attached.{Attached}
use Rattle.sector_runs.specs.declared.faults.ReadFault.{ReadFault}
use Rattle.sector_runs.specs.declared.faults.ReadFault.TheVariants as fault
use Rattle.provider_readings.specs.Attaching.{HasImage, ReadsImage, image_data, image_sectors}
use Rattle.provider_readings.specs.Data.{survivor}
use Rattle.provider_readings.proofs.Attaching.{reads}
use Rattle.range_keys.specs.Ring.{IsKeying}
use Rattle.readings.specs.Steps.{Step}
use Rattle.readings.specs.Survivors.{content_media}
use Rattle.sealing.specs.Sectors.{joined}
use Rattle.provider_disk.specs.Above.{AreStepsOver, ReadsChosen, cells_above, content_below, data_chosen, sectors_chosen}
use Rattle.provider_disk.specs.Opened.{opened_content, opened_data_sectors}
use Rattle.provider_disk.specs.OpenedFits.{length-opened_sectors}
use Rattle.provider_disk.proofs.Above.{endures_below}

-- a disk upon a provider on an image has that image, opened
pub has_opened : (k : Keying) (image : List (List ℕ)) (told : Option Content) → told ≡ Some (survivor image) → option_map (opened_content k) told ≡ Some (survivor (opened_data_sectors k image))
has_opened k image told has = ap (option_map (opened_content k)) has

-- its size is the image's
size_of : (image : List (List ℕ)) (disk : DiskState) → HasImage image disk → disk.size ≡ length image
size_of image disk has = let fits : IsContentOf disk.size (survivor image) = subst (FitsSize disk.size) has disk.well_formed.fits in sym fits.sectors

module _ (k j : Keying) (c : Content) (events : List Event) (steps : List Step) (t : ℕ) (choice : ℕ → ℕ) (image : List (List ℕ))
    (over : AreStepsOver k c events steps) (valid : IsKeying j) (left : IsImage (content_below c events t) choice image) where
  sectors_read : (sector count : ℕ) → sector + count ≤ content_media j (opened_content k c)
      → image_sectors j sector count (opened_data_sectors k image) ≡ sectors_chosen j sector count (cells_above k c events steps t) choice
  sectors_read sector zero fits = refl
  sectors_read sector (suc count) fits =
      let here = (endures_below k j c events steps t sector over valid (omega arith)).whole choice image left in
      let more = sectors_read (sector + 1) count (omega arith) in
      λ i. joined (here i) ∷ more i

  data_read : (sector count : ℕ) → sector + count ≤ content_media j (opened_content k c)
      → image_data j sector count (opened_data_sectors k image) ≡ data_chosen j sector count (cells_above k c events steps t) choice
  data_read sector count fits = ap joined (sectors_read sector count fits)

  -- as many logical sectors as the disk upon the provider had
  same_media : (disk : DiskState) → HasImage (opened_data_sectors k image) disk → media_sectors j.auth j.sectorsize (512 * disk.size) ≡ content_media j (opened_content k c)
  same_media disk has =
      let size : disk.size ≡ length (opened_data_sectors k c.base) =
      size_of (opened_data_sectors k image) disk has ∙ length-opened_sectors k image ∙ ap (λ (n : ℕ). n - 1) left.size ∙ sym (length-opened_sectors k c.base) in
      ap (λ (n : ℕ). media_sectors j.auth j.sectorsize (512 * n)) size

  inside : (disk : DiskState) (sector count : ℕ) → HasImage (opened_data_sectors k image) disk → sector + count ≤ media_sectors j.auth j.sectorsize (512 * disk.size) → sector + count ≤ content_media j (opened_content k c)
  inside disk sector count has fits = let P : ℕ → Type 0 = λ n. sector + count ≤ n in subst P (same_media disk has) fits

reads_chosen : {D : Type 0} (state : D → DiskState) (k : Keying) (c : Content) (events : List Event) (steps : List Step) (t : ℕ) (choice : ℕ → ℕ) (image : List (List ℕ))
    (sector : ℕ) (into bytes : List ℕ) (old new : Attached D) (answer : Result (Unit {0}) ReadFault)
    → AreStepsOver k c events steps → IsKeying old.keying → IsImage (content_below c events t) choice image → HasImage (opened_data_sectors k image) (state old.disk)
    → ReadAnswers state (request state old sector into) bytes old new answer
    → ReadsImage old.keying (request state old sector into) (opened_data_sectors k image) bytes answer (state old.disk) (state new.disk)
    → ReadsChosen old.keying (request state old sector into) (cells_above k c events steps t) choice bytes answer (state old.disk) (state new.disk)
reads_chosen state k c events steps t choice image sector into bytes old new (Ok done) over valid left has h read =
    let count : ℕ = length into / old.keying.sectorsize in
    sym (data_read k old.keying c events steps t choice image over valid left sector count (inside k old.keying c events steps t choice image over valid left (state old.disk) sector count has h.in_range)) ∙ read
reads_chosen state k c events steps t choice image sector into bytes old new (Err (fault.Integrity offset)) over valid left has h read =
    let count : ℕ = length into / old.keying.sectorsize in
    sym (data_read k old.keying c events steps t choice image over valid left sector count (inside k old.keying c events steps t choice image over valid left (state old.disk) sector count has h.in_range)) ∙ read
reads_chosen state k c events steps t choice image sector into bytes old new (Err (fault.OutOfRange first asked there)) over valid left has h read = read
reads_chosen state k c events steps t choice image sector into bytes old new (Err fault.DeviceFault) over valid left has h read = read

pub survivor_reads : {D : Type 0} (state : D → DiskState) (k : Keying) (c : Content) (events : List Event) (steps : List Step) (t : ℕ) (choice : ℕ → ℕ) (image : List (List ℕ))
    (sector : ℕ) (into bytes : List ℕ) (old new : Attached D) (answer : Result (Unit {0}) ReadFault)
    → AreStepsOver k c events steps → IsKeying old.keying → IsImage (content_below c events t) choice image → HasImage (opened_data_sectors k image) (state old.disk)
    → ReadAnswers state (request state old sector into) bytes old new answer
    → ReadsChosen old.keying (request state old sector into) (cells_above k c events steps t) choice bytes answer (state old.disk) (state new.disk)
    × HasImage (opened_data_sectors k image) (state new.disk)
survivor_reads state k c events steps t choice image sector into bytes old new answer over valid left has h =
    let both = reads state (opened_data_sectors k image) sector into bytes old new answer has valid h in
    (reads_chosen state k c events steps t choice image sector into bytes old new answer over valid left has h both.0, both.1)
