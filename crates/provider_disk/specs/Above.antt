-- Crashes of the disk below, for a provider that stands on a disk upon a provider.
use Rattle.std.specs.Prelude.{◌≡◌, ℕ, zero, suc, ◌+◌, ◌-◌, ◌<◌, List, [], ◌∷◌, length, take, Result, Ok, Err}
use Rattle.block_traits.specs.declared.disk.Event.{Event}
use Rattle.block_traits.specs.Causes.{Rose}
use Rattle.block_traits.specs.Content.{Content, IsContentOf, at_moment, with_events}
use Rattle.block_traits.specs.Crash.{IsAltered, IsImage, IsTorn, IsUnsettled}
use Rattle.block_traits.specs.Disk.{DiskState}
use Rattle.eli_base.specs.Keying.{Keying}
use Rattle.provider.specs.Answers.{SectorRequest}
use Rattle.sector_runs.specs.declared.faults.ReadFault.{ReadFault}
use Rattle.sector_runs.specs.declared.faults.ReadFault.TheVariants as fault
use Rattle.range_keys.specs.Ring.{IsKeying}
use Rattle.readings.specs.Crashes.{IsFlushed, ReadsWithCauses, image_unit, image_units}
use Rattle.readings.specs.Ever.{ever}
use Rattle.readings.specs.Read.{Matches, read, read_sector}
use Rattle.readings.specs.Steps.{Step, after, cell}
use Rattle.readings.specs.Survivors.{AreSteps, ReadsAsPut, chosen, moment}
use Rattle.readings.specs.Writings.{PutUnit, Put, Writing}
use Rattle.sealing.specs.Sectors.{IsSingle, joined, unit_place, units}
use Rattle.provider_disk.specs.Opened.{KeepsLastData, opened_content, opened_events, opened_data_sectors}

-- ---- what is done below and above

-- what the disk below reported after the first t of these events
abbrev pub content_below : Content → List Event → ℕ → Content
content_below c events t = at_moment (length c.history + t) (with_events events c)

-- how many steps were done above once the first t of these events were logged below
abbrev pub steps_above : Keying → Content → List Event → ℕ → ℕ
steps_above k c events t = length (opened_events k (length c.base - 1) (take t events))

-- these events were logged below while these steps were done on the disk upon the provider
pub record AreStepsOver (k : Keying) (c : Content) (events : List Event) (steps : List Step) : Type 0 where
  pub valid : IsKeying k
  pub single : IsSingle k
  pub fits : IsContentOf (length c.base) c
  pub same : opened_content k (with_events events c) ≡ after steps (opened_content k c)
  pub good : AreSteps steps

-- what the sectors of the disk upon the provider may hold after the first t events below, as writings
abbrev pub cells_above : Keying → Content → List Event → List Step → ℕ → ℕ → List Writing
cells_above k c events steps t = cell (opened_content k c) (take (steps_above k c events t) steps)

-- what the disk upon the provider reported after the first t events below
abbrev pub content_above : Keying → Content → List Event → List Step → ℕ → Content
content_above k c events steps t = moment (steps_above k c events t) steps (opened_content k c)

-- ---- if power fails below

-- What `Endures` (readings) promises of a logical sector of a provider under keying j that stands on a disk upon a
-- provider under keying k, carried over to the images of the disk below: each is opened, and then reads as promised of
-- the steps done above. A torn or altered image is taken to hold a kept value in the last data sector below, which has
-- the metadata above.
pub record EnduresBelow (k j : Keying) (c : Content) (events : List Event) (steps : List Step) (t sector : ℕ) : Type 0 where
  pub whole : (choice : ℕ → ℕ) (image : List (List ℕ)) → IsImage (content_below c events t) choice image →
      image_units j sector (opened_data_sectors k image) ≡ read j sector (chosen j sector (cells_above k c events steps t) choice)
  pub torn : (image : List (List ℕ)) → IsTorn (content_below c events t) image → KeepsLastData (content_below c events t) image →
      ReadsWithCauses j sector (cells_above k c events steps t) (IsUnsettled (content_above k c events steps t))
      (ever (opened_content k c) (take (steps_above k c events t) steps)) (opened_data_sectors k image)
  pub altered : (image : List (List ℕ)) → IsAltered (content_below c events t) image → KeepsLastData (content_below c events t) image →
      ReadsWithCauses j sector (cells_above k c events steps t) (λ n. Unit {0})
      (ever (opened_content k c) (take (steps_above k c events t) steps)) (opened_data_sectors k image)
  pub flushed : (place : ℕ) (p : PutUnit) → place < units j → IsFlushed (take (steps_above k c events t) steps) (unit_place j sector place) (Put p) →
      Matches j sector place (Put p) p → (image : List (List ℕ)) → IsTorn (content_below c events t) image → KeepsLastData (content_below c events t) image →
      ReadsAsPut j p (image_unit j sector (opened_data_sectors k image) place)

-- ---- what a provider on the survivor reads

-- what each of so many logical sectors reads as, from the writings that are chosen of the cells
abbrev pub sectors_chosen : Keying → ℕ → ℕ → (ℕ → List Writing) → (ℕ → ℕ) → List (Result (List ℕ) ℕ)
sectors_chosen j sector zero cells choice = []
sectors_chosen j sector (suc count) cells choice = read_sector j sector (chosen j sector cells choice) ∷ sectors_chosen j (sector + 1) count cells choice

-- the bytes of these logical sectors one after the other, or the first fault among them
abbrev pub data_chosen : Keying → ℕ → ℕ → (ℕ → List Writing) → (ℕ → ℕ) → Result (List ℕ) ℕ
data_chosen j sector count cells choice = joined (sectors_chosen j sector count cells choice)

-- what a read of some sectors gives: what the writings that are chosen of the cells say; or the range passes the end,
-- or the disk failed
abbrev pub ReadsChosen : Keying → SectorRequest → (ℕ → List Writing) → (ℕ → ℕ) → List ℕ → Result (Unit {0}) ReadFault → DiskState → DiskState → Type 0
ReadsChosen j r cells choice bytes (Ok done) old new = data_chosen j r.sector r.count cells choice ≡ Ok bytes
ReadsChosen j r cells choice bytes (Err (fault.Integrity offset)) old new = data_chosen j r.sector r.count cells choice ≡ Err offset
ReadsChosen j r cells choice bytes (Err (fault.OutOfRange first asked media)) old new = r.media < r.sector + r.count
ReadsChosen j r cells choice bytes (Err fault.DeviceFault) old new = Rose old.faults new.faults
