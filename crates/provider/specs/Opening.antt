-- The slot of the metadata that a provider's key opens, or why there is none (geli(8), "attach", `-n`).
use Rattle.std.specs.Prelude.{◌≡◌, ℕ, ◌≤◌, List, Option, Some, None}
use Rattle.eli_base.specs.declared.parameters.Params.{Params}
use Rattle.eli_base.specs.Units.{media_sectors}
use Rattle.eli_metadata.specs.declared.metadata.Metadata.{Metadata}
use Rattle.provider.specs.declared.faults.AttachFault.{AttachFault}
use Rattle.provider.specs.declared.faults.AttachFault.TheVariants as attach
use Rattle.key_slots.specs.Slots.{OpensAsNamed, opened}

-- the logical sectors that the parameters leave room for
abbrev pub params_media : Params → ℕ
params_media p = media_sectors p.auth p.sectorsize p.provsize

-- a provider of so many logical sectors has one, and the slot that is asked for opens with the user key u to this
-- master key
pub record SlotOpens (m : Metadata) (media : ℕ) (u : List ℕ) (named : Option ℕ) (slot : ℕ) (master : List ℕ) : Type 0 where
  pub room : 1 ≤ media
  pub opened : opened m u named ≡ Some (record { bytes = master }, slot)
  pub opens : OpensAsNamed m u named slot master

-- why no slot opens: there is no room for a logical sector, or no slot that is asked for opens
abbrev pub SlotFails : Metadata → Params → List ℕ → Option ℕ → AttachFault → Type 0
SlotFails m p u named (attach.TooSmall size) = (params_media p ≡ 0) × (size ≡ p.provsize)
SlotFails m p u named attach.WrongKey =
    (1 ≤ params_media p) × (opened m u named ≡ None) × ((s : ℕ) (master : List ℕ) → ¬ OpensAsNamed m u named s master)
SlotFails m p u named attach.NoMemory = ⊥
