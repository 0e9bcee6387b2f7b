-- The device bytes of a writing are a sector, and those of a matching one a part of what its logical sector is sealed
-- to.
use Rattle.std.proofs.Common.{◌≡◌, ◌≢◌, ℕ, ◌+◌, ◌*◌, ◌<◌, List, [], get_or, All, ap, ◌∙◌}
use Rattle.std.proofs.lemmas.List.Elements.{All-map, All-weaker}
use Rattle.eli_base.specs.declared.algorithms.Auth.{Auth}
use Rattle.eli_base.specs.declared.algorithms.Auth.TheVariants.{Off}
use Rattle.eli_base.specs.Keying.{Keying}
use Rattle.eli_base.specs.Units.{unit_bytes_of}
use Rattle.block_traits.specs.Content.{IsSector}
use Rattle.block_traits.proofs.PartLists.{part, get_or-parts}
use Rattle.sealing.specs.Runs.{sealed_run}
use Rattle.sealing.specs.TaggedUnits.{sealed_tagged}
use Rattle.sealing.specs.Sectors.{units, units_in, seal}
use Rattle.sealing.proofs.TaggedUnitLaws.{sealed_unit-tagged}
use Rattle.sealing.proofs.Sectors.{length-sealed_unit, sealed_unit-off}
use Rattle.readings.specs.Writings.{PutUnit, Writing, Put, Raw, IsWriting, device_bytes, all_device_bytes, plain_bytes}
use Rattle.readings.specs.Read.{Matches}

pub device_bytes-off : (k : Keying) (sector j : ℕ) (w : Writing) (p : PutUnit) → k.auth ≡ Off → j < units k → Matches k sector j w p
    → device_bytes w ≡ part 512 j (sealed_run k (sector * k.sectorsize) p.bytes)
device_bytes-off k sector j w p off lt m =
    ap device_bytes m.is ∙ (λ i. get_or (seal (m.keying i) (m.of_sector i) p.bytes) (m.unit i) []) ∙ sealed_unit-off k sector j p.bytes off lt

pub device_bytes-tagged : (k : Keying) (sector j : ℕ) (w : Writing) (p : PutUnit) → k.auth ≢ Off → j < units k → Matches k sector j w p
    → device_bytes w ≡ sealed_tagged k (512 * (sector * units k) + 512 * j) (part (unit_bytes_of k.auth) j p.bytes)
device_bytes-tagged k sector j w p on lt m =
    ap device_bytes m.is ∙ (λ i. get_or (seal (m.keying i) (m.of_sector i) p.bytes) (m.unit i) []) ∙ sealed_unit-tagged k sector j p.bytes on lt

pub plain_bytes-unit : (k : Keying) (sector j : ℕ) (w : Writing) (p : PutUnit) → j < units k → Matches k sector j w p
    → plain_bytes p ≡ part (unit_bytes_of k.auth) j p.bytes
plain_bytes-unit k sector j w p lt m =
    (λ i. get_or (units_in (m.keying i) p.bytes) (m.unit i) []) ∙ get_or-parts (unit_bytes_of k.auth) (units k) j p.bytes lt

pub plain_bytes-off : (k : Keying) (sector j : ℕ) (w : Writing) (p : PutUnit) → k.auth ≡ Off → j < units k → Matches k sector j w p
    → plain_bytes p ≡ part 512 j p.bytes
plain_bytes-off k sector j w p off lt m = plain_bytes-unit k sector j w p lt m ∙ ap (λ (a : Auth). part (unit_bytes_of a) j p.bytes) off

IsSector-writing : (w : Writing) → IsWriting w → IsSector (device_bytes w)
IsSector-writing (Put p) is = length-sealed_unit p.keying p.sector p.unit p.bytes is.keying is.size is.bytes is.unit
IsSector-writing (Raw bytes) is = is

pub AreSectors-writings : (ws : List Writing) → All IsWriting ws → All IsSector (all_device_bytes ws)
AreSectors-writings ws each = All-map IsSector device_bytes ws (All-weaker IsWriting (λ (w : Writing). IsSector (device_bytes w)) IsSector-writing ws each)
