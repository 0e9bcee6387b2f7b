use Rattle.std.proofs.Common.{◌∙◌, sym, ap, ◌*◌}
use Rattle.block_traits.proofs.PartLists.{get_or-parts}
use Rattle.eli_base.specs.Units.{unit_bytes_of}
use Rattle.sealing.specs.TaggedUnits.{sealed_tagged}
use Rattle.sealing.specs.Sectors.{unit_place, units}
use Rattle.sealing.proofs.TaggedUnitLaws.{sealed_unit-place, unit_reading-alone}
use Rattle.sealing.proofs.laws.tagged_units_stand_alone.Goals as goal

pub returns : goal.returns
returns c = record {
  sealed = λ k sector j bytes on lt. sealed_unit-place k sector j bytes on lt ∙ ap (sealed_tagged k (512 * unit_place k sector j)) (sym (get_or-parts (unit_bytes_of k.auth) (units k) j bytes lt));
  read = λ k sector j sectors on count lt. unit_reading-alone k sector j sectors on count lt;
}
