use Rattle.sealing.proofs.Single.{reads_alone, sealed_alone}
use Rattle.sealing.proofs.laws.device_sector_by_its_number.Goals as goal

pub returns : goal.returns
returns c = record {
  sealed = λ k number bytes is single len. sealed_alone k number bytes is single len;
  read = λ k number sector is single len. reads_alone k number sector is single len;
}
