use Rattle.sealing.proofs.Sectors.{length-seal, All-seal}
use Rattle.sealing.proofs.laws.sealed_sectors_are_whole.Goals as goal

pub returns : goal.returns
returns c = record {
  count = λ k sector bytes. length-seal k sector bytes;
  each = λ k sector bytes is small size. All-seal k sector bytes is size small;
}
