use Rattle.sealing.proofs.Sectors.{opened_seal, reading-seal}
use Rattle.sealing.proofs.laws.opening_undoes_sealing.Goals as goal

pub returns : goal.returns
returns c = record {
  units = λ k sector bytes is small size. opened_seal k sector bytes is small size;
  whole = λ k sector bytes is small size. reading-seal k sector bytes is small size;
}
