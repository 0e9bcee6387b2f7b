use Rattle.aes_planes.proofs.NumberLaws.{number_back}
use Rattle.aes_planes.proofs.round_keys.number.Goals as goal

pub returns : goal.returns
returns c = number_back c.args.v c.from-2.result c.from.result c.requires c.from-2.ensures c.from.ensures
