use Rattle.std.proofs.Common.{refl}
use Rattle.aes_planes.specs.Transposition.{transposed_places, transposing}
use Rattle.aes_planes.proofs.WideLaws.{network_sides, network_wide}
use Rattle.aes_planes.proofs.transposition.wide_transposed.Goals as goal

pub returns-clause-sides : goal.returns-clause-sides
returns-clause-sides c = network_sides transposing transposed_places c.args.q _ c.requires refl

pub returns-clause-wide : goal.returns-clause-wide
returns-clause-wide c = network_wide transposing transposed_places c.args.q _ c.requires refl
