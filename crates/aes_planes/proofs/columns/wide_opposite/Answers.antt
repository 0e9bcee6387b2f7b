use Rattle.std.proofs.Common.{◌+◌, ◌%◌, refl}
use Rattle.aes_planes.specs.Planes.{opposite_row}
use Rattle.aes_planes.proofs.WideLaws.{moved_sides}
use Rattle.aes_planes.proofs.columns.wide_opposite.Goals as goal

pub returns-clause-sides : goal.returns-clause-sides
returns-clause-sides c = moved_sides (λ k. (k + 8) % 16) opposite_row c.args.v c.requires (λ h. refl) (λ h. refl)

pub returns-clause-long : goal.returns-clause-long
returns-clause-long c = refl
