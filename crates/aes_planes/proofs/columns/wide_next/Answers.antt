use Rattle.std.proofs.Common.{◌+◌, ◌%◌, refl}
use Rattle.aes_planes.specs.Planes.{next_row}
use Rattle.aes_planes.proofs.WideLaws.{moved_sides}
use Rattle.aes_planes.proofs.columns.wide_next.Goals as goal

pub returns-clause-sides : goal.returns-clause-sides
returns-clause-sides c = moved_sides (λ k. (k + 4) % 16) next_row c.args.v c.requires (λ h. refl) (λ h. refl)

pub returns-clause-long : goal.returns-clause-long
returns-clause-long c = refl
