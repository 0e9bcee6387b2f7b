use Rattle.std.proofs.Common.{◌+◌, ◌*◌, ◌/◌, ◌%◌, refl}
use Rattle.aes_planes.specs.Planes.{shift_out}
use Rattle.aes_planes.proofs.WideLaws.{moved_sides}
use Rattle.aes_planes.proofs.rows.wide_moved_out.Goals as goal

pub returns-clause-sides : goal.returns-clause-sides
returns-clause-sides c = moved_sides (λ k. ((k + 4 * (k % 4)) % 16) % 4 * 4 + ((k + 4 * (k % 4)) % 16) / 4) shift_out c.args.v c.requires (λ h. refl) (λ h. refl)

pub returns-clause-long : goal.returns-clause-long
returns-clause-long c = refl
