use Rattle.std.proofs.Common.{◌+◌, ◌*◌, ◌/◌, ◌%◌, refl}
use Rattle.aes_planes.specs.Planes.{unshift_between}
use Rattle.aes_planes.proofs.WideLaws.{moved_sides}
use Rattle.aes_planes.proofs.rows.wide_unmoved_between.Goals as goal

pub returns-clause-sides : goal.returns-clause-sides
returns-clause-sides c = moved_sides (λ k. (((k % 4 * 4 + k / 4) + 12 * ((k % 4 * 4 + k / 4) % 4)) % 16) % 4 * 4 + (((k % 4 * 4 + k / 4) + 12 * ((k % 4 * 4 + k / 4) % 4)) % 16) / 4) unshift_between c.args.v c.requires (λ h. refl) (λ h. refl)

pub returns-clause-long : goal.returns-clause-long
returns-clause-long c = refl
