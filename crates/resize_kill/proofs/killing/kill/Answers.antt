use Rattle.std.proofs.Common.{◌≤◌, ◌-◌, ℕ, arith, subst}
use Rattle.std.proofs.lemmas.Grind.{common_steps}
use Rattle.block_traits.specs.Disk.{FailsIn, Logs}
use Rattle.block_traits.specs.Overwriting.{overwrite_events}
use Rattle.resize_kill.specs.Trash.{trash_sectors}
use Rattle.resize_kill.proofs.killing.kill.Goals as goal

pub returns-in-Ok-destroy : goal.returns-in-Ok-destroy
returns-in-Ok-destroy g c =
    let disk = g.D.Disk.state c.args.disk.now in
    let P : ℕ → Type 0 = λ sectors. Logs (overwrite_events (sectors - 1) (trash_sectors c.in-Ok.random)) disk (g.D.Disk.state c.destroy.new.disk) in
    let logs = subst P c.sectors-sectors.ensures c.in-Ok-destroy.ensures.ok in
    let enough : 2 ≤ disk.size = omega (arith, c.sectors-sectors.ensures) in
    record { enough = enough; random = c.in-Ok.random; takes = c.in-Ok.ensures.ok; logs = logs; unasked = c.destroy.ensures.unasked }

pub returns-in-Err : goal.returns-in-Err
returns-in-Err g c =
    let disk = g.D.Disk.state c.args.disk.now in
    let P : ℕ → Type 0 = λ sectors. FailsIn (overwrite_events (sectors - 1) (trash_sectors c.in-Ok.random)) disk (g.D.Disk.state c.destroy.new.disk) in
    let fails = subst P c.sectors-sectors.ensures c.in-Err.ensures.err in
    let enough : 2 ≤ disk.size = omega (arith, c.sectors-sectors.ensures) in
    record { enough = enough; random = c.in-Ok.random; takes = c.in-Ok.ensures.ok; fails = fails; unasked = c.destroy.ensures.unasked }

pub returns-then-sectors-lt2 : goal.returns-then-sectors-lt2
returns-then-sectors-lt2 g c = grind (arith, common_steps) steps 400000

pub returns-in_default : goal.returns-in_default
returns-in_default g c = grind (arith, common_steps) steps 400000
