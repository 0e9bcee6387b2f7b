use Rattle.std.proofs.Common.{ℕ, ◌+◌, ◌*◌, ◌/◌, ◌≤◌, length, subst}
use Rattle.sealing.specs.Sectors.{units}
use Rattle.provider.proofs.Ranges.{request_inside}
use Rattle.provider.proofs.provider.Provider.write.Goals as goal

pub write_run-requires-clause-inside : goal.write_run-requires-clause-inside
write_run-requires-clause-inside g c =
    let fits = rw (← c.self.view_is) at c.in_ok-check_range.ensures.answer in
    let k = c.self.inside.ring.keying in
    let size = (g.D.Disk.state c.self.inside.disk).size in
    let bytes = length c.args.from.now in
    rw c.get_mut.ensures.value (
    subst (λ (s : ℕ). (c.args.sector + bytes / s) * units k ≤ size) (rw c.get.ensures at c.layout-size.ensures.size) (request_inside k c.args.sector (bytes / c.layout-size.result.size) size fits)
    )
