use Rattle.std.proofs.Common.{◌≡◌, ◌*◌, ◌/◌, ℕ, List, length, subst, sym, ap, ◌∙◌, OnErr, OnOk, arith}
use Rattle.std.proofs.lemmas.Grind.{common_steps}
use Rattle.std.proofs.lemmas.List.{take_at}
use Rattle.block_traits.specs.declared.disk.Event.{Event}
use Rattle.block_traits.specs.Disk.{FailsIn, Logs, write_events}
use Rattle.sealing.specs.Sectors.{units}
use Rattle.sector_runs.specs.Writing.{data_writes}
use Rattle.sector_runs.proofs.Batches.{device_length}
use Rattle.sector_runs.proofs.Data.{written}
use Rattle.sector_runs.proofs.runs.write_batch.Given as given
use Rattle.sector_runs.proofs.runs.write_batch.Goals as goal
use Rattle.sector_runs.proofs.runs.write_batch.Goals.{After-seal_sectors}

-- the bytes of all device sectors
long : (g : given.Over) (c : After-seal_sectors g) → let k = c.args.ring.now.keying in length c.seal_sectors.new.out ≡ length c.args.from.now / k.sectorsize * (512 * units k)
long g c =
    let layout = c.layout-layout.ensures in
    c.seal_sectors.auto.out ∙ device_length c.args.ring.now.keying c.layout-layout.result.size c.layout-layout.result.units (length c.args.from.now) c.args.buffer.now layout.size layout.units c.requires.buffer

-- their writes are those of the logical sectors
writes : (g : given.Over) (c : After-seal_sectors g) → let k = c.args.ring.now.keying in let from = c.args.from.now in
    write_events (c.args.sector * c.layout-layout.result.units) c.seal_sectors.new.out ≡ data_writes k c.args.sector (length from / k.sectorsize) from
writes g c = written c.args.ring.now.keying c.args.sector c.layout-layout.result.units c.args.from.now c.seal_sectors.new.out c.layout-layout.ensures.units (long g c) c.seal_sectors.ensures.sealed

pub returns-clause-ok : goal.returns-clause-ok
returns-clause-ok g c =
    let state = g.D.Disk.state in
    subst (λ (e : List Event). OnOk c.write_sectors.result (Logs e (state c.args.disk.now) (state c.write_sectors.new.self)))
    (writes g (goal.at.returns-clause-ok g c).After-seal_sectors) c.write_sectors.ensures.ok

pub returns-clause-err : goal.returns-clause-err
returns-clause-err g c =
    let state = g.D.Disk.state in
    subst (λ (e : List Event). OnErr c.write_sectors.result (FailsIn e (state c.args.disk.now) (state c.write_sectors.new.self)))
    (writes g (goal.at.returns-clause-err g c).After-seal_sectors) c.write_sectors.ensures.err

pub returns-clause-left : goal.returns-clause-left
returns-clause-left g c =
    let k = c.args.ring.now.keying in
    let sealed = c.seal_sectors.new.out in
    let here = (goal.at.returns-clause-left g c).After-seal_sectors in
    ap (write_events (c.args.sector * units k)) (take_at sealed _ (length c.args.from.now / k.sectorsize * (512 * units k)) (long g here))
    ∙ ap (λ (u : ℕ). write_events (c.args.sector * u) sealed) (sym c.layout-layout.ensures.units)
    ∙ writes g here

pub returns-clause-unasked : goal.returns-clause-unasked
returns-clause-unasked g c = grind (arith, common_steps) steps 400000

pub returns-clause-keying : goal.returns-clause-keying
returns-clause-keying g c = grind (arith, common_steps) steps 400000
