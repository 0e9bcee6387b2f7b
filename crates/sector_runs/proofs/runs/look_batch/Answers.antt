use Rattle.std.proofs.Common.{◌≡◌, ◌*◌, ◌/◌, ℕ, Ok, length, subst, sym, ◌∙◌, arith}
use Rattle.std.proofs.lemmas.Grind.{common_steps}
use Rattle.block_traits.specs.Disk.{GivesEach}
use Rattle.sealing.specs.Sectors.{units}
use Rattle.sector_runs.proofs.Data.{opened_ok, reads_looked}
use Rattle.sector_runs.proofs.runs.look_batch.Goals as goal

pub returns-clause-reads : goal.returns-clause-reads
returns-clause-reads g c = λ _.
    let state = g.D.Disk.state c.args.disk.now in
    let k = c.args.ring.now.keying in
    let sector = c.args.sector in
    let device = c.peek.new.into in
    let count : ℕ = length c.args.into.now / k.sectorsize in
    let long : length device ≡ count * (512 * units k) = c.peek.auto.into ∙ c.requires.device in
    let stand = subst (λ (u : ℕ). GivesEach state (sector * u) device) c.layout-units.ensures.units (c.peek.ensures.stand c.if-not-peek.false) in
    let opened = opened_ok c.open_sectors.result _ _ (sym c.is_err.ensures.value ∙ c.if-is_err.false) c.open_sectors.ensures.opened in
    reads_looked state.content k sector count device (Ok c.open_sectors.new.out) stand long opened

pub returns-then-not-peek-clause-asked : goal.returns-then-not-peek-clause-asked
returns-then-not-peek-clause-asked g c = grind (arith, common_steps) steps 400000

pub returns-then-not-peek-clause-logs : goal.returns-then-not-peek-clause-logs
returns-then-not-peek-clause-logs g c = grind (arith, common_steps) steps 400000

pub returns-then-not-peek-clause-reads : goal.returns-then-not-peek-clause-reads
returns-then-not-peek-clause-reads g c = grind (arith, common_steps) steps 400000

pub returns-then-not-peek-clause-left : goal.returns-then-not-peek-clause-left
returns-then-not-peek-clause-left g c = grind (arith, common_steps) steps 400000

pub returns-then-not-peek-clause-missed : goal.returns-then-not-peek-clause-missed
returns-then-not-peek-clause-missed g c = grind (arith, common_steps) steps 400000

pub returns-then-not-peek-clause-keying : goal.returns-then-not-peek-clause-keying
returns-then-not-peek-clause-keying g c = grind (arith, common_steps) steps 400000

pub returns-then-is_err-clause-asked : goal.returns-then-is_err-clause-asked
returns-then-is_err-clause-asked g c = grind (arith, common_steps) steps 400000

pub returns-then-is_err-clause-logs : goal.returns-then-is_err-clause-logs
returns-then-is_err-clause-logs g c = grind (arith, common_steps) steps 400000

pub returns-then-is_err-clause-reads : goal.returns-then-is_err-clause-reads
returns-then-is_err-clause-reads g c = grind (arith, common_steps) steps 400000

pub returns-then-is_err-clause-left : goal.returns-then-is_err-clause-left
returns-then-is_err-clause-left g c = grind (arith, common_steps) steps 400000

pub returns-then-is_err-clause-missed : goal.returns-then-is_err-clause-missed
returns-then-is_err-clause-missed g c = grind (arith, common_steps) steps 400000

pub returns-then-is_err-clause-keying : goal.returns-then-is_err-clause-keying
returns-then-is_err-clause-keying g c = grind (arith, common_steps) steps 400000

pub returns-clause-asked : goal.returns-clause-asked
returns-clause-asked g c = grind (arith, common_steps) steps 400000

pub returns-clause-logs : goal.returns-clause-logs
returns-clause-logs g c = grind (arith, common_steps) steps 400000

pub returns-clause-left : goal.returns-clause-left
returns-clause-left g c = grind (arith, common_steps)

pub returns-clause-missed : goal.returns-clause-missed
returns-clause-missed g c = grind (arith, common_steps) steps 400000

pub returns-clause-keying : goal.returns-clause-keying
returns-clause-keying g c = grind (arith, common_steps) steps 400000
