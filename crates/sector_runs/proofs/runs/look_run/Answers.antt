use Rattle.std.proofs.Common.{◌≡◌, ◌*◌, ◌/◌, ◌%◌, ℕ, Ok, length, refl, subst, sym, ap, ◌∙◌}
use Rattle.block_traits.specs.Disk.{GivesEach}
use Rattle.sealing.specs.Sectors.{units}
use Rattle.sector_runs.specs.Reading.{ReadsAs}
use Rattle.sector_runs.proofs.Data.{reads_looked, whole_device}
use Rattle.sector_runs.proofs.runs.look_run.Goals as goal

pub returns-clause-reads : goal.returns-clause-reads
returns-clause-reads g c = λ _.
    let state = g.D.Disk.state c.args.disk.now in
    let k = c.args.ring.now.keying in
    let sector = c.args.sector in
    let device = c.peek.new.into in
    let layout = c.layout-units.ensures in
    let count : ℕ = length device / k.sectorsize in
    let counted : length c.args.into.now / k.sectorsize ≡ count = ap (λ (n : ℕ). n / k.sectorsize) (sym c.peek.auto.into) in
    let whole : length device % k.sectorsize ≡ 0 = ap (λ (n : ℕ). n % k.sectorsize) c.peek.auto.into ∙ c.requires.whole in
    let long = whole_device k (length device) (count * (512 * units k)) c.requires.off whole refl layout.keying in
    let stand = subst (λ (u : ℕ). GivesEach state (sector * u) device) layout.units (c.peek.ensures.stand c.if-not-peek.false) in
    subst (λ (n : ℕ). ReadsAs state k sector n (Ok c.open_in_place.new.into)) (sym counted) (reads_looked state.content k sector count device (Ok c.open_in_place.new.into) stand long c.open_in_place.ensures.opened)
