use Rattle.std.proofs.Common.{rules, ◌≡◌, ◌≢◌, ◌+◌, ◌*◌, ◌/◌, ℕ, Some, Err, length, subst, sym, ap, ◌∙◌, arith}
use Rattle.eli_base.specs.declared.algorithms.Auth.TheVariants.{Off}
use Rattle.sealing.specs.Sectors.{units}
use Rattle.sector_runs.specs.Verdicts.{IsFirstRefused, accepted_among}
use Rattle.sector_runs.proofs.Data.{opened_refused, refused_within, whole_device}
use Rattle.sector_runs.proofs.sector_groups.open_sectors.Goals as goal

pub copy_from_slice-requires : goal.copy_from_slice-requires
copy_from_slice-requires c =
    let off : c.args.ring.now.keying.auth ≡ Off = search rules in
    whole_device c.args.ring.now.keying (length c.args.out.now) (length c.args.device.now) off c.requires.whole c.requires.device c.layout-units.ensures.keying

pub overflow_add-result : goal.overflow_add-result
overflow_add-result c =
    let within = refused_within c.args.ring.now.keying c.args.sector (length c.args.out.now / c.args.ring.now.keying.sectorsize) c.layout-units.result.units c.in-Some.m (length c.args.device.now) c.layout-units.ensures.units c.requires.device c.in-Some.ensures.0 c.requires.place in
    omega (arith, within)

pub overflow_mul-result : goal.overflow_mul-result
overflow_mul-result c =
    let within = refused_within c.args.ring.now.keying c.args.sector (length c.args.out.now / c.args.ring.now.keying.sectorsize) c.layout-units.result.units c.in-Some.m (length c.args.device.now) c.layout-units.ensures.units c.requires.device c.in-Some.ensures.0 c.requires.place in
    omega (arith, within)

pub returns-in-Some-clause-opened : goal.returns-in-Some-clause-opened
returns-in-Some-clause-opened c =
    let k = c.args.ring.now.keying in
    let sector = c.args.sector in
    let device = c.args.device.now in
    let m = c.in-Some.m in
    let count : ℕ = length c.args.out.now / k.sectorsize in
    let rows = c.layout-units.ensures.units in
    let some = c.layout-units.result.some_units in
    let spread : count * (512 * units k) ≡ 512 * (count * units k) = omega arith in
    let on : k.auth ≢ Off = search rules in
    let found = subst (λ (u : ℕ). IsFirstRefused (accepted_among k (sector * u) device) (length device / 512) (Some m)) rows c.in-Some.ensures in
    opened_refused k sector count m device on (omega (arith, some, rows)) (omega (arith, found.0, spread, c.requires.device)) found.2 found.1
    ∙ ap (λ (u : ℕ). Err (512 * (sector * u + m))) (sym rows)
