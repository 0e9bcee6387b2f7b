use Rattle.std.proofs.Common.{◌≡◌, ℕ, ◌+◌, ◌-◌, ◌*◌, ◌/◌, ◌<◌, ◌≤◌, min, [], refl, subst, ap, ◌∙◌, arith}
use Rattle.std.proofs.lemmas.Grind.{common_steps}
use Rattle.block_traits.proofs.Causes.{Counted-then}
use Rattle.block_traits.proofs.Logs.{FailsIn-then}
use Rattle.eli_base.specs.Keying.{Keying}
use Rattle.eli_base.specs.Units.{media_sectors}
use Rattle.provider.specs.Attached.{media}
use Rattle.sector_runs.specs.Reads.{FailsAmong}
use Rattle.sealing.specs.Sectors.{units}
use Rattle.verify_sweep.specs.Sweeping.{Looks, Sweep}
use Rattle.verify_sweep.proofs.Listing.{ListsFailing-next, few_failing, sweep_fails, unit_small, units_within}
use Rattle.verify_sweep.proofs.sweeping.sweep.Goals as goal

pub overflow_add-first : goal.overflow_add-first
overflow_add-first g c =
    let state = g.D.Disk.state in
    let k = c.args.on.now.keying in
    let disk = state c.args.on.now.disk in
    let units_is : c.units-units.result ≡ units k = c.units-units.ensures.units in
    let there : c.sectors.result ≡ media k disk = c.sectors.ensures in
    let fits : c.args.start + c.min-sectors.result ≤ media k disk = omega (arith, there, c.min.ensures, c.min-sectors.ensures, c.requires.place) in
    let P : ℕ → Type 0 = λ u. c.args.start * u + c.min-sectors.result * u ≤ media k disk * u in
    let within = units_within c.args.start c.min-sectors.result c.units-units.result (media k disk) fits in
    let same : media k disk * c.units-units.result ≡ media k disk * units k = ap (λ (u : ℕ). media k disk * u) units_is in
    let small = unit_small k (c.args.start * c.units-units.result + c.min-sectors.result * c.units-units.result) disk.size (omega (arith, within, same)) disk.well_formed.bound in
    omega (arith, small)

pub look_on-requires-clause-inside : goal.look_on-requires-clause-inside
look_on-requires-clause-inside g c =
    let state = g.D.Disk.state in
    let k = c.args.on.now.keying in
    let disk = state c.args.on.now.disk in
    let units_is : c.units-units.result ≡ units k = c.units-units.ensures.units in
    let there : c.sectors.result ≡ media k disk = c.sectors.ensures in
    let fits : c.args.start + c.min-sectors.result ≤ media k disk = omega (arith, there, c.min.ensures, c.min-sectors.ensures, c.requires.place) in
    let within = units_within c.args.start c.min-sectors.result c.units-units.result (media k disk) fits in
    let same : media k disk * c.units-units.result ≡ media k disk * units k = ap (λ (u : ℕ). media k disk * u) units_is in
    let kept = c.looks.invariant.kept in
    let size = c.looks.invariant.lists.logs.size in
    let F : Keying → ℕ → ℕ = λ (j : Keying) (m : ℕ). media_sectors j.auth j.sectorsize (512 * m) * units j in
    let now : F c.looks.on.keying (state c.looks.on.disk).size ≡ F k disk.size = (λ i. F (kept.keying i) (size i)) in
    omega (arith, within, same, now, c.looks-test.true)

pub returns-in_err-many-clause-answer : goal.returns-in_err-many-clause-answer
returns-in_err-many-clause-answer g c =
    let state = g.D.Disk.state in
    let k = c.args.on.now.keying in
    let disk = state c.args.on.now.disk in
    let units_is : c.units-units.result ≡ units k = c.units-units.ensures.units in
    let there : c.sectors.result ≡ media k disk = c.sectors.ensures in
    let swept_is : c.min-sectors.result ≡ min (min c.args.count (media k disk - c.args.start)) (16384 / units k) =
    c.min-sectors.ensures ∙ (λ i. min ((c.min.ensures ∙ ap (λ (m : ℕ). min c.args.count (m - c.args.start)) there) i) (16384 / units_is i)) in
    let count : c.min-sectors.result * c.units-units.result ≡ min (min c.args.count (media k disk - c.args.start)) (16384 / units k) * units k = (λ i. swept_is i * units_is i) in
    let lists = c.looks.invariant.lists in
    let done = c.looks.done in
    let fails : FailsAmong (min (min c.args.count (media k disk - c.args.start)) (16384 / units k) * units k) disk (state c.look_on.new.on.disk) = record {
      unit = done;
      within = let P : ℕ → Type 0 = λ m. done < m in subst P count c.looks-test.true;
      fails = record {
        asked = Counted-then done 1 (done + 1) refl lists.asked c.in_err-many.ensures.err.asked;
        fails = FailsIn-then [] [] lists.logs c.in_err-many.ensures.err.fails;
      };
    } in
    let s : Sweep = record { keying = k; media = media k disk; start = c.args.start; count = c.args.count } in
    sweep_fails s c.args.found.now c.look_on.new.found c.from_residual.result disk (state c.look_on.new.on.disk) c.from_residual.ensures.0 fails

pub looks-preserved : goal.looks-preserved
looks-preserved g c =
    let state = g.D.Disk.state in
    let k = c.args.on.now.keying in
    let n : ℕ = c.args.start * c.units-units.result + c.looks.done in
    let was = c.looks.invariant.kept in
    let seen = c.in_ok-many.ensures in
    let P : Keying → Type 0 = λ j. Looks j n c.in_ok-many.many c.looks.bad c.in_ok-many.now c.looks.found c.look_on.new.found (state c.looks.on.disk) (state c.look_on.new.on.disk) in
    let looks = subst P was.keying seen.ok in
    let most = few_failing k n looks.sectors in
    let few = c.looks.invariant.few in
    record {
      kept = record { keying = seen.kept.keying ∙ was.keying; slot = seen.kept.slot ∙ was.slot; readonly = seen.kept.readonly ∙ was.readonly };
      within = omega (arith, seen.many.1);
      few = omega (arith, looks.lists.now_is, most, looks.all, few);
      lists = ListsFailing-next k (c.args.start * c.units-units.result) c.looks.done c.in_ok-many.many c.looks.bad c.in_ok-many.now c.args.found.now c.looks.found c.look_on.new.found (state c.args.on.now.disk)
          (state c.looks.on.disk) (state c.look_on.new.on.disk) c.looks.invariant.lists looks;
    }

pub returns-in_err-many-clause-kept : goal.returns-in_err-many-clause-kept
returns-in_err-many-clause-kept g c = grind (arith, common_steps) steps 400000

pub returns-clause-answer : goal.returns-clause-answer
returns-clause-answer g c = grind (arith, common_steps)

pub returns-clause-kept : goal.returns-clause-kept
returns-clause-kept g c = grind (arith, common_steps) steps 400000
