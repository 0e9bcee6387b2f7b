use Rattle.std.proofs.Common.{◌≡◌, ◌+◌, ◌*◌, ◌/◌, ◌%◌, ◌<◌, ℕ, Bool, false, List, get_or, length, subst, ap, ◌∙◌, arith}
use Rattle.std.proofs.Math.Nat.{div-add-mod, div-lt_iff_lt-mul}
use Rattle.std.proofs.lemmas.List.{length-set}
use Rattle.sealing.specs.Sectors.{units}
use Rattle.sector_runs.specs.Verdicts.{accepted_among}
use Rattle.sector_runs.proofs.FourSectors.{each_of_four}
use Rattle.sector_runs.proofs.Verdicts.{column_put, judged_apart}
use Rattle.sector_runs.proofs.judging.judge_four_sectors.Goals as goal

pub loop-j-preserved : goal.loop-j-preserved
loop-j-preserved c =
    let k = c.args.ring.now.keying in
    let n = c.args.n in
    let device = c.args.device.now in
    let before = c.loop-j.invariant in
    let u = c.unit-unit in
    let j : ℕ = c.loop-j.j in
    let rows : ℕ = c.layout-units.result.units in
    let count = c.layout-units.ensures.units in
    let lt : j < units k = subst (λ (m : ℕ). j < m) count c.loop-j-test.true in
    let result = c.apart_accepted.result in
    let call = c.apart_accepted.ensures in
    let P : ℕ → ℕ → Bool = λ (j i : ℕ). accepted_among k n device (i * rows + j) in
    let few : j < length c.loop-j.accepted = omega (arith, before.long, lt, c.requires.few) in
    record {
      long = length-set c.loop-j.accepted j result ∙ before.long;
      each = column_put j c.loop-j.accepted result P few before.each
          (each_of_four (λ (i : ℕ). get_or result i false ≡ P j i)
          (ap (λ (l : List Bool). get_or l 0 false) call ∙ judged_apart k n rows j 0 _ u.result.start u.result.end _ _ device count c.requires.begins lt u.ensures.bytes (omega (arith, u.ensures.offset)) (omega arith) (omega arith))
          (ap (λ (l : List Bool). get_or l 1 false) call ∙ judged_apart k n rows j 1 _ u.result.start u.result.end _ _ device count c.requires.begins lt u.ensures.bytes (omega (arith, u.ensures.offset)) (omega arith) (omega arith))
          (ap (λ (l : List Bool). get_or l 2 false) call ∙ judged_apart k n rows j 2 _ u.result.start u.result.end _ _ device count c.requires.begins lt u.ensures.bytes (omega (arith, u.ensures.offset)) (omega arith) (omega arith))
          (ap (λ (l : List Bool). get_or l 3 false) call ∙ judged_apart k n rows j 3 _ u.result.start u.result.end _ _ device count c.requires.begins lt u.ensures.bytes (omega (arith, u.ensures.offset)) (omega arith) (omega arith)));
    }

pub returns : goal.returns
returns c =
    let k = c.args.ring.now.keying in
    let rows : ℕ = c.layout-units.result.units in
    let some = c.layout-units.result.some_units in
    let count = c.layout-units.ensures.units in
    let end : c.loop-j.j ≡ rows = omega arith in
    record {
      some = omega (arith, some);
      within = omega (arith, count, c.requires.all);
      each = λ m lt.
          let low : m % rows < c.loop-j.j = omega (arith, some, end) in
          let at : m / rows * rows + m % rows ≡ m = omega (arith, div-add-mod m rows) in
          c.loop-j.invariant.each (m % rows) (m / rows) low ((div-lt_iff_lt-mul (omega (arith, some))).1 lt) ∙ ap (accepted_among k c.args.n c.args.device.now) at;
    }
