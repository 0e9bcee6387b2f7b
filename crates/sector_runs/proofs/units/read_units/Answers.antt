use Rattle.std.proofs.Common.{◌≡◌, ◌+◌, ◌*◌, ◌/◌, ◌≤◌, List, ℕ, [], length, subst, sym, ap, refl, ◌∙◌, arith, Option, rules}
use Rattle.block_traits.specs.Content.{Content}
use Rattle.block_traits.specs.Disk.{GivesFrom}
use Rattle.block_traits.proofs.Causes.{Counted-then}
use Rattle.block_traits.proofs.Logs.{FailsIn-then, Logs-then, logged-none}
use Rattle.sector_runs.specs.Reads.{FailsAmong}
use Rattle.sector_runs.proofs.Readings.{StandFrom-next}
use Rattle.sector_runs.proofs.units.read_units.Goals as goal

pub loop-j-preserved : goal.loop-j-preserved
loop-j-preserved g c =
    let state = g.D.Disk.state in
    let start = state c.args.disk.now in
    let before = c.loop-j.invariant in
    let same = before.logs.content ∙ logged-none start.content in
    let P : Option Content → Type 0 = λ told. GivesFrom told (c.args.first + c.loop-j.j) c.read.new.into in
    let gives : GivesFrom start.content (c.args.first + c.loop-j.j) c.read.new.into = subst P same c.in_ok-read.ensures.bytes in
    let put = c.copy_from_slice.ensures.after in
    let Q : List ℕ → Type 0 = λ bytes. GivesFrom start.content (c.args.first + c.loop-j.j) bytes in
    let len : length c.copy_from_slice.new.self ≡ 512 = omega (arith, ap length put) in
    let room : 512 * c.loop-j.j ≤ length c.loop-j.into = omega arith in
    record {
      asked = Counted-then c.loop-j.j 1 (c.loop-j.j + 1) refl before.asked c.in_ok-read.ensures.asked;
      logs = Logs-then [] [] before.logs c.in_ok-read.ensures.ok;
      stand = StandFrom-next start.content c.args.first c.loop-j.j _ c.loop-j.into c.copy_from_slice.new.self before.stand (subst Q (sym put) gives) len room;
    }

pub returns-in_err-read-clause-err : goal.returns-in_err-read-clause-err
returns-in_err-read-clause-err g c =
    let state = g.D.Disk.state in
    let fails : FailsAmong (length c.args.into.now / 512) (state c.args.disk.now) (state c.read.new.self) = record {
      unit = c.loop-j.j;
      within = c.loop-j-test.true;
      fails = record {
        asked = Counted-then c.loop-j.j 1 (c.loop-j.j + 1) refl c.loop-j.invariant.asked c.in_err-read.ensures.asked;
        fails = FailsIn-then [] [] c.loop-j.invariant.logs c.in_err-read.ensures.err;
      };
    } in
    search rules
