use Rattle.std.proofs.Common.{rules}
use Rattle.sector_runs.proofs.UnitLists.{accepted-off}
use Rattle.sector_runs.proofs.runs.read_sector.Goals as goal

pub returns-in-Err-clause-answer : goal.returns-in-Err-clause-answer
returns-in-Err-clause-answer g c =
    let failed = c.in-Err.ensures.err in
    record {
      unit = failed.unit;
      within = failed.within;
      accepted = accepted-off (g.D.Disk.state c.args.disk.now).content c.args.ring.now.keying c.args.sector failed.unit (search rules);
      fails = failed.fails;
    }
