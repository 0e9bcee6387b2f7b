use Rattle.geli_core.proofs.Headline.{reads_after_crashes, some_read}
use Rattle.geli_core.proofs.survivors.crashed_runs_attach_and_read.Goals as goal

pub returns-clause-steps : goal.returns-clause-steps
returns-clause-steps g c = reads_after_crashes g.D.Disk.state

pub returns-clause-lines : goal.returns-clause-lines
returns-clause-lines g c = λ sep entry now served survive drawer among.
    let left = survive drawer among in
    some_read g.D.Disk.state left.play.steps left.before.disk.content left.endures

pub returns-clause-runs : goal.returns-clause-runs
returns-clause-runs g c = λ words old new status run drawer among.
    let left = run.exit drawer among in
    some_read g.D.Disk.state left.play.steps left.before.disk.content left.endures
