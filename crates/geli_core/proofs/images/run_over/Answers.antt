use Rattle.geli_core.proofs.Shelving.{runs_over}
use Rattle.geli_core.proofs.images.run_over.Goals as goal

pub returns-clause-runs : goal.returns-clause-runs
returns-clause-runs g c = λ words says. runs_over words _ _ _ _ _ _ _ c.in_ok-shelf.ensures.drawers c.in_ok-shelf.ensures.differ (c.run-status.ensures.runs words says)
