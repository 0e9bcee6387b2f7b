use Rattle.geli_core.proofs.Shelving.{runs_over}
use Rattle.geli_core.proofs.images.run_images.Goals as goal

pub returns-clause-runs : goal.returns-clause-runs
returns-clause-runs g c = runs_over _ _ _ _ _ _ _ _ c.in_ok-shelf.ensures.drawers c.in_ok-shelf.ensures.differ c.geli_main-status.ensures.runs
