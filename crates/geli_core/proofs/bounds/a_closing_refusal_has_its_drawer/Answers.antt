use Rattle.geli_core.proofs.Bounding.{closes_with_failures}
use Rattle.geli_core.proofs.bounds.a_closing_refusal_has_its_drawer.Goals as goal

pub returns : goal.returns
returns c = closes_with_failures
