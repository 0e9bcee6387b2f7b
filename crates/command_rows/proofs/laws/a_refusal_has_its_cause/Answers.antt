use Rattle.command_rows.proofs.LineCauses.{refusal_caused}
use Rattle.command_rows.proofs.laws.a_refusal_has_its_cause.Goals as goal

pub returns : goal.returns
returns c = refusal_caused
