use Rattle.aes_core.proofs.ColumnLaws.{state_is}
use Rattle.aes_core.proofs.columns.state_of.Goals as goal

pub returns : goal.returns
returns c s state e = state_is c.args.w s state e
