use Rattle.std.proofs.Common.{arith}
use Rattle.std.proofs.lemmas.Grind.{common_steps}
use Rattle.nbd_session.proofs.served.serve_by_kind.Goals as goal

pub returns-then-request-gt-MOST-clause-serves : goal.returns-then-request-gt-MOST-clause-serves
returns-then-request-gt-MOST-clause-serves g c = grind (arith, common_steps) steps 400000

pub returns-then-request-gt-MOST-clause-kept : goal.returns-then-request-gt-MOST-clause-kept
returns-then-request-gt-MOST-clause-kept g c = grind (arith, common_steps) steps 400000

pub returns-in-Read-clause-serves : goal.returns-in-Read-clause-serves
returns-in-Read-clause-serves g c = grind (arith, common_steps) steps 400000

pub returns-in-Read-clause-kept : goal.returns-in-Read-clause-kept
returns-in-Read-clause-kept g c = grind (arith, common_steps) steps 400000

pub returns-else-request-gt-MOST-clause-serves : goal.returns-else-request-gt-MOST-clause-serves
returns-else-request-gt-MOST-clause-serves g c = grind (arith, common_steps)

pub returns-else-request-gt-MOST-clause-kept : goal.returns-else-request-gt-MOST-clause-kept
returns-else-request-gt-MOST-clause-kept g c = grind (arith, common_steps) steps 400000

pub returns-in-WriteZeroes-clause-serves : goal.returns-in-WriteZeroes-clause-serves
returns-in-WriteZeroes-clause-serves g c = grind (arith, common_steps) steps 400000

pub returns-in-WriteZeroes-clause-kept : goal.returns-in-WriteZeroes-clause-kept
returns-in-WriteZeroes-clause-kept g c = grind (arith, common_steps) steps 400000

pub returns-in-Disconnect-clause-serves : goal.returns-in-Disconnect-clause-serves
returns-in-Disconnect-clause-serves g c = grind (arith, common_steps) steps 400000

pub returns-in-Disconnect-clause-kept : goal.returns-in-Disconnect-clause-kept
returns-in-Disconnect-clause-kept g c = grind (arith, common_steps) steps 400000

pub returns-in-Flush-clause-serves : goal.returns-in-Flush-clause-serves
returns-in-Flush-clause-serves g c = grind (arith, common_steps) steps 400000

pub returns-in-Flush-clause-kept : goal.returns-in-Flush-clause-kept
returns-in-Flush-clause-kept g c = grind (arith, common_steps) steps 400000

pub returns-in-Unknown-clause-serves : goal.returns-in-Unknown-clause-serves
returns-in-Unknown-clause-serves g c = grind (arith, common_steps) steps 400000

pub returns-in-Unknown-clause-kept : goal.returns-in-Unknown-clause-kept
returns-in-Unknown-clause-kept g c = grind (arith, common_steps) steps 400000
