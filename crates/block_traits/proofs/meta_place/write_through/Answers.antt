use Rattle.std.proofs.Common.{rules}
use Rattle.std.proofs.lemmas.Result.{on_err_weaker}
use Rattle.block_traits.proofs.Logs.{FailsIn-first, FailsIn-next}
use Rattle.block_traits.proofs.meta_place.write_through.Goals as goal

pub returns-in_err-write-clause-err : goal.returns-in_err-write-clause-err
returns-in_err-write-clause-err g c = search (rules, FailsIn-first)

pub returns-clause-err : goal.returns-clause-err
returns-clause-err g c = on_err_weaker c.flush.result (FailsIn-next _ _ c.in_ok-write.ensures.ok) c.flush.ensures.err
