use Rattle.std.proofs.Common.{rules}
use Rattle.std.proofs.lemmas.Result.{on_err_weaker}
use Rattle.block_traits.proofs.Logs.{FailsIn-first, FailsIn-next}
use Rattle.eli_metadata.proofs.place.replace_metadata.Goals as goal

pub returns-in_err-flush-clause-err : goal.returns-in_err-flush-clause-err
returns-in_err-flush-clause-err g c = search (rules, FailsIn-first)

pub returns-clause-err : goal.returns-clause-err
returns-clause-err g c =
    rw (← c.in_ok-flush.ensures.ok.size, ← c.encode.ensures.bytes) (on_err_weaker c.store_last.result (FailsIn-next _ _ c.in_ok-flush.ensures.ok) c.store_last.ensures.err)
