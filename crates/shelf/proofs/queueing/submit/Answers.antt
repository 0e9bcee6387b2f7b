use Rattle.shelf.proofs.Spelling.{spelled}
use Rattle.shelf.proofs.queueing.submit.Goals as goal

pub submit_write-requires-clause-spelled : goal.submit_write-requires-clause-spelled
submit_write-requires-clause-spelled g c =
    let bounds = rw c.in-Write.is at c.requires.bounds in
    spelled _ bounds.1

pub returns-in-Read : goal.returns-in-Read
returns-in-Read g c = rw c.in-Read.is (c.submit_read.ensures c.args.line.now)

pub returns-in-Flush : goal.returns-in-Flush
returns-in-Flush g c = rw c.in-Flush.is (c.submit_flush.ensures c.args.line.now)
