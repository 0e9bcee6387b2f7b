use Rattle.std.proofs.lemmas.Result.{err_from_is_err_and}
use Rattle.shelf.proofs.QueueingRows.{given_is, reap_lacks, reaps}
use Rattle.shelf.proofs.queueing.reap.Goals as goal

pub returns-in_err-check_request-clause-row : goal.returns-in_err-check_request-clause-row
returns-in_err-check_request-clause-row g c =
    let p = err_from_is_err_and c.from_residual.result c.from_residual.ensures.1 in
    λ cabinet entropy. rw (p.1, p.2, c.in_err-check_request.ensures.0)
    (reap_lacks g.D.Disk.state cabinet entropy c.args.provider.now c.args.queue.now c.args.tag c.in_err-check_request.ensures.1)

pub returns-clause-row : goal.returns-clause-row
returns-clause-row g c = λ cabinet entropy.
    reaps g.D.Disk.state cabinet entropy c.args.provider.now c.reap.new.on c.args.queue.now c.reap.new.self c.args.tag c.args.buffer.now c.reap.new.into c.reap.result _ c.in_ok-check_request.ensures c.reap.ensures.stays c.reap.ensures.answer
    (given_is c.args.tag c.reap.new.into c.reap.result c.reap_answer.result c.reap_answer.ensures)
