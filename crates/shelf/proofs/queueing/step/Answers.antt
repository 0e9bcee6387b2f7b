use Rattle.std.proofs.lemmas.Result.{err_from_is_err_and}
use Rattle.shelf.proofs.QueueingRows.{step_lacks, steps}
use Rattle.shelf.proofs.queueing.step.Goals as goal

pub returns-in_err-check_request : goal.returns-in_err-check_request
returns-in_err-check_request g c =
    let p = err_from_is_err_and c.from_residual.result c.from_residual.ensures.1 in
    λ cabinet entropy. rw (p.1, p.2, c.in_err-check_request.ensures.0)
    (step_lacks g.D.Disk.state cabinet entropy c.args.provider.now c.args.queue.now c.args.tag c.in_err-check_request.ensures.1)

pub returns : goal.returns
returns g c = λ cabinet entropy. rw c.step_answer.ensures
    (steps g.D.Disk.state cabinet entropy c.args.provider.now c.step.new.on c.args.queue.now c.step.new.self c.args.tag c.step.result c.in_ok-check_request.ensures c.step.ensures.kept c.step.ensures.answer)
