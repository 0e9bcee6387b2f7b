use Rattle.std.proofs.Common.{length, ◌≤◌, arith}
use Rattle.bio_queue.proofs.Tags.{few_from}
use Rattle.bio_queue.proofs.queue.Queue.keeps_order.Goals as goal

pub returns-clause-few : goal.returns-clause-few
returns-clause-few c =
    let few = few_from 0 c.self.inside.requests.items (omega arith) c.self.invariant.0 in
    let here : length c.self.inside.requests.items ≤ 32 = omega arith in
    rw (← c.self.view_is) here
