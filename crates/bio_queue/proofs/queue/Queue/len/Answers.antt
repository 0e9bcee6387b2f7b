use Rattle.std.proofs.Common.{arith}
use Rattle.bio_queue.proofs.Tags.{few_from}
use Rattle.bio_queue.proofs.queue.Queue.len.Goals as goal

pub overflow_cast-result : goal.overflow_cast-result
overflow_cast-result c = let few = few_from 0 c.self.inside.requests.items (omega arith) c.self.invariant.0 in omega arith
