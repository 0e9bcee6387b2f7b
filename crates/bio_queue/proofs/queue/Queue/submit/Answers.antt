use Rattle.std.proofs.Common.{◌≡◌, ◌<◌, List, length, refl, sym, ap, ◌∙◌, subst, arith}
use Rattle.std.proofs.lemmas.Grind.{common_steps}
use Rattle.bio_queue.specs.Requests.{Request, put_in}
use Rattle.bio_queue.proofs.Served.{puts_in}
use Rattle.bio_queue.proofs.Tags.{few_from}
use Rattle.bio_queue.proofs.queue.Queue.submit.Goals as goal

pub returns-then-len-ge-ROOM-clause-answer : goal.returns-then-len-ge-ROOM-clause-answer
returns-then-len-ge-ROOM-clause-answer g c =
    let items = c.self.inside.requests.items in
    let few = few_from 0 items (omega arith) c.self.invariant.0 in
    let full : length items ≡ 32 = omega arith in
    ((c.in_ok-admit.ensures, ap (λ (q : List Request). length q) (sym c.self.view_is) ∙ full), refl)

pub invariant_of-self : goal.invariant_of-self
invariant_of-self g c =
    let items = c.self.inside.requests.items in
    let made = c.in-Ok.ensures.made in
    let put = puts_in items c.args.self.now c.deref.result.now c.put_in.new.requests.items c.least_free-place.result c.in-Ok.request c.self.view_is c.deref.ensures.value c.least_free-place.ensures.gap (ap (λ (q : Request). q.tag) made) (omega arith)
    c.self.invariant.0 c.put_in.ensures.items in
    (put.ordered, omega (arith, c.self.invariant.1, c.put_in.ensures.capacity))

pub returns-clause-answer : goal.returns-clause-answer
returns-clause-answer g c =
    let items = c.self.inside.requests.items in
    let made = c.in-Ok.ensures.made in
    let few : length items < 32 = omega arith in
    let put = puts_in items c.args.self.now c.deref.result.now c.put_in.new.requests.items c.least_free-place.result c.in-Ok.request c.self.view_is c.deref.ensures.value c.least_free-place.ensures.gap (ap (λ (q : Request). q.tag) made) few
    c.self.invariant.0 c.put_in.ensures.items in
    record {
      admitted = c.in_ok-admit.ensures;
      room = subst (λ (q : List Request). length q < 32) c.self.view_is few;
      free = put.free;
      queue = put.queue_is ∙ ap (λ (q : Request). put_in q c.args.self.now) made;
    }

pub returns-in_err-admit-clause-answer : goal.returns-in_err-admit-clause-answer
returns-in_err-admit-clause-answer g c = grind (arith, common_steps) steps 400000

pub returns-in_err-admit-clause-stays : goal.returns-in_err-admit-clause-stays
returns-in_err-admit-clause-stays g c = grind (arith, common_steps) steps 400000

pub returns-then-len-ge-ROOM-clause-stays : goal.returns-then-len-ge-ROOM-clause-stays
returns-then-len-ge-ROOM-clause-stays g c = grind (arith, common_steps) steps 400000

pub returns-in_default-clause-answer : goal.returns-in_default-clause-answer
returns-in_default-clause-answer g c = grind (arith, common_steps) steps 400000

pub returns-in_default-clause-stays : goal.returns-in_default-clause-stays
returns-in_default-clause-stays g c = grind (arith, common_steps) steps 400000

pub returns-clause-stays : goal.returns-clause-stays
returns-clause-stays g c = grind (arith, common_steps) steps 400000
