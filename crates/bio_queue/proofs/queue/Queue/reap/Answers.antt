use Rattle.std.proofs.Common.{rules, ◌≡◌, None, IfSome, refl, sym, ap, ◌∙◌, subst, arith}
use Rattle.std.proofs.lemmas.Grind.{common_steps}
use Rattle.bio_queue.specs.Answers.{CanBeReaped}
use Rattle.bio_queue.specs.Kept.{request_place}
use Rattle.bio_queue.specs.Requests.{Request, left_of, request_with}
use Rattle.bio_queue.proofs.Places.{none_there}
use Rattle.bio_queue.proofs.Served.{one_request, ordered_without, stands}
use Rattle.bio_queue.proofs.queue.Queue.reap.Goals as goal

pub returns-in_default-clause-answer : goal.returns-in_default-clause-answer
returns-in_default-clause-answer g c =
    let items = c.self.inside.requests.items in
    let none : request_with c.args.tag items ≡ None = none_there c.args.tag items (ap (request_place c.args.tag) (sym c.deref.ensures.value) ∙ sym c.find.ensures.found ∙ c.in_default.is) in
    (ap (request_with c.args.tag) (sym c.self.view_is) ∙ none, refl, refl)

pub returns-then-left-gt0-clause-answer : goal.returns-then-left-gt0-clause-answer
returns-then-left-gt0-clause-answer g c =
    let items = c.self.inside.requests.items in
    let r = c.index.result.now in
    let at = stands c.args.tag items c.args.self.now c.deref.result.now c.find.result c.in-Some.place r c.self.view_is c.deref.ensures.value c.find.ensures.found c.in-Some.is c.index.ensures in
    (record { request = r; found = at.found; some = omega (arith, c.if-left-gt0.true); rest = c.left-left.ensures.left }, refl, refl)

pub give-requires-clause-there : goal.give-requires-clause-there
give-requires-clause-there g c =
    let items = c.self.inside.requests.items in
    let r = c.remove-request.result in
    let at = stands c.args.tag items c.args.self.now c.deref.result.now c.find.result c.in-Some.place r c.self.view_is c.deref.ensures.value c.find.ensures.found c.in-Some.is c.remove-request.ensures.value in
    subst (λ o. IfSome o (CanBeReaped c.args.on.now.keying (g.D.Disk.state c.args.on.now.disk))) at.found c.requires.there

pub invariant_of-self : goal.invariant_of-self
invariant_of-self g c =
    let items = c.self.inside.requests.items in
    let r = c.remove-request.result in
    let at = stands c.args.tag items c.args.self.now c.deref.result.now c.find.result c.in-Some.place r c.self.view_is c.deref.ensures.value c.find.ensures.found c.in-Some.is c.remove-request.ensures.value in
    (ordered_without items c.remove-request.new.self.items c.args.self.now c.args.tag c.in-Some.place r c.self.view_is at c.remove-request.ensures.items c.self.invariant.0, omega (arith, c.self.invariant.1, c.remove-request.ensures.capacity))

pub returns-in-Ok-clause-answer : goal.returns-in-Ok-clause-answer
returns-in-Ok-clause-answer g c =
    let items = c.self.inside.requests.items in
    let r = c.remove-request.result in
    let at = stands c.args.tag items c.args.self.now c.deref.result.now c.find.result c.in-Some.place r c.self.view_is c.deref.ensures.value c.find.ensures.found c.in-Some.is c.remove-request.ensures.value in
    let seen = stands c.args.tag items c.args.self.now c.deref.result.now c.find.result c.in-Some.place c.index.result.now c.self.view_is c.deref.ensures.value c.find.ensures.found c.in-Some.is c.index.ensures in
    let one = one_request _ c.index.result.now r seen.found at.found in
    let none : left_of c.index.result.now ≡ 0 = omega (arith, c.left-left.ensures.left, c.if-left-gt0.false) in
    record { request = r; found = at.found; none = sym (ap (λ (q : Request). left_of q) one) ∙ none; queue = c.remove-request.ensures.items ∙ at.take_out; gives = c.in-Ok.ensures.gives }

pub invariant_of-self-2 : goal.invariant_of-self-2
invariant_of-self-2 g c =
    let items = c.self.inside.requests.items in
    let r = c.remove-request.result in
    let at = stands c.args.tag items c.args.self.now c.deref.result.now c.find.result c.in-Some.place r c.self.view_is c.deref.ensures.value c.find.ensures.found c.in-Some.is c.remove-request.ensures.value in
    (ordered_without items c.remove-request.new.self.items c.args.self.now c.args.tag c.in-Some.place r c.self.view_is at c.remove-request.ensures.items c.self.invariant.0, omega (arith, c.self.invariant.1, c.remove-request.ensures.capacity))

pub returns-clause-answer : goal.returns-clause-answer
returns-clause-answer g c =
    let items = c.self.inside.requests.items in
    let r = c.remove-request.result in
    let at = stands c.args.tag items c.args.self.now c.deref.result.now c.find.result c.in-Some.place r c.self.view_is c.deref.ensures.value c.find.ensures.found c.in-Some.is c.remove-request.ensures.value in
    let seen = stands c.args.tag items c.args.self.now c.deref.result.now c.find.result c.in-Some.place c.index.result.now c.self.view_is c.deref.ensures.value c.find.ensures.found c.in-Some.is c.index.ensures in
    let one = one_request _ c.index.result.now r seen.found at.found in
    let none : left_of c.index.result.now ≡ 0 = omega (arith, c.left-left.ensures.left, c.if-left-gt0.false) in
    (record { request = r; found = at.found; none = sym (ap (λ (q : Request). left_of q) one) ∙ none; queue = c.remove-request.ensures.items ∙ at.take_out; gives = c.in-Err.ensures.gives }, search rules)

pub returns-in_default-clause-stays : goal.returns-in_default-clause-stays
returns-in_default-clause-stays g c = grind (arith, common_steps) steps 400000

pub returns-then-left-gt0-clause-stays : goal.returns-then-left-gt0-clause-stays
returns-then-left-gt0-clause-stays g c = grind (arith, common_steps) steps 400000

pub returns-in-Ok-clause-stays : goal.returns-in-Ok-clause-stays
returns-in-Ok-clause-stays g c = grind (arith, common_steps) steps 400000

pub returns-clause-stays : goal.returns-clause-stays
returns-clause-stays g c = grind (arith, common_steps) steps 400000
