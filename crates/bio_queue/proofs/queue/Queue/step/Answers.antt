use Rattle.std.proofs.Common.{◌≡◌, None, IfSome, refl, sym, ap, ◌∙◌, subst, arith}
use Rattle.std.proofs.Math.ListN.{set}
use Rattle.bio_queue.specs.Answers.{CanStep}
use Rattle.bio_queue.specs.Kept.{request_place}
use Rattle.bio_queue.specs.Requests.{Request, left_of, request_with, stepped}
use Rattle.bio_queue.proofs.Places.{none_there}
use Rattle.bio_queue.proofs.Served.{at_err, at_ok, ordered_exchanged, stands}
use Rattle.bio_queue.proofs.queue.Queue.step.Goals as goal

pub returns-in_default-clause-answer : goal.returns-in_default-clause-answer
returns-in_default-clause-answer g c =
    let items = c.self.inside.requests.items in
    let none : request_with c.args.tag items ≡ None = none_there c.args.tag items (ap (request_place c.args.tag) (sym c.deref.ensures.value) ∙ sym c.find.ensures.found ∙ c.in_default.is) in
    (ap (request_with c.args.tag) (sym c.self.view_is) ∙ none, refl, refl)

pub returns-then-left-eq0-clause-answer : goal.returns-then-left-eq0-clause-answer
returns-then-left-eq0-clause-answer g c =
    let items = c.self.inside.requests.items in
    let r = c.index_mut-request.result.now in
    let at = stands c.args.tag items c.args.self.now c.deref.result.now c.find.result c.in-Some.place r c.self.view_is c.deref.ensures.value c.find.ensures.found c.in-Some.is c.index_mut-request.ensures.value in
    (record { request = r; found = at.found; none = sym c.left.ensures.left ∙ c.if-left-eq0.true }, at.same, refl)

pub step-requires-clause-there : goal.step-requires-clause-there
step-requires-clause-there g c =
    let items = c.self.inside.requests.items in
    let r = c.index_mut-request.result.now in
    let at = stands c.args.tag items c.args.self.now c.deref.result.now c.find.result c.in-Some.place r c.self.view_is c.deref.ensures.value c.find.ensures.found c.in-Some.is c.index_mut-request.ensures.value in
    subst (λ o. IfSome o (CanStep c.args.on.now.keying (g.D.Disk.state c.args.on.now.disk))) at.found c.requires

pub returns-then-is_err-clause-answer : goal.returns-then-is_err-clause-answer
returns-then-is_err-clause-answer g c =
    let items = c.self.inside.requests.items in
    let r = c.index_mut-request.result.now in
    let at = stands c.args.tag items c.args.self.now c.deref.result.now c.find.result c.in-Some.place r c.self.view_is c.deref.ensures.value c.find.ensures.found c.in-Some.is c.index_mut-request.ensures.value in
    let left = c.left.ensures.left in
    let failed = sym c.is_err.ensures.value ∙ c.if-is_err.true in
    record {
      request = r;
      found = at.found;
      more = omega (arith, left, c.if-left-eq0.false);
      fails = at_err c.step.result _ failed c.step.ensures.err;
      asked = c.step.ensures.asked;
      queue = ap (set items c.in-Some.place) (at_err c.step.result _ failed c.step.ensures.stays) ∙ at.same;
    }

pub invariant_of-self-2 : goal.invariant_of-self-2
invariant_of-self-2 g c =
    let items = c.self.inside.requests.items in
    let r = c.index_mut-request.result.now in
    let at = stands c.args.tag items c.args.self.now c.deref.result.now c.find.result c.in-Some.place r c.self.view_is c.deref.ensures.value c.find.ensures.found c.in-Some.is c.index_mut-request.ensures.value in
    let done = at_ok c.step.result _ (sym c.is_err.ensures.value ∙ c.if-is_err.false) c.step.ensures.stepped in
    (ordered_exchanged items c.args.self.now c.args.tag c.in-Some.place r c.step.new.self c.self.view_is at (ap (λ (q : Request). q.tag) done.2 ∙ at.has) c.self.invariant.0, c.self.invariant.1)

pub returns-clause-answer : goal.returns-clause-answer
returns-clause-answer g c =
    let items = c.self.inside.requests.items in
    let r = c.index_mut-request.result.now in
    let at = stands c.args.tag items c.args.self.now c.deref.result.now c.find.result c.in-Some.place r c.self.view_is c.deref.ensures.value c.find.ensures.found c.in-Some.is c.index_mut-request.ensures.value in
    let left = c.left.ensures.left in
    let ok = sym c.is_err.ensures.value ∙ c.if-is_err.false in
    let done = at_ok c.step.result _ ok c.step.ensures.stepped in
    record {
      request = r;
      found = at.found;
      more = omega (arith, left, c.if-left-eq0.false);
      logs = at_ok c.step.result _ ok c.step.ensures.ok;
      asked = c.step.ensures.asked;
      bytes = done.0;
      given = done.1;
      queue = ap (set items c.in-Some.place) done.2 ∙ at.exchange (stepped r done.0) at.has;
      rest = c.left-2.ensures.left ∙ ap (λ (q : Request). left_of q) done.2;
    }
