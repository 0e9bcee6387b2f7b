use Rattle.std.proofs.Common.{◌≡◌, Option, None, sym, ap, ◌∙◌, subst}
use Rattle.std.specs.Prelude.{◌↔◌, IsSomeAnd, IsTrue, false}
use Rattle.provider.specs.Attached.{media}
use Rattle.bio_queue.specs.Kept.{request_place}
use Rattle.bio_queue.specs.Owners.{IsOf}
use Rattle.bio_queue.specs.Requests.{Request, request_with}
use Rattle.bio_queue.proofs.Places.{none_there}
use Rattle.bio_queue.proofs.Served.{stands}
use Rattle.bio_queue.proofs.queue.Queue.has_request.Goals as goal

pub returns-in-Some : goal.returns-in-Some
returns-in-Some g c =
    let k = c.args.on.now.keying in
    let m = media k (g.D.Disk.state c.args.on.now.disk) in
    let items = c.self.inside.requests.items in
    let r = c.index.result.now in
    let at = stands c.args.tag items c.args.self.now c.deref.result.now c.find.result c.in-Some.place r c.self.view_is c.deref.ensures.value c.find.ensures.found c.in-Some.is c.index.ensures in
    subst (λ (o : Option Request). IsTrue c.is_of.result ↔ IsSomeAnd o (IsOf k m)) (sym at.found) c.is_of.ensures

pub returns-in-None : goal.returns-in-None
returns-in-None g c =
    let k = c.args.on.now.keying in
    let m = media k (g.D.Disk.state c.args.on.now.disk) in
    let items = c.self.inside.requests.items in
    let none : request_with c.args.tag items ≡ None = none_there c.args.tag items (ap (request_place c.args.tag) (sym c.deref.ensures.value) ∙ sym c.find.ensures.found ∙ c.in-None.is) in
    let there : request_with c.args.tag c.args.self.now ≡ None = ap (request_with c.args.tag) (sym c.self.view_is) ∙ none in
    subst (λ (o : Option Request). IsTrue false ↔ IsSomeAnd o (IsOf k m)) (sym there) ((λ h. absurd (let none : ⊥ = cc in none)), (λ h. absurd h))
