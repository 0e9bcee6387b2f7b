use Rattle.std.proofs.Common.{rules, ◌*◌, ◌++◌, ◌∙◌, ap, drop, subst}
use Rattle.bio_queue.specs.Answers.{Gave, HasBadUnit}
use Rattle.bio_queue.specs.Requests.{Request}
use Rattle.bio_queue.specs.declared.job.Job.{Job}
use Rattle.bio_queue.specs.Kept.{room_of}
use Rattle.bio_queue.specs.declared.job.Reaped.TheVariants.{Bytes}
use Rattle.provider.specs.Attached.{media}
use Rattle.bio_queue.proofs.Held.{bad-read, front_of, gave-read, room_for}
use Rattle.bio_queue.proofs.request.OpenRequest.give.Goals as goal

pub open_from-requires-clause-whole : goal.open_from-requires-clause-whole
open_from-requires-clause-whole g c =
    let k = c.args.on.now.keying in
    let r = c.self.inside in
    let of = rw (← c.self.view_is) at c.requires.there in
    let front = front_of k (media k (g.D.Disk.state c.args.on.now.disk)) c.in-Read.sector c.in-Read.count r.units c.sector_size.result r.job c.args.into.now c.in-Read.is of c.sector_size.ensures.size c.sector_size.ensures.at_least c.requires.room in
    front.whole

pub open_from-requires-clause-device : goal.open_from-requires-clause-device
open_from-requires-clause-device g c =
    let k = c.args.on.now.keying in
    let r = c.self.inside in
    let of = rw (← c.self.view_is) at c.requires.there in
    let front = front_of k (media k (g.D.Disk.state c.args.on.now.disk)) c.in-Read.sector c.in-Read.count r.units c.sector_size.result r.job c.args.into.now c.in-Read.is of c.sector_size.ensures.size c.sector_size.ensures.at_least c.requires.room in
    let held = c.deref.ensures.len ∙ c.self.invariant.room ∙ ap (λ (j : Job). room_of j r.units) c.in-Read.is in
    room_for k c.in-Read.count _ r.units _ front.counts front.units_are held

pub returns-in_ok-open_from-in-Read-clause-gives : goal.returns-in_ok-open_from-in-Read-clause-gives
returns-in_ok-open_from-in-Read-clause-gives g c =
    let k = c.args.on.now.keying in
    let r = c.self.inside in
    let of = rw (← c.self.view_is) at c.requires.there in
    let front = front_of k (media k (g.D.Disk.state c.args.on.now.disk)) c.in-Read.sector c.in-Read.count r.units c.sector_size.result r.job c.args.into.now c.in-Read.is of c.sector_size.ensures.size c.sector_size.ensures.at_least c.requires.room in
    let none = rw (← c.self.view_is) at c.requires.none in
    subst (λ (q : Request). Gave k q.job q.device c.args.into.now (c.open_from.new.out ++ drop (c.in-Read.count * c.sector_size.result) c.args.into.now) (Bytes (c.in-Read.count * c.sector_size.result))) c.self.view_is
    (gave-read k r.job c.in-Read.sector c.in-Read.count r.done r.units c.sector_size.result r.device.items c.deref.result.now _ c.open_from.new.out c.args.into.now c.in-Read.is none c.self.invariant.within front c.deref.ensures.value c.open_from.auto.out c.in_ok-open_from-in-Read.ensures.opened)

pub returns-in_err-open_from-in-Read-clause-gives : goal.returns-in_err-open_from-in-Read-clause-gives
returns-in_err-open_from-in-Read-clause-gives g c =
    let k = c.args.on.now.keying in
    let r = c.self.inside in
    let of = rw (← c.self.view_is) at c.requires.there in
    let front = front_of k (media k (g.D.Disk.state c.args.on.now.disk)) c.in-Read.sector c.in-Read.count r.units c.sector_size.result r.job c.args.into.now c.in-Read.is of c.sector_size.ensures.size c.sector_size.ensures.at_least c.requires.room in
    let none = rw (← c.self.view_is) at c.requires.none in
    let bad = subst (λ (q : Request). HasBadUnit k q.job q.device c.in_err-open_from-in-Read.field-0.0.offset) c.self.view_is
    (bad-read k r.job c.in-Read.sector c.in-Read.count r.done r.units c.sector_size.result c.in_err-open_from-in-Read.field-0.0.offset r.device.items c.deref.result.now _ c.in-Read.is none c.self.invariant.within front c.deref.ensures.value c.in_err-open_from-in-Read.ensures.opened) in
    search (rules, bad)
