use Rattle.std.proofs.Common.{rules, ◌*◌, ◌∙◌, ℕ, List, subst, ap, arith}
use Rattle.std.proofs.lemmas.List.{places, with_items_is}
use Rattle.bio_queue.specs.Answers.{IsAsked, JobIsInRange}
use Rattle.bio_queue.specs.declared.job.Job.{Job}
use Rattle.bio_queue.proofs.Held.{counted, first_small, held_read, held_write, made-write, room_for, seen}
use Rattle.provider.specs.Attached.{media}
use Rattle.bio_queue.proofs.request.OpenRequest.new.Goals as goal

pub invariant_of-result : goal.invariant_of-result
invariant_of-result g c =
    let asked = subst (λ (j : Job). IsAsked c.args.on.now.keying.sectorsize j c.args.from.now) c.in-Read.is c.requires.asked in
    held_read c.args.job.now c.in-Read.sector c.in-Read.count c.units-each.result _ c.in-Read.is asked.0 (omega (arith, c.in_ok-device-in-Read.ensures.len))

pub overflow_mul-result-in-Write : goal.overflow_mul-result-in-Write
overflow_mul-result-in-Write g c =
    let d = g.D.Disk.state c.args.on.now.disk in
    let asked = subst (λ (j : Job). IsAsked c.args.on.now.keying.sectorsize j c.args.from.now) c.in-Write.is c.requires.asked in
    let there = subst (λ (j : Job). JobIsInRange (media c.args.on.now.keying d) j) c.in-Write.is c.requires.in_range in
    omega (arith, first_small c.args.on.now.keying c.in-Write.sector c.in-Write.count c.units-each.result d.size c.units-each.ensures.units asked.0 there d.well_formed.bound)

pub invariant_of-result-in-Write : goal.invariant_of-result-in-Write
invariant_of-result-in-Write g c =
    let asked = subst (λ (j : Job). IsAsked c.args.on.now.keying.sectorsize j c.args.from.now) c.in-Write.is c.requires.asked in
    held_write c.args.job.now c.in-Write.sector c.in-Write.count c.units-each.result _ c.in-Write.is asked.0 (omega (arith, c.in_ok-device-in-Write.ensures.len))

pub seal_into-requires-clause-whole : goal.seal_into-requires-clause-whole
seal_into-requires-clause-whole g c =
    let asked = subst (λ (j : Job). IsAsked c.args.on.now.keying.sectorsize j c.args.from.now) c.in-Write.is c.requires.asked in
    (counted c.args.on.now.keying c.in-Write.count _ asked.2 c.is_of_a_keying.ensures.at_least).1

pub seal_into-requires-clause-out : goal.seal_into-requires-clause-out
seal_into-requires-clause-out g c =
    let asked = subst (λ (j : Job). IsAsked c.args.on.now.keying.sectorsize j c.args.from.now) c.in-Write.is c.requires.asked in
    let counts = counted c.args.on.now.keying c.in-Write.count _ asked.2 c.is_of_a_keying.ensures.at_least in
    room_for c.args.on.now.keying c.in-Write.count _ _ _ counts.0 (ap (λ (n : ℕ). c.in-Write.count * n) c.units-each.ensures.units) (omega (arith, c.in_ok-device-in-Write.ensures.len))

pub returns-in_ok-device-in-Write-clause-made : goal.returns-in_ok-device-in-Write-clause-made
returns-in_ok-device-in-Write-clause-made g c =
    let k = c.args.on.now.keying in
    let asked = subst (λ (j : Job). IsAsked k.sectorsize j c.args.from.now) c.in-Write.is c.requires.asked in
    let counts = counted k c.in-Write.count _ asked.2 c.is_of_a_keying.ensures.at_least in
    let put = with_items_is c.in_ok-device-in-Write.device c.seal_into.new.out (search (rules, places)) in
    ap (λ (b : List ℕ). seen c.args.tag c.args.job.now 0 (c.in-Write.count * c.units-each.result) b) put
    ∙ made-write k c.args.tag c.args.job.now c.in-Write.sector c.in-Write.count _ _ c.args.from.now _ c.in-Write.is (ap (λ (n : ℕ). c.in-Write.count * n) c.units-each.ensures.units) counts.0 c.seal_into.ensures.sealed
