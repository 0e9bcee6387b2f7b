use Rattle.std.proofs.Common.{◌≤◌, arith}
use Rattle.command_rows.specs.Vocabulary.{media}
use Rattle.shelf.proofs.VerifyRows.{few_offsets, place_is_far, sweep_done, sweep_failed}
use Rattle.shelf.proofs.verifying.sweep_from.Goals as goal

pub returns-then-place-media-clause-row : goal.returns-then-place-media-clause-row
returns-then-place-media-clause-row g c =
    λ queue cabinet entropy. place_is_far g.D.Disk.state queue cabinet entropy c.args.provider.now c.args.place c.args.count c.sectors-media.result c.sectors-media.ensures c.if-place-media.true

pub returns-in-Ok-clause-row : goal.returns-in-Ok-clause-row
returns-in-Ok-clause-row g c =
    let disk = g.D.Disk.state c.args.provider.now.disk in
    let inside : c.args.place ≤ media c.args.provider.now.keying disk = omega (arith, c.sectors-media.ensures, c.if-place-media.false) in
    let e = c.in-Ok.ensures in
    λ queue cabinet entropy. sweep_done g.D.Disk.state queue cabinet entropy c.args.provider.now c.sweep.new.on c.args.place c.args.count c.args.buffer.now c.sweep.new.found c.in-Ok.swept inside disk.well_formed.bound e.kept e.answer.0 e.answer.1

pub returns-in-Ok-clause-bound : goal.returns-in-Ok-clause-bound
returns-in-Ok-clause-bound g c =
    let disk = g.D.Disk.state c.args.provider.now.disk in
    few_offsets c.args.provider.now.keying (media c.args.provider.now.keying disk) c.args.place c.args.count c.in-Ok.swept.bad c.args.buffer.now c.sweep.new.found disk (g.D.Disk.state c.sweep.new.on.disk) c.in-Ok.ensures.answer.1

pub returns-in-Err-clause-row : goal.returns-in-Err-clause-row
returns-in-Err-clause-row g c =
    let disk = g.D.Disk.state c.args.provider.now.disk in
    let inside : c.args.place ≤ media c.args.provider.now.keying disk = omega (arith, c.sectors-media.ensures, c.if-place-media.false) in
    let e = c.in-Err.ensures in
    λ queue cabinet entropy. sweep_failed g.D.Disk.state queue cabinet entropy c.args.provider.now c.sweep.new.on c.args.place c.args.count inside e.kept e.answer
