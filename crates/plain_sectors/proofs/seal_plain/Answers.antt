use Rattle.std.proofs.Common.{◌≡◌, ◌/◌, ◌≤◌, length, arith}
use Rattle.std.proofs.lemmas.Grind.{common_steps}
use Rattle.std.proofs.lemmas.List.{take_all, drop_all, append-nil}
use Rattle.sealing.specs.Sectors.{device_sectors}
use Rattle.sealing.proofs.Plain.{at_sector, concat-device_sectors, reading-plain}
use Rattle.plain_sectors.proofs.seal_plain.Goals as goal

pub returns-clause-taken_back : goal.returns-clause-taken_back
returns-clause-taken_back c =
    let k = c.args.ring.now.keying in
    let plain = c.args.block.now in
    let sealed = c.seal_run.new.block in
    let size = c.layout-size.result.size in
    let is = c.layout-size.ensures.keying in
    let fits : length plain ≤ size = omega (arith, c.layout-size.ensures.size, c.requires.size) in
    let all = take_all size plain fits in
    let taken_back = rw all at c.seal_run.ensures.taken_back in
    let long = rw all at c.seal_run.auto.block in
    let same : length sealed ≡ k.sectorsize = omega (arith, long, c.requires.size) in
    rw (drop_all size plain fits, append-nil sealed)
    (reading-plain k (c.args.offset / k.sectorsize) c.args.offset (device_sectors k sealed) sealed plain c.requires.off is.at_least is.whole (at_sector c.args.offset k.sectorsize c.requires.place)
    (concat-device_sectors k sealed c.requires.off is.at_least is.whole same) taken_back c.requires.size)

pub returns-clause-sealed : goal.returns-clause-sealed
returns-clause-sealed c = grind (arith, common_steps)

pub returns-clause-keying : goal.returns-clause-keying
returns-clause-keying c = grind (arith, common_steps) steps 400000
