use Rattle.std.proofs.Common.{◌≡◌, ◌/◌, ◌≤◌, length, sym, arith}
use Rattle.std.proofs.lemmas.Grind.{common_steps}
use Rattle.std.proofs.lemmas.List.{take_all, drop_all, append-nil}
use Rattle.sealing.specs.Sectors.{device_sectors}
use Rattle.sealing.proofs.Plain.{at_sector, concat-device_sectors, reading-plain}
use Rattle.plain_sectors.proofs.open_plain.Goals as goal

pub returns-clause-opened : goal.returns-clause-opened
returns-clause-opened c =
    let k = c.args.ring.now.keying in
    let sealed = c.args.block.now in
    let plain = c.open_run.new.block in
    let size = c.layout-size.result.size in
    let is = c.layout-size.ensures.keying in
    let fits : length sealed ≤ size = omega (arith, c.layout-size.ensures.size, c.requires.size) in
    let all = take_all size sealed fits in
    let opened = rw all at c.open_run.ensures.opened in
    let long = rw all at c.open_run.auto.block in
    let same : length plain ≡ k.sectorsize = omega (arith, long, c.requires.size) in
    rw (drop_all size sealed fits, append-nil plain)
    (reading-plain k (c.args.offset / k.sectorsize) c.args.offset (device_sectors k sealed) sealed plain c.requires.off is.at_least is.whole
    (at_sector c.args.offset k.sectorsize c.requires.place) (concat-device_sectors k sealed c.requires.off is.at_least is.whole c.requires.size) (sym opened) same)

pub returns-clause-keying : goal.returns-clause-keying
returns-clause-keying c = grind (arith, common_steps) steps 400000
