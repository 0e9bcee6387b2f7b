use Rattle.std.proofs.Common.{◌∙◌, ℕ, ◌/◌, ◌%◌, length, ap}
use Rattle.std.proofs.Math.Nat.{mul-mod_left}
use Rattle.provider.specs.Answers.{request}
use Rattle.sealing.specs.Sectors.{units}
use Rattle.byte_ranges.proofs.Reading.{as_many, cannot_read, reads_all, reads_few, reads_so}
use Rattle.byte_ranges.proofs.ranges.read_sectors.Goals as goal

pub read-requires-clause-whole : goal.read-requires-clause-whole
read-requires-clause-whole g c =
    ap (λ (n : ℕ). n % c.args.provider.now.keying.sectorsize) c.requires.size ∙ mul-mod_left c.args.count c.args.provider.now.keying.sectorsize

pub returns-in-Ok-clause-reads : goal.returns-in-Ok-clause-reads
returns-in-Ok-clause-reads g c =
    let p = c.args.provider.now in
    let many = as_many c.args.count p.keying.sectorsize (length c.args.into.now) c.requires.size c.requires.wide in
    (c.in-Ok.ensures.answer.logs, reads_so (g.D.Disk.state p.disk).content p.keying c.args.first c.args.count (length c.args.into.now / p.keying.sectorsize) c.read.new.into many c.in-Ok.ensures.answer.reads)

pub returns-in-Err-clause-reads : goal.returns-in-Err-clause-reads
returns-in-Err-clause-reads g c =
    let p = c.args.provider.now in
    let many = as_many c.args.count p.keying.sectorsize (length c.args.into.now) c.requires.size c.requires.wide in
    cannot_read g.D.Disk.state c.in-Err.field-0 (request g.D.Disk.state p c.args.first c.args.into.now) c.args.count c.read.new.into p c.read.new.self many c.requires.inside c.in-Err.ensures.answer

pub returns-in-Ok-clause-asked : goal.returns-in-Ok-clause-asked
returns-in-Ok-clause-asked g c =
    let p = c.args.provider.now in
    let many = as_many c.args.count p.keying.sectorsize (length c.args.into.now) c.requires.size c.requires.wide in
    reads_all c.args.count (length c.args.into.now / p.keying.sectorsize) (units p.keying) (g.D.Disk.state p.disk).reads (g.D.Disk.state c.read.new.self.disk).reads many c.in-Ok.ensures.answer.asked.most

pub returns-in-Err-clause-asked : goal.returns-in-Err-clause-asked
returns-in-Err-clause-asked g c =
    let p = c.args.provider.now in
    let many = as_many c.args.count p.keying.sectorsize (length c.args.into.now) c.requires.size c.requires.wide in
    reads_few g.D.Disk.state c.in-Err.field-0 (request g.D.Disk.state p c.args.first c.args.into.now) c.args.count c.read.new.into p c.read.new.self many c.in-Err.ensures.answer
