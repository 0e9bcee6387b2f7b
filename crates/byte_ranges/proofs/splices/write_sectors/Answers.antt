use Rattle.std.proofs.Common.{◌∙◌, ℕ, ◌%◌, length, ap}
use Rattle.std.proofs.Math.Nat.{mul-mod_left}
use Rattle.provider.specs.Answers.{request}
use Rattle.byte_ranges.proofs.Reading.{as_many}
use Rattle.byte_ranges.proofs.Writing.{cannot_write}
use Rattle.byte_ranges.proofs.splices.write_sectors.Goals as goal

pub write-requires-clause-whole : goal.write-requires-clause-whole
write-requires-clause-whole g c =
    ap (λ (n : ℕ). n % c.args.provider.now.keying.sectorsize) c.requires.size ∙ mul-mod_left c.args.count c.args.provider.now.keying.sectorsize

pub returns-in-Err-clause-writes : goal.returns-in-Err-clause-writes
returns-in-Err-clause-writes g c =
    let p = c.args.provider.now in
    let many = as_many c.args.count p.keying.sectorsize (length c.args.from.now) c.requires.size c.requires.wide in
    cannot_write g.D.Disk.state c.in-Err.field-0 (request g.D.Disk.state p c.args.first c.args.from.now) c.args.count c.args.from.now p c.write.new.self many c.requires.inside c.requires.writable c.in-Err.ensures.answer
