use Rattle.byte_ranges.proofs.Splicing.{all_there}
use Rattle.byte_ranges.proofs.Writing.{writes_by}
use Rattle.byte_ranges.proofs.splices.write_range.Goals as goal

pub write_sectors-requires-clause-inside : goal.write_sectors-requires-clause-inside
write_sectors-requires-clause-inside g c =
    let p = c.args.provider.now in
    let next = c.splice.new.provider in
    all_there p.keying next.keying (g.D.Disk.state p.disk) (g.D.Disk.state next.disk) c.args.range.now c.args.cover.now c.if-not-splice.ensures.kept.keying c.if-not-splice.ensures.splices.0 c.requires.covers c.requires.inside

pub returns-clause-writes : goal.returns-clause-writes
returns-clause-writes g c =
    let p = c.args.provider.now in
    let state = g.D.Disk.state in
    writes_by c.flush_where.result p.keying c.splice.new.provider.keying c.args.range.now c.args.flush c.args.cover.now c.args.sectors.now c.splice.new.sectors
    (state p.disk) (state c.splice.new.provider.disk) (state c.write_sectors.new.provider.disk) (state c.flush_where.new.provider.disk)
    c.if-not-splice.ensures.kept.keying c.requires.covers c.requires.size c.are_bytes.ensures c.if-not-splice.ensures.splices
    c.if-not-write_sectors.ensures.writes c.flush_where.ensures.flushes
