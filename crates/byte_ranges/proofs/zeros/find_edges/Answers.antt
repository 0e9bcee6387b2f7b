use Rattle.std.proofs.Common.{◌∙◌, arith}
use Rattle.byte_ranges.proofs.Splicing.{last_there}
use Rattle.byte_ranges.proofs.Zeroing.{finds_by}
use Rattle.byte_ranges.proofs.zeros.find_edges.Goals as goal

pub read_last-requires-clause-inside : goal.read_last-requires-clause-inside
read_last-requires-clause-inside g c =
    let p = c.args.provider.now in
    let next = c.put_front.new.provider in
    last_there p.keying next.keying (g.D.Disk.state p.disk) (g.D.Disk.state next.disk) c.args.range.now c.args.cover.now c.if-not-put_front.ensures.kept.keying c.if-not-put_front.ensures.puts.0 c.requires.covers c.requires.inside

pub returns-clause-finds : goal.returns-clause-finds
returns-clause-finds g c =
    let p = c.args.provider.now in
    let next = c.put_front.new.provider in
    finds_by c.read_last.result p.keying next.keying c.args.range.now c.args.cover.now c.args.left c.args.sectors.now c.put_front.new.sectors c.read_last.new.edge
    (g.D.Disk.state p.disk) (g.D.Disk.state next.disk) (g.D.Disk.state c.read_last.new.provider.disk)
    c.if-not-put_front.ensures.kept.keying c.requires.covers c.requires.left (omega (arith, c.requires.within, c.requires.room)) c.requires.small (c.read_last.auto.edge ∙ c.put_front.auto.edge ∙ c.requires.edge)
    c.if-not-put_front.ensures.puts c.read_last.ensures.reads
