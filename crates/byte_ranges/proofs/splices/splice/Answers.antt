use Rattle.byte_ranges.proofs.Splicing.{last_there, splices_by}
use Rattle.byte_ranges.proofs.splices.splice.Goals as goal

pub put_back-requires-clause-inside : goal.put_back-requires-clause-inside
put_back-requires-clause-inside g c =
    let p = c.args.provider.now in
    let next = c.put_front.new.provider in
    let kept = c.if-not-put_front.ensures.kept in
    last_there p.keying next.keying (g.D.Disk.state p.disk) (g.D.Disk.state next.disk) c.args.range.now c.args.cover.now kept.keying c.if-not-put_front.ensures.puts.0 c.requires.covers c.requires.inside

pub returns-clause-splices : goal.returns-clause-splices
returns-clause-splices g c =
    let p = c.args.provider.now in
    let next = c.put_front.new.provider in
    let kept = c.if-not-put_front.ensures.kept in
    splices_by c.put_back.result p.keying next.keying c.args.range.now c.args.cover.now c.args.sectors.now c.put_front.new.sectors c.put_back.new.sectors
    (g.D.Disk.state p.disk) (g.D.Disk.state next.disk) (g.D.Disk.state c.put_back.new.provider.disk)
    kept.keying c.requires.covers c.requires.size c.if-not-put_front.ensures.puts c.put_back.ensures.puts
