use Rattle.byte_ranges.proofs.Covering.{sectors_inside}
use Rattle.byte_ranges.proofs.ranges.read_range.Goals as goal

pub read_sectors-requires-clause-inside : goal.read_sectors-requires-clause-inside
read_sectors-requires-clause-inside g c =
    sectors_inside c.args.provider.now.keying (g.D.Disk.state c.args.provider.now.disk) c.args.range.now c.args.cover.now c.requires.covers c.requires.inside
