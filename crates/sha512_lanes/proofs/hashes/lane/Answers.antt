use Rattle.std.proofs.Common.{arith}
use Rattle.sha_lanes.proofs.LaneLaws.{lane_of_eight}
use Rattle.sha512_lanes.proofs.hashes.lane.Goals as goal

pub returns : goal.returns
returns c =
    rw (c.word.ensures, c.word-2.ensures, c.word-3.ensures, c.word-4.ensures, c.word-5.ensures, c.word-6.ensures, c.word-7.ensures, c.word-8.ensures)
    (lane_of_eight c.args.state.now c.args.j (omega arith))
