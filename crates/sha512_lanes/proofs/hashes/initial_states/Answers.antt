use Rattle.std.proofs.Common.{arith}
use Rattle.sha_stream.proofs.LaneLaws.{below_four}
use Rattle.sha_lanes.proofs.LaneLaws.{eight_words}
use Rattle.sha512_lanes.proofs.hashes.initial_states.Goals as goal

pub returns : goal.returns
returns c =
    let words = eight_words c.args.initial.now (omega arith) in
    below_four _ words words words words
