use Rattle.sha_lanes.proofs.LaneLaws.{lane_word}
use Rattle.sha512_lanes.proofs.rounds.round.Goals as goal

pub returns : goal.returns
returns c j h =
    rw (
      c.add-2.ensures j h,
      c.add-3.ensures j h,
      c.add-temp2.ensures j h,
      c.maj.ensures j h,
      c.big_sigma0.ensures j h,
      c.add-temp1.ensures j h,
      c.add_constant.ensures j h,
      c.add-chosen.ensures j h,
      c.ch.ensures j h,
      c.add.ensures j h,
      c.big_sigma1.ensures j h,
    )
    (simp lane_word)
