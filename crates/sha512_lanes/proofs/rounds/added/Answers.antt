use Rattle.sha_lanes.proofs.LaneLaws.{lane_word}
use Rattle.sha512_lanes.proofs.rounds.added.Goals as goal

pub returns : goal.returns
returns c j h =
    rw (
      c.add.ensures j h,
      c.add-2.ensures j h,
      c.add-3.ensures j h,
      c.add-4.ensures j h,
      c.add-5.ensures j h,
      c.add-6.ensures j h,
      c.add-7.ensures j h,
      c.add-8.ensures j h,
    )
    (simp lane_word)
