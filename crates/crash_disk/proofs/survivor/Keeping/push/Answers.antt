use Rattle.crash_disk.proofs.Keeping.{KeepsOf-here, KeepsOf-other}
use Rattle.crash_disk.proofs.survivor.Keeping.push.Goals as goal
use Rattle.crash_disk.proofs.survivor.Keeping.push.Goals.{then-self-place, else-self-place}

pub returns-clause-keeps : goal.returns-clause-keeps
returns-clause-keeps c = λ values keeps. elim c.if-self-place.branch [
  | then-self-place w ↦ rw w.self-is (KeepsOf-here values c.args.value c.args.place c.args.self.now keeps w.if-self-place.true)
  | else-self-place w ↦ rw w.self-is (KeepsOf-other values c.args.value c.args.place c.args.self.now keeps w.if-self-place.false)
]
