use Rattle.turn_determinism.proofs.Turns.{turns_are_same}
use Rattle.turn_determinism.proofs.laws.same_worlds_stay_the_same.Goals as goal

pub returns : goal.returns
returns c = turns_are_same
