use Rattle.turn_determinism.proofs.Turns.{same_world, turns_are_same}
use Rattle.turn_determinism.proofs.laws.a_line_does_one_thing.Goals as goal

pub returns : goal.returns
returns c = λ line command old answer answer' new new'. turns_are_same line command old old answer answer' new new' (same_world old)
