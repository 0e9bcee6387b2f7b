use Rattle.queue_readings.specs.Play.{pending}
use Rattle.queue_readings.proofs.Among.{fit_front}
use Rattle.queue_readings.proofs.laws.steps_of_plays_fit.Goals as goal

pub returns : goal.returns
returns c = λ k c m play. fit_front m.next m.steps (pending k m.tasks) play.steps
