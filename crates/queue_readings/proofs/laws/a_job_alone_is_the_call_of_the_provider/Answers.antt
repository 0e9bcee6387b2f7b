use Rattle.queue_readings.proofs.Alone.{does_alone}
use Rattle.queue_readings.proofs.laws.a_job_alone_is_the_call_of_the_provider.Goals as goal

pub returns : goal.returns
returns c = does_alone
