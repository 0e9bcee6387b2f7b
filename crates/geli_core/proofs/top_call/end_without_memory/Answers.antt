use Rattle.std.proofs.Common.{refl}
use Rattle.geli_core.proofs.Commands.{nothing_done}
use Rattle.geli_core.proofs.Lawful.{runs_lawfully}
use Rattle.geli_core.proofs.top_call.end_without_memory.Goals as goal
use Rattle.run_status.specs.declared.status.Status.TheVariants.{NoMemory}

pub returns : goal.returns
returns g c = λ words outside. runs_lawfully words _ _ NoMemory (nothing_done words _ _ refl) c.hold_keyings.ensures c.names_differ.ensures
