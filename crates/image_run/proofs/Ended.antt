-- What the status says of the words, the input and the output, by the run over the images.
use Rattle.std.proofs.Common.{◌≡◌, List, ℕ, subst}
use Rattle.block_traits.specs.Causes.{Rose}
use Rattle.geli_core.specs.Lawful.{RunsLawfully}
use Rattle.geli_core.specs.Script.{StatusHasCause, Whole}
use Rattle.run_status.specs.declared.status.Status.{Status}
use Rattle.run_status.specs.declared.status.Status.TheVariants.{ReadFault, WriteFault}
use Rattle.geli_core.proofs.Lawful.{run_caused}

pub read_failed : (words : List (List ℕ)) (old new : Whole) (status : Status) → RunsLawfully words old status new → status ≡ ReadFault → Rose old.source.faults new.source.faults
read_failed words old new status h is = subst (λ (s : Status). StatusHasCause s old new) is (run_caused words old new status h)

pub write_failed : (words : List (List ℕ)) (old new : Whole) (status : Status) → RunsLawfully words old status new → status ≡ WriteFault → Rose old.sink.faults new.sink.faults
write_failed words old new status h is = subst (λ (s : Status). StatusHasCause s old new) is (run_caused words old new status h)
