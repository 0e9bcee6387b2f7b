use Rattle.std.proofs.Common.{arith}
use Rattle.std.proofs.lemmas.Grind.{common_steps}
use Rattle.key_components.proofs.files.load_file.Goals as goal

pub returns-clause-answer : goal.returns-clause-answer
returns-clause-answer g c = grind (arith, common_steps) steps 400000

pub returns-clause-within : goal.returns-clause-within
returns-clause-within g c = grind (arith, common_steps) steps 400000

pub returns-clause-word : goal.returns-clause-word
returns-clause-word g c = grind (arith, common_steps) steps 400000

pub returns-clause-cause : goal.returns-clause-cause
returns-clause-cause g c = grind (arith, common_steps) steps 400000

pub returns-clause-keeps : goal.returns-clause-keeps
returns-clause-keeps g c = grind (arith, common_steps) steps 400000

pub returns-clause-asked : goal.returns-clause-asked
returns-clause-asked g c = grind (arith, common_steps) steps 400000

pub returns-clause-unstored : goal.returns-clause-unstored
returns-clause-unstored g c = grind (arith, common_steps) steps 400000
