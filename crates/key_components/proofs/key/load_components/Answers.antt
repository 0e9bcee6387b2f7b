use Rattle.std.proofs.Common.{arith}
use Rattle.std.proofs.lemmas.Grind.{common_steps}
use Rattle.key_components.proofs.key.load_components.Goals as goal

pub returns-in_err-keyfiles-clause-answer : goal.returns-in_err-keyfiles-clause-answer
returns-in_err-keyfiles-clause-answer g c = grind (arith, common_steps)

pub returns-in_err-keyfiles-clause-fits : goal.returns-in_err-keyfiles-clause-fits
returns-in_err-keyfiles-clause-fits g c = grind (arith, common_steps) steps 400000

pub returns-in_err-keyfiles-clause-stops : goal.returns-in_err-keyfiles-clause-stops
returns-in_err-keyfiles-clause-stops g c = grind (arith, common_steps) steps 400000

pub returns-in_err-keyfiles-clause-named : goal.returns-in_err-keyfiles-clause-named
returns-in_err-keyfiles-clause-named g c = grind (arith, common_steps) steps 400000

pub returns-in_err-keyfiles-clause-asked : goal.returns-in_err-keyfiles-clause-asked
returns-in_err-keyfiles-clause-asked g c = grind (arith, common_steps)

pub returns-in_err-keyfiles-clause-keeps : goal.returns-in_err-keyfiles-clause-keeps
returns-in_err-keyfiles-clause-keeps g c = grind (arith, common_steps) steps 400000

pub returns-in_err-keyfiles-clause-unstored : goal.returns-in_err-keyfiles-clause-unstored
returns-in_err-keyfiles-clause-unstored g c = grind (arith, common_steps) steps 400000

pub returns-in_err-passphrase-clause-answer : goal.returns-in_err-passphrase-clause-answer
returns-in_err-passphrase-clause-answer g c = grind (arith, common_steps)

pub returns-in_err-passphrase-clause-fits : goal.returns-in_err-passphrase-clause-fits
returns-in_err-passphrase-clause-fits g c = grind (arith, common_steps)

pub returns-in_err-passphrase-clause-stops : goal.returns-in_err-passphrase-clause-stops
returns-in_err-passphrase-clause-stops g c = grind (arith, common_steps)

pub returns-in_err-passphrase-clause-named : goal.returns-in_err-passphrase-clause-named
returns-in_err-passphrase-clause-named g c = grind (arith, common_steps) steps 400000

pub returns-in_err-passphrase-clause-keeps : goal.returns-in_err-passphrase-clause-keeps
returns-in_err-passphrase-clause-keeps g c = grind (arith, common_steps) steps 400000

pub returns-in_err-passphrase-clause-unstored : goal.returns-in_err-passphrase-clause-unstored
returns-in_err-passphrase-clause-unstored g c = grind (arith, common_steps) steps 400000

pub returns-clause-answer : goal.returns-clause-answer
returns-clause-answer g c = grind (arith, common_steps)

pub returns-clause-fits : goal.returns-clause-fits
returns-clause-fits g c = grind (arith, common_steps)

pub returns-clause-stops : goal.returns-clause-stops
returns-clause-stops g c = grind (arith, common_steps) steps 400000

pub returns-clause-named : goal.returns-clause-named
returns-clause-named g c = grind (arith, common_steps) steps 400000

pub returns-clause-asked : goal.returns-clause-asked
returns-clause-asked g c = grind (arith, common_steps) steps 400000

pub returns-clause-keeps : goal.returns-clause-keeps
returns-clause-keeps g c = grind (arith, common_steps) steps 400000

pub returns-clause-unstored : goal.returns-clause-unstored
returns-clause-unstored g c = grind (arith, common_steps) steps 400000
