use Rattle.std.proofs.Common.{arith}
use Rattle.std.proofs.lemmas.Grind.{common_steps}
use Rattle.key_components.proofs.parts.take_line.Goals as goal

pub returns-then-line-used-clause-answer : goal.returns-then-line-used-clause-answer
returns-then-line-used-clause-answer c = grind (arith, common_steps) steps 400000

pub returns-then-line-used-clause-within : goal.returns-then-line-used-clause-within
returns-then-line-used-clause-within c = grind (arith, common_steps) steps 400000

pub returns-then-line-used-clause-refusal : goal.returns-then-line-used-clause-refusal
returns-then-line-used-clause-refusal c = grind (arith, common_steps) steps 400000

pub returns-in-Ok-clause-answer : goal.returns-in-Ok-clause-answer
returns-in-Ok-clause-answer c = grind (arith, common_steps) steps 400000

pub returns-in-Ok-clause-within : goal.returns-in-Ok-clause-within
returns-in-Ok-clause-within c = grind (arith, common_steps) steps 400000

pub returns-in-Ok-clause-refusal : goal.returns-in-Ok-clause-refusal
returns-in-Ok-clause-refusal c = grind (arith, common_steps) steps 400000

pub returns-in-Err-clause-answer : goal.returns-in-Err-clause-answer
returns-in-Err-clause-answer c = grind (arith, common_steps) steps 400000

pub returns-in-Err-clause-within : goal.returns-in-Err-clause-within
returns-in-Err-clause-within c = grind (arith, common_steps) steps 400000

pub returns-in-Err-clause-refusal : goal.returns-in-Err-clause-refusal
returns-in-Err-clause-refusal c = grind (arith, common_steps) steps 400000
