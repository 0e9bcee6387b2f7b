-- The last sector below is left out.
use Rattle.std.proofs.Common.{arith}
use Rattle.provider_disk.proofs.OpenedKept.{kept-opened_content, present-opened_content}
use Rattle.provider_disk.proofs.laws.kept_values_are_opened.Goals as goal

pub returns-clause-now : goal.returns-clause-now
returns-clause-now c = λ k content n small. present-opened_content k content n (omega arith)

pub returns-clause-kept : goal.returns-clause-kept
returns-clause-kept c = λ k content n small. kept-opened_content k content n (omega arith)
