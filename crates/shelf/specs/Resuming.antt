-- The refusal of a fault of resuming.
use Rattle.command_rows.specs.Vocabulary.{Refusal}
use Rattle.eli_base.specs.declared.refusals.Refusal.TheVariants as refusals
use Rattle.suspend.specs.declared.faults.ResumeFault.{ResumeFault}
use Rattle.suspend.specs.declared.faults.ResumeFault.TheVariants as resume

abbrev pub resume_refusal : ResumeFault → Refusal
resume_refusal (resume.TooSmall size) = refusals.TooSmall size
resume_refusal resume.WrongKey = refusals.WrongKey
resume_refusal (resume.DifferentKey kept opened) = refusals.DifferentKey
resume_refusal resume.NoMemory = refusals.NoMemory
