-- Refusals of attaching, as refusals of resuming.
use Rattle.provider.specs.declared.faults.AttachFault.{AttachFault}
use Rattle.provider.specs.declared.faults.AttachFault.TheVariants as attach
use Rattle.suspend.specs.declared.faults.ResumeFault.{ResumeFault}
use Rattle.suspend.specs.declared.faults.ResumeFault.TheVariants as resume

-- the fault of a resumption that couldn't attach, by the fault of attaching
abbrev pub resume_fault_of : AttachFault → ResumeFault
resume_fault_of (attach.TooSmall size) = resume.TooSmall size
resume_fault_of attach.WrongKey = resume.WrongKey
resume_fault_of attach.NoMemory = resume.NoMemory
