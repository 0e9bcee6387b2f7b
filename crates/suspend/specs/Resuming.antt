-- What resuming returns, each result with its cause (geli(8), "resume").
use Rattle.std.specs.Prelude.{◌≡◌, ◌≢◌, ℕ, List, Result, Ok, Err}
use Rattle.provider.specs.declared.faults.AttachFault.TheVariants as attach
use Rattle.provider.specs.Answers.{AttachFails, IsAttached, Means, Target, target_media}
use Rattle.provider.specs.Attached.{Attached}
use Rattle.provider.specs.Opening.{SlotOpens}
use Rattle.sha2.specs.Sha256.{sha256}
use Rattle.suspend.specs.declared.faults.ResumeFault.{ResumeFault}
use Rattle.suspend.specs.declared.faults.ResumeFault.TheVariants as resume
use Rattle.suspend.specs.Suspension.{Suspension}

-- the disk has a whole logical sector, and the slot that is asked for opens to this master key
abbrev pub OpensTo : Target → Means → ℕ → List ℕ → Type 0
OpensTo t by slot master = SlotOpens t.meta (target_media t) by.key by.named slot master

-- the slot opens to a master key with the digest that was kept
pub record OpensTheSame (t : Target) (by : Means) (mark : List ℕ) : Type 0 where
  pub slot : ℕ
  pub master : List ℕ
  pub opens : OpensTo t by slot master
  pub same : sha256 master ≡ mark

-- the slot opens to a master key with another digest; these are the one that was kept, and the other
pub record OpensAnother (t : Target) (by : Means) (mark kept found : List ℕ) : Type 0 where
  pub slot : ℕ
  pub master : List ℕ
  pub opens : OpensTo t by slot master
  pub kept_is : kept ≡ mark
  pub found_is : found ≡ sha256 master
  pub differ : found ≢ kept

-- the provider that is attached: on the disk, under the keying of the metadata, with the master key of the slot that
-- opens, whose digest was kept
pub record IsResumed {D : Type 0} (t : Target) (by : Means) (s : Suspension D) (p : Attached D) : Type 0 where
  pub attached : IsAttached t by s.disk p
  pub same : sha256 p.keying.master ≡ s.mark

-- why no provider is attached: the disk has no whole logical sector, no slot that is asked for opens, the slot opens to
-- another master key, or else there was no memory
abbrev pub ResumeFails : Target → Means → List ℕ → ResumeFault → Type 0
ResumeFails t by mark (resume.TooSmall size) = AttachFails t by (attach.TooSmall size)
ResumeFails t by mark resume.WrongKey = AttachFails t by attach.WrongKey
ResumeFails t by mark (resume.DifferentKey kept found) = OpensAnother t by mark kept found
ResumeFails t by mark resume.NoMemory = OpensTheSame t by mark

-- the suspended provider comes back with the fault, as it was
abbrev pub ResumeAnswers : {D : Type 0} → Target → Means → Suspension D → Result (Attached D) (Suspension D × ResumeFault) → Type 0
ResumeAnswers t by s (Ok p) = IsResumed t by s p
ResumeAnswers t by s (Err refused) = (refused.0 ≡ s) × ResumeFails t by s.mark refused.1

-- two master keys that differ and have the same digest
pub record AreCollision (one other : List ℕ) : Type 0 where
  pub differ : one ≢ other
  pub same : sha256 one ≡ sha256 other
