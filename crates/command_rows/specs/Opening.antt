-- That `attach -C` opens what `init` made.
use Rattle.std.specs.Prelude.{◌≡◌, ℕ, List, Some, Result, Ok, Err}
use Rattle.eli_base.specs.declared.refusals.Refusal.TheVariants as refusals
use Rattle.command_rows.specs.Rows.{Reach}
use Rattle.command_rows.specs.Vocabulary.{CabinetState, Files, KeyWords, Refusal, Rose, components_of}

-- both cabinets report their files, by which the words of one line name the same components as those of the other
pub record NamesSameKey (line : List ℕ) (words : KeyWords) (cabinet : CabinetState) (line' : List ℕ) (words' : KeyWords) (cabinet' : CabinetState) : Type 0 where
  pub files : Files
  pub files' : Files
  pub told : cabinet.files ≡ Some files
  pub told' : cabinet'.files ≡ Some files'
  pub same : components_of files' line' words' ≡ components_of files line words

-- nothing is refused; or the disk failed, or the cabinet, and its count of faults rose; or there was no memory
abbrev pub OpensOrFails : {A : Type 0} → Reach → Result A Refusal → Reach → Type 0
OpensOrFails old (Ok done) new = Unit {0}
OpensOrFails old (Err refusals.DeviceFault) new = Rose old.disk.faults new.disk.faults
OpensOrFails old (Err (refusals.CabinetFault word)) new = Rose old.cabinet.faults new.cabinet.faults
OpensOrFails old (Err refusals.NoMemory) new = Unit {0}
OpensOrFails old (Err refusal) new = ⊥
