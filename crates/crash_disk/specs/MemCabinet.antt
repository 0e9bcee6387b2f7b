-- What a cabinet in memory is, and what its calls make of it.
use Rattle.std.specs.Prelude.{◌≡◌, ◌⊎◌, ℕ, ◌+◌, ◌&&◌, not, Bool, true, false, is_err, List, [], ◌∷◌, Option, Some, None, Result, Ok, Err, if◌then◌else◌}
use Rattle.std.specs.Option.{option_map}
use Rattle.std.specs.Str.{bytes_eq}
use Rattle.block_traits.specs.Cabinet.{Files, load_answer}
use Rattle.block_traits.specs.declared.cabinet.LoadFault.{LoadFault}
use Rattle.block_traits.specs.declared.cabinet.LoadFault.TheVariants.{Failed, NoMemory}
use Rattle.crash_disk.specs.declared.mem_cabinet.NamedFile.{NamedFile}
use Rattle.crash_disk.specs.Calls.{CallsState, called, next_fails}
use Rattle.crash_disk.specs.Count.{one_more}

-- a cabinet's files, the calls that fail, how often it has failed, how often a file was absent or too long, and how
-- many loads and how many stores were made
pub record MemCabinetState : Type 0 where
  pub files : List NamedFile
  pub calls : CallsState
  pub faults : ℕ
  pub misses : ℕ
  pub loads : ℕ
  pub stores : ℕ

-- the bytes of the first file of this name
abbrev pub file_in : List ℕ → List NamedFile → Option (List ℕ)
file_in name [] = None
file_in name (file ∷ files) = if bytes_eq file.name name then Some file.bytes else file_in name files

-- the place of the first file of this name
abbrev pub file_place : List ℕ → List NamedFile → Option ℕ
file_place name [] = None
file_place name (file ∷ files) = if bytes_eq file.name name then Some 0 else option_map (λ place. place + 1) (file_place name files)

abbrev pub files_of : List NamedFile → Files
files_of files name = file_in name files

-- after a call that finds no file absent or too long
abbrev pub after_call : MemCabinetState → MemCabinetState
after_call cabinet = record cabinet {
  calls = called cabinet.calls;
  faults = if next_fails cabinet.calls then one_more cabinet.faults else cabinet.faults;
}

-- a load doesn't fail, and finds the file absent or too long
abbrev pub load_misses : List ℕ → ℕ → MemCabinetState → Bool
load_misses name limit cabinet = not (next_fails cabinet.calls) && is_err (load_answer (file_in name cabinet.files) limit)

-- after a load
abbrev pub after_load : List ℕ → ℕ → MemCabinetState → MemCabinetState
after_load name limit cabinet = record (after_call cabinet) {
  misses = if load_misses name limit cabinet then one_more cabinet.misses else cabinet.misses;
  loads = one_more cabinet.loads;
}

-- if the call is listed, it fails; else it returns what the file says, or there is no memory for the bytes
abbrev pub AnswersLoad : Bool → Result (List ℕ) LoadFault → Result (List ℕ) LoadFault → Type 0
AnswersLoad true answer result = result ≡ Err Failed
AnswersLoad false (Err fault) result = result ≡ Err fault
AnswersLoad false (Ok bytes) result = (result ≡ Ok bytes) ⊎ (result ≡ Err NoMemory)

abbrev pub Loads : List ℕ → ℕ → MemCabinetState → Result (List ℕ) LoadFault → Type 0
Loads name limit cabinet result = AnswersLoad (next_fails cabinet.calls) (load_answer (file_in name cabinet.files) limit) result
