-- Files by their names, and what the calls of a cabinet return.
use Rattle.std.specs.Prelude.{◌≡◌, ℕ, nat_le, List, length, Option, Some, None, Result, Ok, Err, if◌then◌else◌}
use Rattle.std.specs.Option.{option_map}
use Rattle.std.specs.Str.{bytes_eq}
use Rattle.block_traits.specs.declared.cabinet.LoadFault.{LoadFault}
use Rattle.block_traits.specs.declared.cabinet.LoadFault.TheVariants as load

-- the bytes of the file that each name has
abbrev pub Files : Type 0
Files = List ℕ → Option (List ℕ)

-- one file is made or replaced, and the others stay
abbrev pub with_file : List ℕ → List ℕ → Files → Files
with_file name bytes files other = if bytes_eq other name then Some bytes else files other

-- the files of a cabinet with one made or replaced, if it reports its files
abbrev pub stored : List ℕ → List ℕ → Option Files → Option Files
stored name bytes told = option_map (with_file name bytes) told

-- what a load of a name returns: the bytes of its file, or an error if there is none or it is longer than the limit
abbrev pub load_answer : Option (List ℕ) → ℕ → Result (List ℕ) LoadFault
load_answer None limit = Err load.Absent
load_answer (Some bytes) limit = if nat_le (length bytes) limit then Ok bytes else Err load.TooLong

-- the result is this answer, or the cabinet failed, or there was no memory
abbrev pub Answers : Result (List ℕ) LoadFault → Result (List ℕ) LoadFault → Type 0
Answers answer (Err load.Failed) = Unit {0}
Answers answer (Err load.NoMemory) = Unit {0}
Answers answer result = result ≡ answer

-- what a load may return, if the cabinet reports its files
abbrev pub LoadGives : Option Files → List ℕ → ℕ → Result (List ℕ) LoadFault → Type 0
LoadGives None name limit result = Unit {0}
LoadGives (Some files) name limit result = Answers (load_answer (files name) limit) result

-- a cabinet by its files, if it reports them, how often it failed, how often a file was absent or too long, and how
-- often it was asked to load one, and to store one
pub record CabinetState : Type 0 where
  pub files : Option Files
  pub faults : ℕ
  pub misses : ℕ
  pub loads : ℕ
  pub stores : ℕ
