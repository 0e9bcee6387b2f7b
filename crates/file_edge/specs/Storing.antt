-- What a store asks of an opener.
use Rattle.std.specs.Prelude.{◌≡◌, ◌-◌, ◌^◌, ℕ, zero, suc, List, [], ◌++◌, true, false, Option, Result, Ok, Err, codes, decimal}
use Rattle.std.specs.Str.{IsUtf8}
use Rattle.std.specs.declared.io.Error.{Error}
use Rattle.block_traits.specs.declared.cabinet.StoreFault.{StoreFault}
use Rattle.block_traits.specs.declared.cabinet.StoreFault.TheVariants as faults
use Rattle.file_edge.specs.Asked.{Asked, Look, Make, Meet, Write, Sync, Rename, SyncFolder, Remove, asking, more}
use Rattle.file_edge.specs.Found.{IsReplaceable}
use Rattle.file_edge.specs.declared.found.FileId.{FileId}
use Rattle.file_edge.specs.declared.found.Found.{Found}
use Rattle.file_edge.specs.declared.opener.Opener as opener
use Rattle.file_edge.specs.declared.store.Stop.{Stop}
use Rattle.file_edge.specs.declared.store.Stop.TheVariants as stops

-- the names beside a name, in the same folder, by their numbers
abbrev pub beside_name : List ℕ → ℕ → List ℕ
beside_name name number = name ++ codes ".new" ++ decimal number

-- the first names beside, in order, which something has already
abbrev pub met : List ℕ → ℕ → List Asked
met name zero = []
met name (suc number) = met name number ++ asking (Meet 0o600 (beside_name name number)) false

-- What is asked for a new file, by its name and how that ends: it takes all bytes, is synced and renamed, and the
-- folder is synced. If one of these isn't done, no other follows, except that its name is removed.
abbrev pub moving : List ℕ → List ℕ → List ℕ → Result Unit Stop → List Asked
moving name beside bytes (Ok done) = asking (Write bytes) true ++ asking Sync true ++ asking (Rename beside name) true ++ asking (SyncFolder name) true
moving name beside bytes (Err stops.Written) = asking (Write bytes) false ++ asking (Remove beside) true
moving name beside bytes (Err stops.Synced) = asking (Write bytes) true ++ asking Sync false ++ asking (Remove beside) true
moving name beside bytes (Err stops.Renamed) = asking (Write bytes) true ++ asking Sync true ++ asking (Rename beside name) false ++ asking (Remove beside) true
moving name beside bytes (Err stops.FolderSynced) = asking (Write bytes) true ++ asking Sync true ++ asking (Rename beside name) true ++ asking (SyncFolder name) false
moving name beside bytes (Err stop) = []

-- how a store ends that made a new file
abbrev pub IsMove : Result Unit Stop → Type 0
IsMove (Ok done) = Unit {0}
IsMove (Err stops.Written) = Unit {0}
IsMove (Err stops.Synced) = Unit {0}
IsMove (Err stops.Renamed) = Unit {0}
IsMove (Err stops.FolderSynced) = Unit {0}
IsMove (Err stop) = ⊥

-- what a store asks after the names that it met, by the next name beside and how it ends: a new file that its owner
-- alone may read and write, and then what is asked for that
abbrev pub replacing : List ℕ → List ℕ → List ℕ → Result Unit Stop → List Asked
replacing name beside bytes (Err stops.Named) = []
replacing name beside bytes (Err stops.Memory) = []
replacing name beside bytes (Err stops.Spared) = []
replacing name beside bytes (Err stops.Crowded) = []
replacing name beside bytes (Err stops.Made) = asking (Make 0o600 beside) false
replacing name beside bytes result = asking (Make 0o600 beside) true ++ moving name beside bytes result

-- how a store ends that came past its look and met so many names; it gives up if it met all
abbrev pub IsStep : Result Unit Stop → ℕ → Type 0
IsStep (Err stops.Named) number = ⊥
IsStep (Err stops.Spared) number = ⊥
IsStep (Err stops.Crowded) number = number ≡ 2 ^ 64 - 1
IsStep result number = Unit {0}

-- why no new file was made, and how many names were met
abbrev pub IsUnmade : Stop → ℕ → Type 0
IsUnmade stops.Memory number = Unit {0}
IsUnmade stops.Made number = Unit {0}
IsUnmade stops.Crowded number = number ≡ 2 ^ 64 - 1
IsUnmade stop number = ⊥

-- what a store returns that ended so
abbrev pub fault_answer : Result Unit Stop → Result Unit StoreFault
fault_answer (Ok done) = Ok done
fault_answer (Err stops.Memory) = Err faults.NoMemory
fault_answer (Err stop) = Err faults.Failed

module _ {O : Type 0} (log_of : O → Option (List Asked)) (name : List ℕ) where
  -- a new file was made under the first name beside that was free
  pub record MakesBeside (opener : O) (beside : List ℕ) (new : O) : Type 0 where
    pub number : ℕ
    pub named : beside ≡ beside_name name number
    pub asked : log_of new ≡ more (met name number ++ asking (Make 0o600 beside) true) (log_of opener)

  -- no new file was made, and why
  pub record MakesNone (opener : O) (stop : Stop) (new : O) : Type 0 where
    pub number : ℕ
    pub unmade : IsUnmade stop number
    pub asked : log_of new ≡ more (met name number ++ replacing name (beside_name name number) [] (Err stop)) (log_of opener)

module _ {O : Type 0} (log_of : O → Option (List Asked)) (name bytes : List ℕ) where
  -- a new file was brought to the name, or not
  pub record BringsToName (opener : O) (beside : List ℕ) (result : Result Unit Stop) (new : O) : Type 0 where
    pub move : IsMove result
    pub asked : log_of new ≡ more (moving name beside bytes result) (log_of opener)

  -- a new file was made beside, and brought to the name, or not
  pub record Brings (opener : O) (result : Result Unit Stop) (new : O) : Type 0 where
    pub number : ℕ
    pub step : IsStep result number
    pub asked : log_of new ≡ more (met name number ++ replacing name (beside_name name number) bytes result) (log_of opener)

module _ {O F : Type 0} (o : opener.Ghosts O F) (images : List FileId) where
  -- what has the name was looked for, and nothing else was asked
  pub record LooksForName (before : O) (name : List ℕ) (found : Result Found Error) (new : O) : Type 0 where
    pub answered : o.finds before name found
    pub asked : o.asked new ≡ more (asking (Look name) true) (o.asked before)

  -- what was found may not be replaced
  pub record Spares (before : O) (name : List ℕ) (new : O) : Type 0 where
    pub found : Result Found Error
    pub looks : LooksForName before name found new
    pub taken : IsReplaceable images found → ⊥

  -- what was found may be replaced, and then the new file was brought to the name, or not
  pub record Replaces (before : O) (name bytes : List ℕ) (result : Result Unit Stop) (new : O) : Type 0 where
    pub found : Result Found Error
    pub looked : O
    pub looks : LooksForName before name found looked
    pub free : IsReplaceable images found
    pub brings : Brings o.asked name bytes looked result new

  -- a store under a name, by how it ended: without text for a name nothing was asked
  abbrev pub Stores : O → List ℕ → List ℕ → Result Unit Stop → O → Type 0
  Stores before name bytes (Err stops.Named) new = (IsUtf8 name → ⊥) × (o.asked new ≡ o.asked before)
  Stores before name bytes (Err stops.Spared) new = Spares before name new
  Stores before name bytes result new = Replaces before name bytes result new

  -- a store under a name, by what it returned
  pub record StoresNamedFile (before : O) (name bytes : List ℕ) (result : Result Unit StoreFault) (new : O) : Type 0 where
    pub ended : Result Unit Stop
    pub stores : Stores before name bytes ended new
    pub answer : result ≡ fault_answer ended
