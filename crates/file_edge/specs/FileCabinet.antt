-- What a cabinet returns, by what it finds under a name.
use Rattle.std.specs.Prelude.{◌≡◌, ◌+◌, ◌-◌, ◌^◌, min, ℕ, List, Option, Some, Result, Ok, Err, IfSome, is_ok}
use Rattle.std.specs.IoError.{error_kind}
use Rattle.std.specs.Str.{IsUtf8}
use Rattle.std.specs.declared.io.Error.{Error}
use Rattle.std.specs.declared.io.ErrorKind.{ErrorKind}
use Rattle.std.specs.declared.io.ErrorKind.TheVariants as kinds
use Rattle.block_traits.specs.Cabinet.{Answers, CabinetState, load_answer}
use Rattle.block_traits.specs.Causes.{Counted}
use Rattle.block_traits.specs.declared.cabinet.LoadFault.{LoadFault}
use Rattle.block_traits.specs.declared.cabinet.LoadFault.TheVariants as load
use Rattle.block_traits.specs.declared.cabinet.StoreFault.{StoreFault}
use Rattle.block_traits.specs.declared.cabinet.StoreFault.TheVariants as store
use Rattle.file_edge.specs.Asked.{Open, asking, more}
use Rattle.file_edge.specs.Found.{IsOneOfImages}
use Rattle.file_edge.specs.Names.{NamedFiles, OpensTold, told_files}
use Rattle.file_edge.specs.Opening.{to_read}
use Rattle.file_edge.specs.declared.found.FileId.{FileId}
use Rattle.file_edge.specs.declared.found.Found.{Found}
use Rattle.file_edge.specs.declared.image_file.ImageFile as image_file
use Rattle.file_edge.specs.declared.opener.Opener as opener

-- a cabinet beside these images over an opener that reports this, before anything was asked of it
abbrev pub new_cabinet : List FileId → Option NamedFiles → CabinetState
new_cabinet images told = record { files = told_files images told; faults = 0; misses = 0; loads = 0; stores = 0 }

-- why nothing is loaded if the file can't be opened
abbrev pub fault_of : ErrorKind → LoadFault
fault_of kinds.NotFound = load.Absent
fault_of kinds.OutOfMemory = load.NoMemory
fault_of kind = load.Failed

-- why nothing is loaded if the file can't be read
abbrev pub read_fault : ErrorKind → LoadFault
read_fault kinds.OutOfMemory = load.NoMemory
read_fault kind = load.Failed

-- what is loaded of a file whose reading came to this
abbrev pub loaded_answer : Result (List ℕ) Error → ℕ → Result (List ℕ) LoadFault
loaded_answer (Ok bytes) limit = load_answer (Some bytes) limit
loaded_answer (Err error) limit = Err (read_fault (error_kind error))

-- the file is read to its end, or to a byte past the limit, and that is what is returned
pub record ReadsWhole {F : Type 0} (f : image_file.Ghosts F) (file : F) (limit : ℕ) (result : Result (List ℕ) LoadFault) : Type 0 where
  pub read : Result (List ℕ) Error
  pub held : f.holds file (min (limit + 1) (2 ^ 64 - 1)) read
  pub answered : result ≡ loaded_answer read limit

-- an open file isn't absent; if it knows its bytes, they are returned, or they are too many, or reading failed
abbrev pub LoadAnswers : Option (List ℕ) → ℕ → Result (List ℕ) LoadFault → Type 0
LoadAnswers known limit (Err load.Absent) = ⊥
LoadAnswers known limit result = IfSome known (λ bytes. Answers (load_answer (Some bytes) limit) result)

-- how many faults and misses are counted, before and after a call
pub record Counts : Type 0 where
  pub faults : ℕ
  pub misses : ℕ

abbrev pub counts : ℕ → ℕ → Counts
counts faults misses = record { faults = faults; misses = misses }

-- a failed load is one fault, and a file that is absent or too long is one miss; nothing else is counted
abbrev pub CountsLoad : {T : Type 0} → Result T LoadFault → Counts → Counts → Type 0
CountsLoad (Ok done) old new = new ≡ old
CountsLoad (Err load.NoMemory) old new = new ≡ old
CountsLoad (Err load.Failed) old new = Counted 1 old.faults new.faults × (new.misses ≡ old.misses)
CountsLoad (Err load.Absent) old new = Counted 1 old.misses new.misses × (new.faults ≡ old.faults)
CountsLoad (Err load.TooLong) old new = Counted 1 old.misses new.misses × (new.faults ≡ old.faults)

-- a failed store is one fault; nothing else is counted
abbrev pub CountsStore : {T : Type 0} → Result T StoreFault → Counts → Counts → Type 0
CountsStore (Ok done) old new = new ≡ old
CountsStore (Err store.NoMemory) old new = new ≡ old
CountsStore (Err store.Failed) old new = Counted 1 old.faults new.faults × (new.misses ≡ old.misses)

module _ {O F : Type 0} (o : opener.Ghosts O F) (f : image_file.Ghosts F) (images : List FileId) where
  -- an image isn't read; another file is, and what was read is returned
  pub record ReadsOpened (file : F) (limit : ℕ) (result : Result (List ℕ) LoadFault) : Type 0 where
    pub found : Result Found Error
    pub told : f.tells file found
    pub image : IsOneOfImages images found → result ≡ Err load.Failed
    pub other : (IsOneOfImages images found → ⊥) → LoadAnswers (f.left file) limit result
    pub whole : (IsOneOfImages images found → ⊥) → ReadsWhole f file limit result

  -- what was opened is read, or the refusal is returned
  abbrev pub LoadsOpened : Result F Error → ℕ → Result (List ℕ) LoadFault → Type 0
  LoadsOpened (Ok file) limit result = ReadsOpened file limit result
  LoadsOpened (Err error) limit result = result ≡ Err (fault_of (error_kind error))

  -- the file of this name is opened to be read, it is what was reported of the name, and nothing else is asked
  pub record LoadsNamedFile (old : O) (name : List ℕ) (limit : ℕ) (result : Result (List ℕ) LoadFault) (new : O) : Type 0 where
    pub opened : Result F Error
    pub answered : o.answers old to_read name opened
    pub told : OpensTold f (o.told old) name opened
    pub asked : o.asked new ≡ more (asking (Open to_read name) (is_ok opened)) (o.asked old)
    pub loads : LoadsOpened opened limit result

  -- a name that is no text names no file
  pub record LoadsNone (old : O) (result : Result (List ℕ) LoadFault) (new : O) : Type 0 where
    pub absent : result ≡ Err load.Absent
    pub asked : o.asked new ≡ o.asked old

  -- a load under a name: one that is text names a file, and another names none
  pub record LoadsNamed (old : O) (name : List ℕ) (limit : ℕ) (result : Result (List ℕ) LoadFault) (new : O) : Type 0 where
    pub text : IsUtf8 name → LoadsNamedFile old name limit result new
    pub no_text : (IsUtf8 name → ⊥) → LoadsNone old result new
