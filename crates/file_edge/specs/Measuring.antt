-- How an open file is looked at before it is served as an image.
use Rattle.std.specs.Prelude.{◌≡◌, ◌<◌, ◌≤◌, ◌^◌, ℕ, List, [], ◌∷◌, Bool, true, false, Option, None, Some, Result, Ok, Err, if◌then◌else◌}
use Rattle.std.specs.declared.io.Error.{Error}
use Rattle.file_edge.specs.Asked.{more}
use Rattle.file_edge.specs.Found.{IsFree}
use Rattle.file_edge.specs.ImageFile.{Lock}
use Rattle.file_edge.specs.declared.found.FileId.{FileId}
use Rattle.file_edge.specs.declared.found.Found.{Found}
use Rattle.file_edge.specs.declared.image_file.ImageFile as image_file
use Rattle.file_edge.specs.declared.measuring.Measured.{Measured}

-- a file of which only this is known, and which isn't served
abbrev pub unserved : FileId → Measured
unserved id = record { id = id; length = None }

module _ {F : Type 0} (f : image_file.Ghosts F) where
  -- the file is locked by one call of it, or that was refused
  pub record Locks (done : Bool) (old new : F) : Type 0 where
    pub answered : f.locks old done new
    pub log : f.calls new ≡ more (Lock ∷ []) (f.calls old)

  -- a file that is to be changed is locked; nothing is asked of another
  abbrev pub LocksToChange : Bool → Bool → F → F → Type 0
  LocksToChange false done old new = (done ≡ true) × (new ≡ old)
  LocksToChange true done old new = Locks done old new

  -- a file that isn't too large is served if it is to be read, or could be locked
  pub record TakesSize (changes : Bool) (size : ℕ) (served : Option ℕ) (old new : F) : Type 0 where
    pub done : Bool
    pub held : LocksToChange changes done old new
    pub size_is : served ≡ (if done then Some size else None)

  -- a file without an end, or of 2^53 bytes or more, isn't served, and nothing is asked of it
  abbrev pub TakesTo : Bool → Option ℕ → Option ℕ → F → F → Type 0
  TakesTo changes None served old new = (served ≡ None) × (new ≡ old)
  TakesTo changes (Some size) served old new =
      (size < 2 ^ 53 → TakesSize changes size served old new) × (2 ^ 53 ≤ size → (served ≡ None) × (new ≡ old))

  -- the end of a file is found, and then it is taken; nothing else is asked of it
  pub record FindsEnd (changes : Bool) (served : Option ℕ) (old new : F) : Type 0 where
    pub end : Option ℕ
    pub asked : F
    pub found : f.ends old end asked
    pub unasked : f.calls asked ≡ f.calls old
    pub takes : TakesTo changes end served asked new

  -- a file that may be an image is taken
  pub record MeasuresFree (changes : Bool) (id : FileId) (seen : Measured) (old new : F) : Type 0 where
    pub which : seen.id ≡ id
    pub end : FindsEnd changes seen.length old new

  module _ (images : List FileId) (changes : Bool) where
    -- what a file serves as, by what was found of it and by the file that its name led to
    abbrev pub MeasuresFound : F → FileId → Result Found Error → Measured → F → Type 0
    MeasuresFound file id (Err error) seen new = (seen ≡ unserved id) × (new ≡ file)
    MeasuresFound file id (Ok found) seen new =
        (IsFree images found → MeasuresFree changes found.id seen file new) × ((IsFree images found → ⊥) → (seen ≡ unserved found.id) × (new ≡ file))

    -- what an open file serves as
    pub record IsMeasured (file : F) (id : FileId) (seen : Measured) (new : F) : Type 0 where
      pub found : Result Found Error
      pub told : f.tells file found
      pub measures : MeasuresFound file id found seen new
