-- What an opener was asked, in order.
use Rattle.std.specs.Prelude.{ℕ, List, [], ◌∷◌, ◌++◌, Bool, true, false, Option, Result, Ok, Err, option_map}
use Rattle.std.specs.IoError.{error_kind}
use Rattle.std.specs.declared.fs.options.OpenOptions.{OpenOptions}
use Rattle.std.specs.declared.io.Error.{Error}
use Rattle.std.specs.declared.io.ErrorKind.{ErrorKind}
use Rattle.std.specs.declared.io.ErrorKind.TheVariants.{AlreadyExists}

-- one request: what a name leads to, through links; what has a name; the file of a name; a new file of a mode and a
-- name, or one whose name something has already; bytes after those of the new file; the new file on the disk; another
-- name for a file, in place of what has it; the folder of a name on the disk; a name that is removed
pub data FileRequest : Type 0 where
  Find : (name : List ℕ) → FileRequest
  Look : (name : List ℕ) → FileRequest
  Open : (how : OpenOptions) → (name : List ℕ) → FileRequest
  Make : (mode : ℕ) → (name : List ℕ) → FileRequest
  Meet : (mode : ℕ) → (name : List ℕ) → FileRequest
  Write : (bytes : List ℕ) → FileRequest
  Sync : FileRequest
  Rename : (from to : List ℕ) → FileRequest
  SyncFolder : (name : List ℕ) → FileRequest
  Remove : (name : List ℕ) → FileRequest

-- a request, and whether it was done; a find, a look and a removal count as done
pub record Asked : Type 0 where
  pub request : FileRequest
  pub done : Bool

abbrev pub asking : FileRequest → Bool → List Asked
asking request done = record { request = request; done = done } ∷ []

-- a list with these items added at its end, if the list is reported
abbrev pub more : {A : Type 0} → List A → Option (List A) → Option (List A)
more items told = option_map (λ before. before ++ items) told

-- what a refusal of a new file was, by its kind
abbrev pub unmade : ℕ → List ℕ → ErrorKind → List Asked
unmade mode name AlreadyExists = asking (Meet mode name) false
unmade mode name kind = asking (Make mode name) false

-- the request for a new file, by what it came to
abbrev pub making : ℕ → List ℕ → Result Unit Error → List Asked
making mode name (Ok done) = asking (Make mode name) true
making mode name (Err error) = unmade mode name (error_kind error)
