-- How files are opened.
use Rattle.std.specs.Prelude.{◌≡◌, ℕ, List, ◌++◌, Bool, true, false, Option, Result, Ok, Err}
use Rattle.std.specs.Fs.{new_options, with_read, with_write}
use Rattle.std.specs.declared.fs.options.OpenOptions.{OpenOptions}
use Rattle.std.specs.declared.io.Error.{Error}
use Rattle.file_edge.specs.Asked.{Asked, Open, asking, more}

-- a file that is there, to be read
abbrev pub to_read : OpenOptions
to_read = with_read new_options true

-- a file that is there, to be read and written
abbrev pub to_change : OpenOptions
to_change = with_write to_read true

-- what an open of an image asks, by what was done: if it is to be changed, to open it so, and if that is refused, to
-- read it; else only to read it
abbrev pub image_asked : List ℕ → (changes written read : Bool) → List Asked
image_asked name false written read = asking (Open to_read name) read
image_asked name true true read = asking (Open to_change name) true
image_asked name true false read = asking (Open to_change name) false ++ asking (Open to_read name) read

-- what an open of an image asked, and nothing else was asked
pub record AsksImage {O : Type 0} (log_of : O → Option (List Asked)) (opener : O) (changes : Bool) (name : List ℕ) (new : O) : Type 0 where
  pub written : Bool
  pub read : Bool
  pub log : log_of new ≡ more (image_asked name changes written read) (log_of opener)

module _ {O F : Type 0} (answers : O → OpenOptions → List ℕ → Result F Error → Type 0) where
  -- the opener returns this for these options and this name
  pub record OpensName (how : OpenOptions) (name : List ℕ) (opened : Result F Error) : Type 0 where
    pub opener : O
    pub answered : answers opener how name opened

  -- a file that is opened to be changed; or opening it so was refused, and this was returned when it was opened to be
  -- read
  abbrev pub OrReads : List ℕ → Result F Error → Result F Error → Type 0
  OrReads name (Ok file) opened = opened ≡ Ok file
  OrReads name (Err error) opened = OpensName to_read name opened

  -- an image is opened to be changed, or else to be read
  pub record OpensToChange (opener : O) (name : List ℕ) (opened : Result F Error) : Type 0 where
    pub first : Result F Error
    pub answered : answers opener to_change name first
    pub next : OrReads name first opened

  -- an image is opened to be changed, or else to be read; or only to be read
  abbrev pub OpensImage : O → Bool → List ℕ → Result F Error → Type 0
  OpensImage opener false name opened = answers opener to_read name opened
  OpensImage opener true name opened = OpensToChange opener name opened
