-- The system's random bytes.
use Rattle.std.specs.Prelude.{◌≡◌, List, [], ℕ, Bool, Option, None, Some, Result, codes}
use Rattle.std.specs.Result.{result_ok}
use Rattle.std.specs.declared.fs.options.OpenOptions.{OpenOptions}
use Rattle.std.specs.declared.io.Error.{Error}
use Rattle.block_traits.specs.Streams.{EntropyState}
use Rattle.file_edge.specs.Asked.{Asked, Open, asking, more}
use Rattle.file_edge.specs.Opening.{to_read}
use Rattle.file_edge.specs.declared.random_file.RandomFile.{RandomFile}

-- the device is opened under its name, or there is none
pub record OpensDevice {O F : Type 0} (answers : O → OpenOptions → List ℕ → Result F Error → Type 0) (opener : O) (random : RandomFile F) : Type 0 where
  pub opened : Result F Error
  pub answered : answers opener to_read (codes "/dev/urandom") opened
  pub device : random.device ≡ result_ok opened

-- the device is opened to be read, or refused, and nothing else was asked
pub record AsksDevice {O : Type 0} (log_of : O → Option (List Asked)) (opener new : O) : Type 0 where
  pub done : Bool
  pub log : log_of new ≡ more (asking (Open to_read (codes "/dev/urandom")) done) (log_of opener)

-- the bytes that are left of the device; if none is open, nothing is left
abbrev pub left_in : {F : Type 0} → (F → Option (List ℕ)) → Option F → Option (List ℕ)
left_in left None = Some []
left_in left (Some device) = left device

-- entropy of which this is left, before anything was asked of it
abbrev pub new_entropy : Option (List ℕ) → EntropyState
new_entropy left = record { left = left; faults = 0; calls = 0 }
