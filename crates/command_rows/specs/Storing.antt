-- The file that a line stores: no other file changes, and no more than one store is made.
use Rattle.std.specs.Prelude.{List, None, Option, Some, ℕ, ◌≡◌, ◌⊎◌}
use Rattle.command_rows.specs.Rows.{World}
use Rattle.command_rows.specs.Vocabulary.{CabinetState, Command, Counted, Span, bytes_at, stored}
use Rattle.command_rows.specs.verbs.{verb_of}

-- the place of the name of the file that a command stores, if it stores one
abbrev pub stored_file : Command → Option Span
stored_file command = (verb_of command).stored_file

-- the files stay, and no store is made
pub record StoresNone (old new : CabinetState) : Type 0 where
  pub files : new.files ≡ old.files
  pub stores : new.stores ≡ old.stores

-- one store is made, and the files stay but for the one of this name; if the store failed, all do
pub record StoresOne (name : List ℕ) (old new : CabinetState) : Type 0 where
  pub files : (new.files ≡ old.files) ⊎ ((bytes : List ℕ) × (new.files ≡ stored name bytes old.files))
  pub stores : Counted 1 old.stores new.stores

-- nothing is stored, or the file that is named at a place of the line
abbrev pub StoresAt : List ℕ → Option Span → CabinetState → CabinetState → Type 0
StoresAt line None old new = StoresNone old new
StoresAt line (Some span) old new = StoresNone old new ⊎ StoresOne (bytes_at line span) old new

-- what a line stores
abbrev pub StoresItsFile : List ℕ → Command → World → World → Type 0
StoresItsFile line command old new = StoresAt line (stored_file command) old.cabinet new.cabinet
