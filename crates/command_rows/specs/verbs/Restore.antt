-- `restore`: the metadata are written back from a file (geli(8)).
use Rattle.std.specs.Prelude.{Bool, Err, IsTrue, List, None, Ok, Option, Result, ℕ, ◌≡◌}
use Rattle.command_rows.specs.Rows.{Decides, IsFile, KeepsOutside, LoadsFile, NamesFile, OfOther, Reach, RefusesFile, Replies, Then, Verb, WritesMetadata, asks_nothing, done_or, places_nothing}
use Rattle.command_rows.specs.Vocabulary.{DiskState, Files, GivesMetadata, IsBackedUp, IsSectorOf, KeepsAlone, KeepsOldOr, Metadata, Refusal, Restores, Span, encoded, file_limit, last_sector, restored}

-- metadata are put into the last sector from a backup, and all else stays
pub record RestoresBackup (bytes : List ℕ) (force : Bool) (old : Reach) (answer : Result Metadata Refusal) (new : Reach) : Type 0 where
  pub restores : Restores bytes force old.disk answer new.disk
  pub holding : new.holding ≡ old.holding
  pub outside : KeepsOutside old new

-- `restore`, of an idle drawer: the file is loaded, and its metadata are written
abbrev pub RestoreRow : List ℕ → Span → Bool → Reach → Result (Unit {0}) Refusal → Reach → Type 0
RestoreRow line file force old answer new =
    Then (LoadsFile file_limit line file)
    (λ bytes. Then (RestoresBackup bytes force)
    (λ m. Decides (Ok tt))) old answer new

-- `restore`: the file has metadata for the image
pub record FindsBackup (line : List ℕ) (file : Span) (force : Bool) (old : Reach) : Type 0 where
  pub bytes : List ℕ
  pub names : NamesFile file_limit line file old.cabinet bytes
  pub m : Metadata
  pub served : restored bytes force old.disk.size ≡ Ok m

-- the image or the backup is refused
pub record RefusesRestore (line : List ℕ) (file : Span) (force : Bool) (old : Reach) (refusal : Refusal) : Type 0 where
  pub bytes : List ℕ
  pub named : IsFile file_limit old.cabinet.files line file bytes
  pub refused : restored bytes force old.disk.size ≡ Err refusal

-- The last sector gets the metadata of the backup in the file that is named. At each moment each value that it may hold
-- is one from before or these metadata; once it's done they are the only one.
pub record PutsBack (told : Option Files) (line : List ℕ) (file : Span) (force : Bool) (old : DiskState) (done : Bool) (new : DiskState) : Type 0 where
  pub bytes : List ℕ
  pub named : IsFile file_limit told line file bytes
  pub m : Metadata
  pub gives : GivesMetadata bytes force old.size m
  pub usable : IsBackedUp bytes force m
  pub kept : KeepsOldOr (IsSectorOf m) (last_sector old) old.content new.content
  pub alone : IsTrue done → KeepsAlone (encoded m) (last_sector old) new.content

-- the verb
abbrev pub restore_verb : Span → Span → Bool → Verb
restore_verb file prov force = record {
  goes_through = λ line old reply new. Replies done_or (RestoreRow line file force) old reply new;
  fits = λ line old. FindsBackup line file force old;
  grounds = λ line old refusal. RefusesRestore line file force old refusal;
  bad_file = λ line holding old refusal new. RefusesFile file_limit line file old refusal new;
  events = λ line disk holding events. WritesMetadata disk events;
  changes = λ line told holding old done new. PutsBack told line file force old done new;
  stored_file = None;
  asks = asks_nothing;
  places = places_nothing;
  kind = OfOther;
}
