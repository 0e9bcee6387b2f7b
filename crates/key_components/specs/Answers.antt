-- What loading returns, and when a refusal may come.
use Rattle.std.specs.Prelude.{◌≡◌, ◌<◌, ◌≤◌, ◌+◌, ◌⊎◌, ℕ, List, ◌∷◌, ◌++◌, length, get_or, Option, None, Some, IfSome, Result, Ok, Err}
use Rattle.block_traits.specs.Cabinet.{CabinetState, Files, load_answer}
use Rattle.block_traits.specs.Causes.{Counted, Rose}
use Rattle.block_traits.specs.declared.cabinet.LoadFault.{LoadFault}
use Rattle.block_traits.specs.declared.cabinet.LoadFault.TheVariants as load
use Rattle.command_words.specs.declared.spans.Span.{Span}
use Rattle.command_words.specs.declared.spans.KeyWords.{KeyWords}
use Rattle.eli_base.specs.declared.refusals.Refusal.{Refusal}
use Rattle.eli_base.specs.declared.refusals.Refusal.TheVariants as refusals
use Rattle.eli_base.specs.declared.refusals.Refusal.TheVariants.{CabinetFault, FileAbsent, FileTooLong, NoMemory}
use Rattle.key_components.specs.Files.{Taking, file_limit, first_fault, key_files, passphrase_files, passphrase_limit}

-- a refusal, or else a value
abbrev pub unless_refused : {T : Type 0} → Option Refusal → T → Result T Refusal
unless_refused None value = Ok value
unless_refused (Some refusal) value = Err refusal

-- the refusal of a file that the word names, by the fault of its load; `FileTooLong` names this limit
abbrev pub file_refusal_of : ℕ → ℕ → LoadFault → Refusal
file_refusal_of word named load.Absent = FileAbsent word
file_refusal_of word named load.TooLong = FileTooLong word named
file_refusal_of word named load.Failed = CabinetFault word
file_refusal_of word named load.NoMemory = NoMemory

abbrev pub refused : ℕ → ℕ → Result (List ℕ) LoadFault → Result (List ℕ) Refusal
refused word named (Ok bytes) = Ok bytes
refused word named (Err fault) = Err (file_refusal_of word named fault)

-- the result for one file that may have `room` bytes, which is what other files left of the limit `named`
abbrev pub room_answer : ℕ → ℕ → ℕ → Option (List ℕ) → Result (List ℕ) Refusal
room_answer word named room file = refused word named (load_answer file room)

-- the result for one file with a limit of its own
abbrev pub file_answer : ℕ → ℕ → Option (List ℕ) → Result (List ℕ) Refusal
file_answer word limit file = room_answer word limit limit file

-- the cabinet failed, or there was no memory, or the refusal is the one expected
abbrev pub IsRefusal : {T : Type 0} → Result T Refusal → Refusal → Type 0
IsRefusal answer (CabinetFault word) = Unit {0}
IsRefusal answer NoMemory = Unit {0}
IsRefusal answer refusal = Err refusal ≡ answer

-- the result is the one expected, or the cabinet failed, or there was no memory
abbrev pub IsAnswer : {T : Type 0} → Result T Refusal → Result T Refusal → Type 0
IsAnswer answer (Ok value) = Ok value ≡ answer
IsAnswer answer (Err refusal) = IsRefusal answer refusal

-- The number of the word that the refusal of a file names. Each refusal is listed, so a new one can't be forgotten.
abbrev pub refused_word : Refusal → Option ℕ
refused_word (refusals.Usage word reason) = None
refused_word refusals.UnknownProvider = None
refused_word refusals.NotAttached = None
refused_word refusals.StillAttached = None
refused_word refusals.BadMagic = None
refused_word (refusals.BadVersion found) = None
refused_word refusals.BadHash = None
refused_word (refusals.BadSize kept found) = None
refused_word (refusals.UnsupportedCipher found) = None
refused_word (refusals.UnsupportedAuth found) = None
refused_word (refusals.BadKeyLength found) = None
refused_word (refusals.BadSectorSize found) = None
refused_word (refusals.UnsupportedFlags mask) = None
refused_word refusals.NoValidKeys = None
refused_word refusals.WrongKey = None
refused_word refusals.NoKeyComponents = None
refused_word refusals.PassphraseNotSet = None
refused_word (refusals.KeyNumberOutOfRange given) = None
refused_word (refusals.KeyNotSet slot) = None
refused_word (refusals.LastKey slot) = None
refused_word refusals.IterationsNeedOneKey = None
refused_word refusals.PassphraseNeeded = None
refused_word (refusals.OutOfRange sector count media) = None
refused_word refusals.ReadOnly = None
refused_word (refusals.Integrity offset) = None
refused_word refusals.DeviceFault = None
refused_word (refusals.FileAbsent word) = Some word
refused_word (refusals.CabinetFault word) = Some word
refused_word refusals.EntropyFault = None
refused_word (refusals.FileTooLong word limit) = Some word
refused_word (refusals.BackupTooShort length) = None
refused_word (refusals.OldSizeMismatch kept given) = None
refused_word refusals.NoMemory = None
refused_word (refusals.NotGrown size given) = None
refused_word (refusals.TooSmall size) = None
refused_word (refusals.BadLength given sectorsize) = None
refused_word refusals.KeyNumberNeeded = None
refused_word refusals.QueueFull = None
refused_word (refusals.NoRequest tag) = None
refused_word (refusals.RequestNotDone tag left) = None
refused_word (refusals.RequestDone tag) = None
refused_word (refusals.RequestsOpen count) = None
refused_word refusals.Suspended = None
refused_word refusals.NotSuspended = None
refused_word refusals.DifferentKey = None
refused_word (refusals.BadPlace place media) = None
refused_word refusals.NotAuthenticated = None
refused_word (refusals.BadPlaceFile word length) = Some word

-- the word is that of a file, and the files before it have no fault, if the cabinet reports its files
pub record IsAt (taking : Taking) (told : Option Files) (line : List ℕ) (spans : List Span) (word : ℕ) : Type 0 where
  pub before : List Span
  pub span : Span
  pub behind : List Span
  pub place : spans ≡ before ++ span ∷ behind
  pub named : span.word ≡ word
  pub served : IfSome told (λ files. first_fault taking files line 0 before ≡ None)

-- the word is that of a passphrase file, and all key files and the passphrase files before it have no fault, if the
-- cabinet reports its files
pub record IsOfPassphrases (told : Option Files) (line : List ℕ) (words : KeyWords) (word : ℕ) : Type 0 where
  pub keys : IfSome told (λ files. first_fault key_files files line 0 words.files ≡ None)
  pub at : IsAt passphrase_files told line words.pass word

-- the files are as they were, and no count fell
pub record KeepsFiles (old new : CabinetState) : Type 0 where
  pub files : new.files ≡ old.files
  pub faults : old.faults ≤ new.faults
  pub misses : old.misses ≤ new.misses

-- the refusals that may come for one file with this limit, by the state of the cabinet before and after
abbrev pub MayRefuse : ℕ → CabinetState → CabinetState → Refusal → Type 0
MayRefuse named old new (CabinetFault word) = Rose old.faults new.faults
MayRefuse named old new (FileAbsent word) = Rose old.misses new.misses
MayRefuse named old new (FileTooLong word limit) = (limit ≡ named) × Rose old.misses new.misses
MayRefuse named old new NoMemory = Unit {0}
MayRefuse named old new refusal = ⊥

-- the refusals that may come for one passphrase file: those of any file, and that its first line is too long, which the
-- cabinet doesn't count as a miss
abbrev pub MayRefusePassphrase : CabinetState → CabinetState → Refusal → Type 0
MayRefusePassphrase old new (FileTooLong word limit) = MayRefuse file_limit old new (FileTooLong word limit) ⊎ (limit ≡ passphrase_limit)
MayRefusePassphrase old new refusal = MayRefuse file_limit old new refusal

-- the word of the file at a place
abbrev pub file_word_at : List Span → ℕ → ℕ
file_word_at files place = (get_or files place (record { start = 0; end = 0; word = 0 })).word

-- loading stopped at one of these files: this file and those before it were loaded, no other was, and if the refusal
-- names a word, it is the word of this file
pub record StopsLoading (files : List Span) (old : CabinetState) (refusal : Refusal) (new : CabinetState) : Type 0 where
  pub place : ℕ
  pub within : place < length files
  pub named : IfSome (refused_word refusal) (λ word. file_word_at files place ≡ word)
  pub asked : Counted (place + 1) old.loads new.loads

-- these files and no others were loaded, one after another, up to the one that was refused, if one was
abbrev pub LoadsEach : {T : Type 0} → List Span → CabinetState → Result T Refusal → CabinetState → Type 0
LoadsEach files old (Ok value) new = Counted (length files) old.loads new.loads
LoadsEach files old (Err refusal) new = StopsLoading files old refusal new

-- loading stopped at a key file that was reached, with a refusal that may come at a key file
pub record StopsAtKeyFile (line : List ℕ) (words : KeyWords) (old : CabinetState) (refusal : Refusal) (new : CabinetState) : Type 0 where
  pub word : IfSome (refused_word refusal) (IsAt key_files old.files line words.files)
  pub cause : MayRefuse file_limit old new refusal

-- loading stopped at a passphrase file that was reached, with a refusal that may come at a passphrase file
pub record StopsAtPassphraseFile (line : List ℕ) (words : KeyWords) (old : CabinetState) (refusal : Refusal) (new : CabinetState) : Type 0 where
  pub word : IfSome (refused_word refusal) (IsOfPassphrases old.files line words)
  pub cause : MayRefusePassphrase old new refusal

-- loading stopped at one of the files of a key, with a refusal that may come at such a file
abbrev pub StopsAtFile : List ℕ → KeyWords → CabinetState → Refusal → CabinetState → Type 0
StopsAtFile line words old refusal new = StopsAtKeyFile line words old refusal new ⊎ StopsAtPassphraseFile line words old refusal new
