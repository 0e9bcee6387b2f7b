-- Refusals for what the metadata, the files of a key or a backup, the image and the words of a line are like.
use Rattle.std.specs.Prelude.{List, length, ℕ}
use Rattle.eli_base.specs.declared.refusals.Refusal.TheVariants as refusals
use Rattle.command_rows.specs.Rows.{Holding, Reach}
use Rattle.command_rows.specs.Vocabulary.{CabinetState, Command, Refusal, media}
use Rattle.command_rows.specs.verbs.{verb_of}

-- ---- what stands in files

-- a file that a line names is refused
abbrev pub FindsBadFile : List ℕ → Command → Holding → CabinetState → Refusal → CabinetState → Type 0
FindsBadFile line command holding old refusal new = (verb_of command).bad_file line holding old refusal new

-- ---- a line

-- A refusal for what the metadata, the files, the image or the words are like. Other refusals have causes of their own:
-- the words alone, the drawer that isn't there, what it does with its disk, what is asked of the provider, a failure, a
-- file, and want of memory. Each refusal is named, so that a new one has to be decided on.
abbrev pub IsGround : Refusal → Type 0
IsGround (refusals.Usage word reason) = ⊥
IsGround refusals.UnknownProvider = ⊥
IsGround refusals.NotAttached = ⊥
IsGround refusals.StillAttached = ⊥
IsGround refusals.BadMagic = Unit {0}
IsGround (refusals.BadVersion found) = Unit {0}
IsGround refusals.BadHash = Unit {0}
IsGround (refusals.BadSize kept found) = Unit {0}
IsGround (refusals.UnsupportedCipher found) = Unit {0}
IsGround (refusals.UnsupportedAuth found) = Unit {0}
IsGround (refusals.BadKeyLength found) = Unit {0}
IsGround (refusals.BadSectorSize found) = Unit {0}
IsGround (refusals.UnsupportedFlags mask) = Unit {0}
IsGround refusals.NoValidKeys = Unit {0}
IsGround refusals.WrongKey = Unit {0}
IsGround refusals.NoKeyComponents = Unit {0}
IsGround refusals.PassphraseNotSet = Unit {0}
IsGround (refusals.KeyNumberOutOfRange given) = Unit {0}
IsGround (refusals.KeyNotSet slot) = Unit {0}
IsGround (refusals.LastKey slot) = Unit {0}
IsGround refusals.IterationsNeedOneKey = Unit {0}
IsGround refusals.PassphraseNeeded = Unit {0}
IsGround (refusals.OutOfRange sector count media) = ⊥
IsGround refusals.ReadOnly = ⊥
IsGround (refusals.Integrity offset) = ⊥
IsGround refusals.DeviceFault = ⊥
IsGround (refusals.FileAbsent word) = ⊥
IsGround (refusals.CabinetFault word) = ⊥
IsGround refusals.EntropyFault = ⊥
IsGround (refusals.FileTooLong word limit) = ⊥
IsGround (refusals.BackupTooShort length) = Unit {0}
IsGround (refusals.OldSizeMismatch kept given) = Unit {0}
IsGround refusals.NoMemory = ⊥
IsGround (refusals.NotGrown size given) = Unit {0}
IsGround (refusals.TooSmall size) = Unit {0}
IsGround (refusals.BadLength given sectorsize) = ⊥
IsGround refusals.KeyNumberNeeded = Unit {0}
IsGround refusals.QueueFull = ⊥
IsGround (refusals.NoRequest tag) = ⊥
IsGround (refusals.RequestNotDone tag left) = ⊥
IsGround (refusals.RequestDone tag) = ⊥
IsGround (refusals.RequestsOpen count) = ⊥
IsGround refusals.Suspended = ⊥
IsGround refusals.NotSuspended = ⊥
IsGround refusals.DifferentKey = Unit {0}
IsGround (refusals.BadPlace place media) = Unit {0}
IsGround refusals.NotAuthenticated = ⊥
IsGround (refusals.BadPlaceFile word length) = Unit {0}

-- a line is refused for what it finds and for what is reported
abbrev pub HasGround : List ℕ → Command → Reach → Refusal → Type 0
HasGround line command old refusal = (verb_of command).grounds line old refusal
