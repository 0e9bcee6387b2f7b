-- The numbers of refusals, and which of several comes.
use Rattle.std.specs.Prelude.{ℕ, Bool, List, [], ◌∷◌, Option, Some, None, if◌then◌else◌}
use Rattle.eli_base.specs.declared.refusals.Refusal.{Refusal}
use Rattle.eli_base.specs.declared.refusals.Refusal.TheVariants.{Usage, UnknownProvider, NotAttached, StillAttached, BadMagic, BadVersion, BadHash, BadSize, UnsupportedCipher, UnsupportedAuth, BadKeyLength, BadSectorSize, UnsupportedFlags, NoValidKeys, WrongKey, NoKeyComponents, PassphraseNotSet, KeyNumberOutOfRange, KeyNotSet, LastKey, IterationsNeedOneKey, PassphraseNeeded, OutOfRange, ReadOnly, Integrity, DeviceFault, FileAbsent, CabinetFault, EntropyFault, FileTooLong, BackupTooShort, OldSizeMismatch, NoMemory, NotGrown, TooSmall, BadLength, KeyNumberNeeded, QueueFull, NoRequest, RequestNotDone, RequestDone, RequestsOpen, Suspended, NotSuspended, DifferentKey, BadPlace, NotAuthenticated, BadPlaceFile}

-- the number of a refusal, as replies print it
abbrev pub number_of : Refusal → ℕ
number_of (Usage word reason) = 1
number_of UnknownProvider = 2
number_of NotAttached = 3
number_of StillAttached = 4
number_of BadMagic = 5
number_of (BadVersion found) = 6
number_of BadHash = 7
number_of (BadSize kept found) = 8
number_of (UnsupportedCipher found) = 9
number_of (UnsupportedAuth found) = 10
number_of (BadKeyLength found) = 11
number_of (BadSectorSize found) = 12
number_of (UnsupportedFlags mask) = 13
number_of NoValidKeys = 14
number_of WrongKey = 15
number_of NoKeyComponents = 16
number_of PassphraseNotSet = 17
number_of (KeyNumberOutOfRange given) = 18
number_of (KeyNotSet slot) = 19
number_of (LastKey slot) = 20
number_of IterationsNeedOneKey = 21
number_of PassphraseNeeded = 22
number_of (OutOfRange sector count media) = 23
number_of ReadOnly = 24
number_of (Integrity offset) = 25
number_of DeviceFault = 26
number_of (FileAbsent word) = 27
number_of (CabinetFault word) = 28
number_of EntropyFault = 29
number_of (FileTooLong word limit) = 30
number_of (BackupTooShort length) = 31
number_of (OldSizeMismatch kept given) = 32
number_of NoMemory = 33
number_of (NotGrown size given) = 34
number_of (TooSmall size) = 35
number_of (BadLength given sectorsize) = 36
number_of KeyNumberNeeded = 37
number_of QueueFull = 38
number_of (NoRequest tag) = 39
number_of (RequestNotDone tag left) = 40
number_of (RequestDone tag) = 41
number_of (RequestsOpen count) = 42
number_of Suspended = 43
number_of NotSuspended = 44
number_of DifferentKey = 45
number_of (BadPlace place media) = 46
number_of NotAuthenticated = 47
number_of (BadPlaceFile word length) = 48

-- the first of these refusals whose condition holds
abbrev pub first_that_holds : {F : Type 0} → List (Bool × F) → Option F
first_that_holds [] = None
first_that_holds ((holds, refusal) ∷ others) = if holds then Some refusal else first_that_holds others
