-- The counts of the cabinet and the entropy through a line: none falls, and a failure of theirs is reported only if its
-- count rose.
use Rattle.std.specs.Prelude.{◌≡◌, ◌⊎◌, ◌≤◌}
use Rattle.eli_base.specs.declared.refusals.Refusal.TheVariants as refusals
use Rattle.reply_text.specs.Answer as answers
use Rattle.command_rows.specs.Rows.{Answer, World}
use Rattle.command_rows.specs.Vocabulary.{CabinetState, EntropyState, Refusal, Rose, passphrase_limit}

-- If a line is refused with this, the count of such failures rose. That a passphrase is longer than its own limit is no
-- miss of the cabinet. Each refusal is named, so that a new one has to be decided on.
abbrev pub CountsRefusal : CabinetState → EntropyState → Refusal → CabinetState → EntropyState → Type 0
CountsRefusal cabinet entropy (refusals.Usage word reason) cabinet' entropy' = Unit {0}
CountsRefusal cabinet entropy refusals.UnknownProvider cabinet' entropy' = Unit {0}
CountsRefusal cabinet entropy refusals.NotAttached cabinet' entropy' = Unit {0}
CountsRefusal cabinet entropy refusals.StillAttached cabinet' entropy' = Unit {0}
CountsRefusal cabinet entropy refusals.BadMagic cabinet' entropy' = Unit {0}
CountsRefusal cabinet entropy (refusals.BadVersion found) cabinet' entropy' = Unit {0}
CountsRefusal cabinet entropy refusals.BadHash cabinet' entropy' = Unit {0}
CountsRefusal cabinet entropy (refusals.BadSize kept found) cabinet' entropy' = Unit {0}
CountsRefusal cabinet entropy (refusals.UnsupportedCipher found) cabinet' entropy' = Unit {0}
CountsRefusal cabinet entropy (refusals.UnsupportedAuth found) cabinet' entropy' = Unit {0}
CountsRefusal cabinet entropy (refusals.BadKeyLength found) cabinet' entropy' = Unit {0}
CountsRefusal cabinet entropy (refusals.BadSectorSize found) cabinet' entropy' = Unit {0}
CountsRefusal cabinet entropy (refusals.UnsupportedFlags mask) cabinet' entropy' = Unit {0}
CountsRefusal cabinet entropy refusals.NoValidKeys cabinet' entropy' = Unit {0}
CountsRefusal cabinet entropy refusals.WrongKey cabinet' entropy' = Unit {0}
CountsRefusal cabinet entropy refusals.NoKeyComponents cabinet' entropy' = Unit {0}
CountsRefusal cabinet entropy refusals.PassphraseNotSet cabinet' entropy' = Unit {0}
CountsRefusal cabinet entropy (refusals.KeyNumberOutOfRange given) cabinet' entropy' = Unit {0}
CountsRefusal cabinet entropy (refusals.KeyNotSet slot) cabinet' entropy' = Unit {0}
CountsRefusal cabinet entropy (refusals.LastKey slot) cabinet' entropy' = Unit {0}
CountsRefusal cabinet entropy refusals.IterationsNeedOneKey cabinet' entropy' = Unit {0}
CountsRefusal cabinet entropy refusals.PassphraseNeeded cabinet' entropy' = Unit {0}
CountsRefusal cabinet entropy (refusals.OutOfRange sector count media) cabinet' entropy' = Unit {0}
CountsRefusal cabinet entropy refusals.ReadOnly cabinet' entropy' = Unit {0}
CountsRefusal cabinet entropy (refusals.Integrity offset) cabinet' entropy' = Unit {0}
CountsRefusal cabinet entropy refusals.DeviceFault cabinet' entropy' = Unit {0}
CountsRefusal cabinet entropy (refusals.FileAbsent word) cabinet' entropy' = Rose cabinet.misses cabinet'.misses
CountsRefusal cabinet entropy (refusals.CabinetFault word) cabinet' entropy' = Rose cabinet.faults cabinet'.faults
CountsRefusal cabinet entropy refusals.EntropyFault cabinet' entropy' = Rose entropy.faults entropy'.faults
CountsRefusal cabinet entropy (refusals.FileTooLong word limit) cabinet' entropy' = (limit ≡ passphrase_limit) ⊎ Rose cabinet.misses cabinet'.misses
CountsRefusal cabinet entropy (refusals.BackupTooShort length) cabinet' entropy' = Unit {0}
CountsRefusal cabinet entropy (refusals.OldSizeMismatch kept given) cabinet' entropy' = Unit {0}
CountsRefusal cabinet entropy refusals.NoMemory cabinet' entropy' = Unit {0}
CountsRefusal cabinet entropy (refusals.NotGrown size given) cabinet' entropy' = Unit {0}
CountsRefusal cabinet entropy (refusals.TooSmall size) cabinet' entropy' = Unit {0}
CountsRefusal cabinet entropy (refusals.BadLength given sectorsize) cabinet' entropy' = Unit {0}
CountsRefusal cabinet entropy refusals.KeyNumberNeeded cabinet' entropy' = Unit {0}
CountsRefusal cabinet entropy refusals.QueueFull cabinet' entropy' = Unit {0}
CountsRefusal cabinet entropy (refusals.NoRequest tag) cabinet' entropy' = Unit {0}
CountsRefusal cabinet entropy (refusals.RequestNotDone tag left) cabinet' entropy' = Unit {0}
CountsRefusal cabinet entropy (refusals.RequestDone tag) cabinet' entropy' = Unit {0}
CountsRefusal cabinet entropy (refusals.RequestsOpen count) cabinet' entropy' = Unit {0}
CountsRefusal cabinet entropy refusals.Suspended cabinet' entropy' = Unit {0}
CountsRefusal cabinet entropy refusals.NotSuspended cabinet' entropy' = Unit {0}
CountsRefusal cabinet entropy refusals.DifferentKey cabinet' entropy' = Unit {0}
CountsRefusal cabinet entropy (refusals.BadPlace place media) cabinet' entropy' = Unit {0}
CountsRefusal cabinet entropy refusals.NotAuthenticated cabinet' entropy' = Unit {0}
CountsRefusal cabinet entropy (refusals.BadPlaceFile word length) cabinet' entropy' = Unit {0}

abbrev pub CountsAnswer : CabinetState → EntropyState → Answer → CabinetState → EntropyState → Type 0
CountsAnswer cabinet entropy (answers.Refused refusal) cabinet' entropy' = CountsRefusal cabinet entropy refusal cabinet' entropy'
CountsAnswer cabinet entropy answer cabinet' entropy' = Unit {0}

-- no count falls, and a failure that is reported is counted
pub record CountsFailures (old : World) (answer : Answer) (new : World) : Type 0 where
  pub faults : old.cabinet.faults ≤ new.cabinet.faults
  pub misses : old.cabinet.misses ≤ new.cabinet.misses
  pub entropy : old.entropy.faults ≤ new.entropy.faults
  pub counts : CountsAnswer old.cabinet old.entropy answer new.cabinet new.entropy
