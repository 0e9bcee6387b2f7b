-- Calls that a signal interrupted, and one more.
use Rattle.std.proofs.Common.{◌≡◌, ◌+◌, ℕ, Result, Err, add-one}
use Rattle.std.specs.IoError.{error_kind}
use Rattle.std.specs.declared.io.Error.{Error}
use Rattle.std.specs.declared.io.ErrorKind.TheVariants.{Interrupted}
use Rattle.file_edge.specs.Streams.{AreInterrupted}

pub one_more : {S X : Type 0} (answers : S → Result X Error → S → Type 0) (times : ℕ) (old last new : S) (error : Error)
    → AreInterrupted answers times old last → answers last (Err error) new → error_kind error ≡ Interrupted → AreInterrupted answers (times + 1) old new
one_more answers times old last new error before answered kind =
    rw (add-one times) (last, before, record { error = error; kind = kind; answered = answered })
