-- What the calls of a reader and of a writer may return.
use Rattle.std.specs.Prelude.{◌≡◌, ◌-◌, ◌^◌, ℕ, zero, suc, List, take, Option, Result, Ok, Err, IfErr}
use Rattle.std.specs.IoError.{error_kind}
use Rattle.std.specs.Result.{result_ok}
use Rattle.std.specs.declared.io.Error.{Error}
use Rattle.std.specs.declared.io.ErrorKind.TheVariants.{Interrupted}

-- the bytes that a read gave, or why it gave none
abbrev pub given : {E : Type 0} → Result ℕ E → List ℕ → Result (List ℕ) E
given (Ok count) bytes = Ok (take count bytes)
given (Err error) bytes = Err error

module _ {S X : Type 0} (answers : S → Result X Error → S → Type 0) where
  -- a call that a signal interrupted
  pub record IsInterrupted (old new : S) : Type 0 where
    pub error : Error
    pub kind : error_kind error ≡ Interrupted
    pub answered : answers old (Err error) new

  -- so many calls, each of which a signal interrupted
  abbrev pub AreInterrupted : ℕ → S → S → Type 0
  AreInterrupted zero old new = new ≡ old
  AreInterrupted (suc times) old new = (last : S) × AreInterrupted times old last × IsInterrupted last new

  -- One call returned this, after those that a signal interrupted, and there was no other. The last may be interrupted
  -- too, after 2^64 - 1 that were.
  pub record AnswersOnce (old : S) (answer : Result X Error) (new : S) : Type 0 where
    pub times : ℕ
    pub asked : S
    pub interrupted : AreInterrupted times old asked
    pub answered : answers asked answer new
    pub gave_up : IfErr answer (λ error. error_kind error ≡ Interrupted → times ≡ 2 ^ 64 - 1)

  -- one call returned something, as `AnswersOnce` says, and this is what was made of it
  pub record PassesOn (old : S) (passed : Option X) (new : S) : Type 0 where
    pub answer : Result X Error
    pub once : AnswersOnce old answer new
    pub passed_on : result_ok answer ≡ passed
