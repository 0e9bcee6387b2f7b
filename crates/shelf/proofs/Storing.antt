-- A store that failed.
use Rattle.std.proofs.Common.{ℕ, List, refl, Err, IsErrOf}
use Rattle.block_traits.specs.declared.cabinet.StoreFault.{StoreFault}
use Rattle.block_traits.specs.declared.cabinet.StoreFault.TheVariants as store
use Rattle.command_rows.specs.Rows.{StoreAnswers, store_refusal}
use Rattle.command_rows.specs.Vocabulary.{CabinetState, KeepsFiles, Rose, Span}

pub store_failed : (line : List ℕ) (span : Span) (bytes : List ℕ) (old new : CabinetState) (fault : StoreFault) → KeepsFiles old new → (IsErrOf {T = Unit {0}} (Err fault) store.Failed → Rose old.faults new.faults)
    → StoreAnswers line span bytes old (Err (store_refusal span.word fault)) new
store_failed line span bytes old new store.Failed kept failed = (refl, failed refl, kept)
store_failed line span bytes old new store.NoMemory kept failed = kept
