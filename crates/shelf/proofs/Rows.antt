-- How rows are gone through.
use Rattle.std.proofs.Common.{◌≡◌, ℕ, ◌+◌, ◌≤◌, List, ◌++◌, length, IfOk, IfSome, Result, Ok, Err, refl, IfErr}
use Rattle.command_rows.specs.Rows.{Holding, LoadsComponents, Reach, Then}
use Rattle.command_rows.specs.Vocabulary.{CabinetState, Components, DiskState, EntropyState, FitsWords, IsAnswer, KeepsFiles, KeyWords, LoadsEach, Refusal, StopsAtFile, components_of}

-- the first step refused
pub Then-refused : {A B : Type 0} (First : Reach → Result A Refusal → Reach → Type 0) (Next : A → Reach → Result B Refusal → Reach → Type 0)
    (old new : Reach) (refusal : Refusal) → First old (Err refusal) new → Then First Next old (Err refusal) new
Then-refused First Next old new refusal first = record { given = Err refusal; middle = new; first = first; next = (refl, refl) }

-- the first step gave a value
pub Then-goes_on : {A B : Type 0} (First : Reach → Result A Refusal → Reach → Type 0) (Next : A → Reach → Result B Refusal → Reach → Type 0)
    (old middle : Reach) (value : A) (answer : Result B Refusal) (new : Reach) → First old (Ok value) middle → Next value middle answer new → Then First Next old answer new
Then-goes_on First Next old middle value answer new first next = record { given = Ok value; middle = middle; first = first; next = next }

-- the files of a key were loaded
pub loaded : (line : List ℕ) (words : KeyWords) (disk : DiskState) (holding : Holding) (entropy : EntropyState) (old new : CabinetState) (answer : Result Components Refusal)
    → IfSome old.files (λ files. IsAnswer (components_of files line words) answer) → IfOk answer (FitsWords words)
    → IfErr answer (λ refusal. StopsAtFile line words old refusal new) → KeepsFiles old new
    → IfErr answer (λ refusal. 1 ≤ length words.files + length words.pass) → LoadsEach (words.files ++ words.pass) old answer new → new.stores ≡ old.stores
    → LoadsComponents line words (record { disk = disk; holding = holding; cabinet = old; entropy = entropy }) answer (record { disk = disk; holding = holding; cabinet = new; entropy = entropy })
loaded line words disk holding entropy old new answer told fits stops keeps named asked unstored = record { told = told; fits = fits; stops = stops; keeps = keeps; named = named; asked = asked; unstored = unstored; disk = refl; holding = refl; entropy = refl }
