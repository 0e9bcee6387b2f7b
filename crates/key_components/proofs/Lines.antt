-- The first line of a file that was loaded.
use Rattle.std.proofs.Common.{◌≡◌, ℕ, Bool, true, false, cond, List, [], length, nat_lt, refl, arith, Option, Some, None, IfSome, Result, Ok, Err, unwrap_or}
use Rattle.std.proofs.lemmas.Bool.Decides.{nat_tests}
use Rattle.std.specs.Prelude.{nat_le}
use Rattle.block_traits.specs.Cabinet.{Files}
use Rattle.block_traits.specs.declared.cabinet.LoadFault.TheVariants.{TooLong}
use Rattle.eli_base.specs.declared.refusals.Refusal.{Refusal}
use Rattle.user_key.specs.Passphrase.{first_line}
use Rattle.key_components.specs.Answers.{IsAnswer, file_answer, refused, unless_refused}
use Rattle.key_components.specs.Files.{file_limit, passphrase_fault}
use Rattle.key_components.specs.Parts.{line_fault}

was_loaded : (word : ℕ) (fits : Bool) (bytes file : List ℕ) → Ok file ≡ refused word file_limit (cond fits (Ok bytes) (Err TooLong)) → (fits ≡ true) × (file ≡ bytes)
was_loaded word true bytes file is = (refl, cc)
was_loaded word false bytes file is = cc

not_too_long : (bytes : List ℕ) → nat_le (length bytes) file_limit ≡ true → nat_lt file_limit (length bytes) ≡ false
not_too_long bytes fits = grind (arith, nat_tests)

line_is : (word used : ℕ) (held : Option (List ℕ)) (file : List ℕ) (result : Result (List ℕ) Refusal)
    → Ok file ≡ file_answer word file_limit held
    → IsAnswer (unless_refused (line_fault word used file) (first_line file)) result
    → IsAnswer (unless_refused (passphrase_fault word used held) (first_line (unwrap_or held []))) result
line_is word used None file result loaded answer = cc
line_is word used (Some bytes) file result loaded answer =
    let parts = was_loaded word (nat_le (length bytes) file_limit) bytes file loaded in
    rw (not_too_long bytes parts.0, ← parts.1) answer

-- the result for the first line is the result for the file
pub PassphraseIs : (word used : ℕ) (told : Option Files) (name file : List ℕ) (result : Result (List ℕ) Refusal)
    → IfSome told (λ files. IsAnswer (file_answer word file_limit (files name)) (Ok file))
    → IsAnswer (unless_refused (line_fault word used file) (first_line file)) result
    → IfSome told (λ files. IsAnswer (unless_refused (passphrase_fault word used (files name)) (first_line (unwrap_or (files name) []))) result)
PassphraseIs word used None name file result loaded answer = tt
PassphraseIs word used (Some files) name file result loaded answer = line_is word used (files name) file result loaded answer
