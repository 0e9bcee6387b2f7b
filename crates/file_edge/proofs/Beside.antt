-- Names beside that something has already.
use Rattle.std.proofs.Common.{◌≡◌, ◌∙◌, ◌+◌, refl, ap, sym, add-one}
use Rattle.std.specs.Prelude.{ℕ, List, ◌++◌, false, Option}
use Rattle.std.specs.declared.io.ErrorKind.{ErrorKind}
use Rattle.std.specs.declared.io.ErrorKind.TheVariants.{AlreadyExists}
use Rattle.file_edge.specs.Asked.{Asked, Make, Meet, asking, more, unmade}
use Rattle.file_edge.specs.Storing.{beside_name, met}
use Rattle.file_edge.proofs.Logs.{more_then}

unmade_met : (mode : ℕ) (name : List ℕ) (kind : ErrorKind) → kind ≡ AlreadyExists → unmade mode name kind ≡ asking (Meet mode name) false
unmade_met mode name kind is = ap (unmade mode name) is

unmade_other : (mode : ℕ) (name : List ℕ) (kind : ErrorKind) → (kind ≡ AlreadyExists → ⊥) → unmade mode name kind ≡ asking (Make mode name) false
unmade_other mode name AlreadyExists other = absurd (other refl)
unmade_other mode name kind other = refl

-- one more name was met
pub met_one_more : (name : List ℕ) (number : ℕ) (beside : List ℕ) (kind : ErrorKind) (first second third : Option (List Asked))
    → beside ≡ beside_name name number → kind ≡ AlreadyExists
    → second ≡ more (met name number) first → third ≡ more (unmade 0o600 beside kind) second → third ≡ more (met name (number + 1)) first
met_one_more name number beside kind first second third named is before then =
    let one : third ≡ more (asking (Meet 0o600 (beside_name name number)) false) second =
    then ∙ ap (λ (items : List Asked). more items second) (unmade_met 0o600 beside kind is ∙ ap (λ (other : List ℕ). asking (Meet 0o600 other) false) named) in
    more_then (met name number) (asking (Meet 0o600 (beside_name name number)) false) first second third before one
    ∙ ap (λ (count : ℕ). more (met name count) first) (sym (add-one number))

-- no file was made, for another reason than that something has the name
pub met_then_none : (name : List ℕ) (number : ℕ) (beside : List ℕ) (kind : ErrorKind) (first second third : Option (List Asked))
    → beside ≡ beside_name name number → (kind ≡ AlreadyExists → ⊥)
    → second ≡ more (met name number) first → third ≡ more (unmade 0o600 beside kind) second
    → third ≡ more (met name number ++ asking (Make 0o600 (beside_name name number)) false) first
met_then_none name number beside kind first second third named other before then =
    let one : third ≡ more (asking (Make 0o600 (beside_name name number)) false) second =
    then ∙ ap (λ (items : List Asked). more items second) (unmade_other 0o600 beside kind other ∙ ap (λ (name : List ℕ). asking (Make 0o600 name) false) named) in
    more_then (met name number) (asking (Make 0o600 (beside_name name number)) false) first second third before one
