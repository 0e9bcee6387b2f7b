-- A form that words are read by is one of the verb's, with as many operands as there are words.
use Rattle.std.proofs.Common.{◌≡◌, ℕ, List, [], ◌∷◌, length, refl, subst, Bool, true, false, cond, ◌&&◌, Option, None, Some, ◌==◌}
use Rattle.std.specs.List.{AllByRecursion}
use Rattle.command_words.specs.declared.table.Verb.{Verb}
use Rattle.command_words.specs.declared.table.Operand.{Operand}
use Rattle.command_words.specs.Words.{Word}
use Rattle.command_words.specs.Table.{row_of, of_length, of_words, are_named, form_or, form_of}

and_left : (a b : Bool) → (a && b) ≡ true → a ≡ true
and_left true b h = refl
and_left false b h = let no : ⊥ = cc in absurd no

choice_keeps : (P : List Operand → Type 0) (b : Bool) (own form : List Operand) (rest : Option (List Operand))
    → (b ≡ true → P own) → (rest ≡ Some form → P form) → cond b (Some own) rest ≡ Some form → P form
choice_keeps P true own form rest h g found = let same : own ≡ form = cc in subst (λ (f : List Operand). P f) same (h refl)
choice_keeps P false own form rest h g found = g found

-- what holds of a form if it has so many operands
abbrev pub WhereLong : (List Operand → Type 0) → ℕ → List Operand → Type 0
WhereLong P count form = (length form == count) ≡ true → P form

length_keeps : (P : List Operand → Type 0) (count : ℕ) (forms : List (List Operand)) (form : List Operand)
    → AllByRecursion (WhereLong P count) forms → of_length count forms ≡ Some form → P form
length_keeps P count [] form h found = let no : ⊥ = cc in absurd no
length_keeps P count (own ∷ forms) form h found =
    choice_keeps P (length own == count) own form (of_length count forms) h.0 (length_keeps P count forms form h.1) found

words_keep : (P : List Operand → Type 0) (words : List Word) (forms : List (List Operand)) (form : List Operand)
    → AllByRecursion (WhereLong P (length words)) forms → of_words words forms ≡ Some form → P form
words_keep P words [] form h found = let no : ⊥ = cc in absurd no
words_keep P words (own ∷ forms) form h found =
    choice_keeps P (length own == length words && are_named own words) own form (of_words words forms)
    (λ both. h.0 (and_left (length own == length words) (are_named own words) both)) (words_keep P words forms form h.1) found

either_keeps : (P : List Operand → Type 0) (first second : Option (List Operand)) (form : List Operand)
    → (first ≡ Some form → P form) → (second ≡ Some form → P form) → form_or first second ≡ Some form → P form
either_keeps P (Some own) second form h g found = h found
either_keeps P None second form h g found = g found

-- What holds of each form of a verb holds of the form that is found.
pub found_keeps : (P : List Operand → Type 0) (verb : Verb) (words : List Word) (form : List Operand)
    → AllByRecursion (WhereLong P (length words)) (row_of verb).forms → form_of verb words ≡ Some form → P form
found_keeps P verb words form h found =
    either_keeps P (of_words words (row_of verb).forms) (of_length (length words) (row_of verb).forms) form
    (words_keep P words (row_of verb).forms form h) (length_keeps P (length words) (row_of verb).forms form h) found

pub where_long : (P : List Operand → Type 0) (count : ℕ) (forms : List (List Operand)) → AllByRecursion P forms → AllByRecursion (WhereLong P count) forms
where_long P count [] h = tt
where_long P count (form ∷ forms) h = ((λ _. h.0), where_long P count forms h.1)
