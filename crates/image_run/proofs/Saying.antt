-- What words say is what they ask to be opened.
use Rattle.std.proofs.Common.{◌≡◌, ◌∙◌, ap, sym, List, ℕ, Option, None}
use Rattle.command_words.specs.Images.{line_of}
use Rattle.command_words.specs.Reading.{command_in}
use Rattle.command_words.specs.Said.{Says}
use Rattle.command_words.specs.declared.commands.Command.{Command}
use Rattle.command_words.specs.declared.words.Words.{Words}
use Rattle.command_words.specs.declared.words.Words.TheVariants.{Script, One, Usage}
use Rattle.command_words.specs.Changes.{changes_by, changes_images, changes_said}

-- by the words and by what they say, it is the same whether the images are to be changed
pub same_changes : (words : List (List ℕ)) (said : Words) → Says words said → changes_said said ≡ changes_images words
same_changes words (Script names) is = ap (λ (asks : Option (List (List ℕ))). changes_by asks (command_in (line_of words))) (sym is)
same_changes words (One line command) is =
    ap (λ (o : Option Command). changes_by None o) (sym is.2) ∙ ap (λ (asks : Option (List (List ℕ))). changes_by asks (command_in (line_of words))) (sym is.0)
same_changes words Usage is =
    ap (λ (o : Option Command). changes_by None o) (sym is.1) ∙ ap (λ (asks : Option (List (List ℕ))). changes_by asks (command_in (line_of words))) (sym is.0)
