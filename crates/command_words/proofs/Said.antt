-- What words say names the images that they name.
use Rattle.std.proofs.Common.{◌≡◌, ◌∙◌, ap, sym, List, ℕ, Option, option_and_then}
use Rattle.command_words.specs.Images.{image_names, line_of, name_at, names_or}
use Rattle.command_words.specs.Places.{provider_of}
use Rattle.command_words.specs.Reading.{command_in}
use Rattle.command_words.specs.Said.{Says, image_names_of}
use Rattle.command_words.specs.declared.commands.Command.{Command}
use Rattle.command_words.specs.declared.words.Words.{Words}
use Rattle.command_words.specs.declared.words.Words.TheVariants.{Script, One, Usage}

pub names_said : (words : List (List ℕ)) (said : Words) → Says words said → image_names_of said ≡ image_names words
names_said words (Script names) is =
    sym (ap (λ (asks : Option (List (List ℕ))). names_or asks (name_at (line_of words) (option_and_then provider_of (command_in (line_of words))))) is)
names_said words (One line command) is =
    ap (λ (l : List ℕ). name_at l (provider_of command)) is.1
    ∙ ap (λ (o : Option Command). name_at (line_of words) (option_and_then provider_of o)) (sym is.2)
    ∙ ap (λ (asks : Option (List (List ℕ))). names_or asks (name_at (line_of words) (option_and_then provider_of (command_in (line_of words))))) (sym is.0)
names_said words Usage is =
    ap (λ (o : Option Command). name_at (line_of words) (option_and_then provider_of o)) (sym is.1)
    ∙ ap (λ (asks : Option (List (List ℕ))). names_or asks (name_at (line_of words) (option_and_then provider_of (command_in (line_of words))))) (sym is.0)
