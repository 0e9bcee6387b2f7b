-- Whether the images that words name are to be changed.
use Rattle.std.specs.Prelude.{ℕ, List, not, Bool, true, false, Option, None, Some}
use Rattle.command_words.specs.Images.{line_of, script_images}
use Rattle.command_words.specs.Reading.{command_in}
use Rattle.command_words.specs.Traits.{traits_of}
use Rattle.command_words.specs.declared.commands.Command.{Command}
use Rattle.command_words.specs.declared.words.Words.{Words}
use Rattle.command_words.specs.declared.words.Words.TheVariants.{Script, One, Usage}

-- whether a command only reads its image, by what its verb is (`traits_of`)
abbrev pub reads_alone : Option Command → Bool
reads_alone (Some command) = (traits_of command).only_reads
reads_alone None = false

-- whether images are to be changed: those of a script are, and that of a command unless the command only reads
abbrev pub changes_by : Option (List (List ℕ)) → Option Command → Bool
changes_by (Some names) said = true
changes_by None said = not (reads_alone said)

-- whether the images of these words are to be changed
abbrev pub changes_images : List (List ℕ) → Bool
changes_images words = changes_by (script_images words) (command_in (line_of words))

-- whether the images are to be changed, by what the words say
abbrev pub changes_said : Words → Bool
changes_said (Script names) = true
changes_said (One line command) = not (reads_alone (Some command))
changes_said Usage = true
