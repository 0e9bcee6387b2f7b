-- From a line to a command, or to what is wrong with the line.
use Rattle.std.specs.Prelude.{ℕ, ◌+◌, List, [], ◌∷◌, length, Bool, true, false, not, ◌&&◌, ◌||◌, ◌==◌, nat_le, is_some, if◌then◌else◌, Option, None, Some, Result, Ok, Err}
use Rattle.std.specs.Str.{is_utf8}
use Rattle.eli_base.specs.declared.Reason.{Reason}
use Rattle.eli_base.specs.declared.Reason.TheVariants.{UnknownVerb, OperandCount, MissingOption, Exclusive, NotText}
use Rattle.command_words.specs.declared.commands.Command.{Command}
use Rattle.command_words.specs.declared.commands.Usage.{Usage}
use Rattle.command_words.specs.declared.operands.Operands.{Operands}
use Rattle.command_words.specs.declared.spans.Sep.{Sep}
use Rattle.command_words.specs.declared.spans.Sep.TheVariants.{Blanks, Zeros}
use Rattle.command_words.specs.declared.spans.Span.{Span}
use Rattle.command_words.specs.declared.spans.KeyWords.{KeyWords}
use Rattle.command_words.specs.declared.settings.Settings.{Settings}
use Rattle.command_words.specs.declared.table.Operand.{Operand}
use Rattle.command_words.specs.declared.table.Verb.{Verb}
use Rattle.command_words.specs.declared.table.Rule.{Rule}
use Rattle.command_words.specs.declared.table.Rule.TheVariants.{Free, NeedsOldSize, PassWithIterations, SlotOrAll}
use Rattle.command_words.specs.Words.{Word, words}
use Rattle.command_words.specs.Table.{verb_named, form_of, row_of}
use Rattle.command_words.specs.Options.{Options, options, first_option_fault}
use Rattle.command_words.specs.Operands.{operands_fault, operands_of}
use Rattle.command_words.specs.Settings.{settings_given}

-- whether an option that must be there is missing
abbrev pub lacks_option : Rule → Settings → Bool
lacks_option Free settings = false
lacks_option NeedsOldSize settings = not (is_some settings.oldsize)
lacks_option PassWithIterations settings = false
lacks_option SlotOrAll settings = false

abbrev pub has_files : List Span → Bool
has_files [] = false
has_files (span ∷ spans) = true

-- whether the words of a key both name passphrase files and rule a passphrase out
abbrev pub excludes_itself : KeyWords → Bool
excludes_itself key = key.without && has_files key.pass

-- whether two options are there that exclude each other only under this verb's rule: `init` writes no iterations
-- without a passphrase, and `delkey` names all slots or one
abbrev pub excludes_own : Rule → Settings → Bool
excludes_own Free settings = false
excludes_own NeedsOldSize settings = false
excludes_own PassWithIterations settings = settings.fresh_key.without && is_some settings.iterations
excludes_own SlotOrAll settings = settings.all && is_some settings.slot

-- whether two options of a verb are there that exclude each other
abbrev pub excludes : Verb → Settings → Bool
excludes verb settings = excludes_itself settings.old_key || excludes_itself settings.fresh_key || excludes_own (row_of verb).rule settings

-- what is wrong with the options together, in this order
abbrev pub complaint : Verb → Settings → Option Reason
complaint verb settings = if lacks_option (row_of verb).rule settings then Some MissingOption else (if excludes verb settings then Some Exclusive else None)

-- the command of a verb, by what its options and its operands amount to
abbrev pub command_at : Verb → Settings → Operands → Command
command_at verb s o = (row_of verb).command s o

-- the fault, or what follows if there is none
abbrev pub unless_usage : Option Usage → Result Command Usage → Result Command Usage
unless_usage (Some usage) result = Err usage
unless_usage None result = result

-- what is wrong with the options together, reported at the end of the words, or what follows if nothing is
abbrev pub or_complaint : Option Reason → ℕ → Result Command Usage → Result Command Usage
or_complaint (Some reason) total result = Err (record { word = total; reason = reason })
or_complaint None total result = result

-- the command of a verb whose operands are of this form
abbrev pub by_form : Option (List Operand) → Verb → ℕ → Settings → List Word → Result Command Usage
by_form None verb total settings words = Err (record { word = total; reason = OperandCount })
by_form (Some form) verb total settings words =
    or_complaint (complaint verb settings) total (unless_usage (operands_fault form words) (Ok (command_at verb settings (operands_of form words))))

-- what is checked after the options: how many operands there are, the options together, and then the operands from left
-- to right
abbrev pub settled : Verb → ℕ → Settings → List Word → Result Command Usage
settled verb total settings words = by_form (form_of verb words) verb total settings words

abbrev pub by_options : Verb → ℕ → Options → Result Command Usage
by_options verb total read = unless_usage (first_option_fault [] read.items) (settled verb total (settings_given read.items) read.operands)

-- the command of the words after the verb; the line has so many
abbrev pub by_verb : Option Verb → ℕ → List Word → Result Command Usage
by_verb None total behind = Err (record { word = 0; reason = UnknownVerb })
by_verb (Some verb) total behind = by_options verb total (options verb total behind None)

-- whether a line that begins with this word is a comment
abbrev pub is_comment : Sep → List ℕ → Bool
is_comment Blanks [] = false
is_comment Blanks (b ∷ bs) = b == 35
is_comment Zeros bytes = false

abbrev pub some_command : Result Command Usage → Result (Option Command) Usage
some_command (Ok command) = Ok (Some command)
some_command (Err usage) = Err usage

abbrev pub by_words : Sep → Bool → List Word → Result (Option Command) Usage
by_words sep is_text [] = Ok None
by_words sep is_text (word ∷ behind) =
    if is_comment sep word.bytes then Ok None
    else (if is_text then some_command (by_verb (verb_named word.bytes) (1 + length behind) behind)
    else Err (record { word = 0; reason = NotText }))

-- what a line says: nothing, a command, or why it isn't one
abbrev pub line_reading : Sep → List ℕ → Result (Option Command) Usage
line_reading sep line = by_words sep (is_utf8 line) (words sep line)

-- the command that a line says, if it says one
abbrev pub said : Result (Option Command) Usage → Option Command
said (Ok command) = command
said (Err usage) = None

-- the most bytes of a line
abbrev pub line_limit : ℕ
line_limit = 300000

-- The command of a line whose words are separated by zero bytes. A line that is too long has none.
abbrev pub command_in : List ℕ → Option Command
command_in line = if nat_le (length line) line_limit then said (line_reading Zeros line) else None
