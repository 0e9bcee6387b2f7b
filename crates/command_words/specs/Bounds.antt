-- The bounds of the numbers of a command.
pub use Rattle.command_words.specs.Spans.{AreSectors, IsBoundedJob, IsOldSize}
use Rattle.std.specs.Prelude.{List, ℕ}
use Rattle.command_words.specs.declared.commands.Command.{Command}
use Rattle.command_words.specs.Traits.{profile_of}

-- the numbers of a command lie within their bounds, and its digits are hexadecimal
abbrev pub IsBounded : List ℕ → Command → Type 0
IsBounded line command = (profile_of command).bounds line
