-- What a line asks for, of which more is said over a run than of its command alone.
use Rattle.std.specs.Prelude.{Option, Some, None, Result, Ok, Err}
use Rattle.command_rows.specs.Rows.{OfOther, RunKind}
use Rattle.command_rows.specs.Vocabulary.{Command}
use Rattle.geli_core.specs.Vocabulary.{Usage, verb_of}

-- the kind of a command, by its verb
abbrev pub line_kind : Command → RunKind
line_kind command = (verb_of command).kind

-- the kind of what a line says
abbrev pub kind_read : Result (Option Command) Usage → RunKind
kind_read (Ok (Some command)) = line_kind command
kind_read (Ok None) = OfOther
kind_read (Err usage) = OfOther
