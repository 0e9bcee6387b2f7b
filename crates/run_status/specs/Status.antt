-- The numbers with which the program exits.
use Rattle.std.specs.Prelude.{ℕ}
use Rattle.run_status.specs.declared.status.Status.{Status}
use Rattle.run_status.specs.declared.status.Status.TheVariants.{Done, SomeRefused, BadWords, ReadFault, WriteFault, NoMemory, LineTooLong, ScriptTooLong}

abbrev pub status_number : Status → ℕ
status_number Done = 0
status_number SomeRefused = 1
status_number BadWords = 2
status_number ReadFault = 3
status_number WriteFault = 4
status_number NoMemory = 5
status_number LineTooLong = 6
status_number ScriptTooLong = 7
