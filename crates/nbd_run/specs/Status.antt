-- The numbers with which the program exits, and the status of a session.
use Rattle.std.specs.Prelude.{ℕ, Bool, true, false}
use Rattle.nbd_negotiation.specs.declared.streams.End.{End}
use Rattle.nbd_negotiation.specs.declared.streams.End.TheVariants as ends
use Rattle.nbd_run.specs.declared.status.Status.{Status}
use Rattle.nbd_run.specs.declared.status.Status.TheVariants.{Done, SomeRefused, BadWords, ReadFault, WriteFault, NoMemory, Malformed}

abbrev pub run_number : Status → ℕ
run_number Done = 0
run_number SomeRefused = 1
run_number BadWords = 2
run_number ReadFault = 3
run_number WriteFault = 4
run_number NoMemory = 5
run_number Malformed = 6

-- the status of a session by why it ended, where nothing was refused and the last flush was made
abbrev pub end_status : End → Status
end_status ends.ReadFault = ReadFault
end_status ends.WriteFault = WriteFault
end_status ends.Malformed = Malformed
end_status ends.Closed = Done

-- The status of a session, by why it ended, whether a write, a request for zeros or a flush was answered with an error,
-- and whether the last flush was made. What was refused comes first.
abbrev pub session_status : End → Bool → Bool → Status
session_status end false true = end_status end
session_status end denied flushed = SomeRefused
