use Rattle.std.proofs.Common.{length}
use Rattle.std.specs.Io.KnownBytes.{Keeps}
use Rattle.file_edge.specs.Streams.{AreInterrupted}
use Rattle.file_edge.proofs.streams.read_on.Given as goal

-- each call so far was interrupted, and no byte was taken
abbrev pub invariant-loop-turn : goal.invariant-loop-turn
invariant-loop-turn g l =
    Keeps (g.R.Read.remaining l.fn.reader) (g.R.Read.remaining l.reader) × AreInterrupted (g.R.Reader.gives (length l.fn.into)) l.turn l.fn.reader l.reader
