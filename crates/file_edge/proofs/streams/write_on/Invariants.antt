use Rattle.std.specs.Io.KnownBytes.{Keeps}
use Rattle.file_edge.specs.Streams.{AreInterrupted}
use Rattle.file_edge.proofs.streams.write_on.Given as goal

-- each call so far was interrupted, and no byte was taken
abbrev pub invariant-loop-turn : goal.invariant-loop-turn
invariant-loop-turn g l =
    Keeps (g.W.Write.contents l.fn.writer) (g.W.Write.contents l.writer) × AreInterrupted (g.W.Writer.takes l.fn.from) l.turn l.fn.writer l.writer
