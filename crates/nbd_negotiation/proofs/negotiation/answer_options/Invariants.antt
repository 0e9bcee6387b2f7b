use Rattle.std.proofs.Common.{◌≤◌, ◌-◌, ◌^◌, length}
use Rattle.nbd_negotiation.specs.Negotiation.{AnsweredSoFar}
use Rattle.nbd_negotiation.proofs.negotiation.answer_options.Given as goal

abbrev pub invariant-many : goal.invariant-many
invariant-many g l =
    let source = g.S.Source.state in
    let sink = g.K.Sink.state in
    record {
      room : 16384 ≤ length l.room;
      answered : AnsweredSoFar l.export l.client l.many (source l.initial.input) (source l.input) (sink l.initial.output) (sink l.output);
    }

abbrev pub decreases-many : goal.decreases-many
decreases-many g l = 2 ^ 64 - 1 - l.many
