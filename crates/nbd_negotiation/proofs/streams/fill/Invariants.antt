use Rattle.std.proofs.Common.{◌≤◌, ◌-◌, length, take}
use Rattle.nbd_negotiation.specs.Streams.{SourceGave}
use Rattle.nbd_negotiation.proofs.streams.fill.Given as goal

abbrev pub invariant-taken : goal.invariant-taken
invariant-taken g l =
    let state = g.S.Source.state in
    record { inside : l.taken ≤ length l.into; gave : SourceGave (take l.taken l.into) (state l.initial.input) (state l.input) }

abbrev pub decreases-taken : goal.decreases-taken
decreases-taken g l = length l.into - l.taken
