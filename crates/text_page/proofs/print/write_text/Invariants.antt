use Rattle.std.proofs.Common.{◌≤◌, ◌-◌, length, take}
use Rattle.block_traits.specs.Streams.{TookAll}
use Rattle.text_page.proofs.print.write_text.Given as goal

abbrev pub invariant-loop-given : goal.invariant-loop-given
invariant-loop-given g l =
    let state = g.K.Sink.state in
    record { inside : l.given ≤ length l.text; took : TookAll (take l.given l.text) (state l.initial.output) (state l.output) }

abbrev pub decreases-loop-given : goal.decreases-loop-given
decreases-loop-given g l = length l.text - l.given
