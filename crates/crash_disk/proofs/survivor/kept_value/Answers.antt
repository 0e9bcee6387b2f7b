use Rattle.std.proofs.Common.{arith, [], ◌∷◌}
use Rattle.block_traits.specs.declared.disk.Event.TheVariants.{Write}
use Rattle.crash_disk.proofs.Keeping.{kept_after-more}
use Rattle.crash_disk.proofs.survivor.kept_value.Goals as goal

pub loop-event-preserved : goal.loop-event-preserved
loop-event-preserved c = record {
  keeps = rw (kept_after-more c.args.events.now c.loop-event.event-index c.args.n (c.args.base.now ∷ []) (Write 0 []) c.loop-event-test.true) (c.add.ensures.keeps _ c.loop-event.invariant.keeps);
  few = omega arith;
}
