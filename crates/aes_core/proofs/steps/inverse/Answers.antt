use Rattle.std.proofs.Common.{refl, sym, ap, ◌∙◌, add-one}
use Rattle.aes_core.specs.Field.{times, power}
use Rattle.aes_core.proofs.steps.inverse.Goals as goal

pub loop-n-init : goal.loop-n-init
unfolding power
loop-n-init c = refl

pub loop-n-preserved : goal.loop-n-preserved
unfolding power
loop-n-preserved c = c.times-power.ensures ∙ ap (times c.args.a) c.loop-n.invariant ∙ sym (ap (power c.args.a) (add-one c.loop-n.n))
