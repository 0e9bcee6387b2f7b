use Rattle.std.proofs.Common.{ap, ◌∙◌}
use Rattle.aes_core.specs.Aes.{affine, sbox}
use Rattle.aes_core.proofs.steps.sbox.Goals as goal

pub returns : goal.returns
unfolding sbox
returns c = c.affine.ensures ∙ ap affine c.inverse.ensures
