use Rattle.std.proofs.Common.{ap, ◌∙◌}
use Rattle.aes_core.specs.Field.{inverse}
use Rattle.aes_core.specs.Aes.{inverse_sbox}
use Rattle.aes_core.proofs.steps.inverse_sbox.Goals as goal

pub returns : goal.returns
unfolding inverse_sbox
returns c = c.inverse.ensures ∙ ap inverse c.inverse_affine.ensures
