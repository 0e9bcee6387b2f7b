use Rattle.std.proofs.Common.{List, ℕ, ◌++◌, replicate, ap, ◌∙◌}
use Rattle.std.specs.Int.{w128, from_le_bytes}
use Rattle.aes_core.specs.Aes.{encrypt}
use Rattle.xts_mode.specs.Xts.{first_tweak}
use Rattle.xts_mode.proofs.doubling.first_tweak.Goals as goal

pub returns : goal.returns
unfolding first_tweak
returns c =
    c.from_le_bytes.ensures
    ∙ ap (from_le_bytes w128) (c.encrypt_block.ensures.enciphered ∙ ap (λ (v : List ℕ). encrypt c.args.k2.now (v ++ replicate 8 0)) (c.copy_from_slice.ensures.after ∙ c.to_le_bytes.ensures))
