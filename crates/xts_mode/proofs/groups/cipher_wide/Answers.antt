use Rattle.xts_mode.specs.Halves.{of_halves}
use Rattle.xts_mode.specs.Ways.{aes_by}
use Rattle.xts_mode.proofs.GroupLaws.{wide_masked}
use Rattle.xts_mode.proofs.groups.cipher_wide.Goals as goal

pub returns-clause-done : goal.returns-clause-done
returns-clause-done c =
    wide_masked (aes_by c.args.way c.args.k1.now) c.wide_loaded.result c.wide_tweaks_from-tweaks.result.masks c.wide_summed-before.result c.wide_ciphered.result c.wide_summed.result c.wide_store.new.bytes c.args.group.now (of_halves c.args.t)
    c.wide_tweaks_from-tweaks.ensures.masks c.wide_loaded.ensures.sides c.wide_summed-before.ensures.sides c.wide_ciphered.ensures.sides c.wide_summed.ensures.sides c.wide_store.ensures
