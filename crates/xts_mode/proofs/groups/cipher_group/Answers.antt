use Rattle.std.proofs.Common.{arith}
use Rattle.std.proofs.lemmas.Grind.{common_steps}
use Rattle.xts_mode.specs.Halves.{of_halves}
use Rattle.xts_mode.specs.Ways.{aes_by}
use Rattle.xts_mode.proofs.GroupLaws.{group_masked}
use Rattle.xts_mode.proofs.groups.cipher_group.Goals as goal

pub returns-clause-done : goal.returns-clause-done
returns-clause-done c =
    group_masked (aes_by c.args.way c.args.k1.now) c.loaded.result c.tweaks_from-tweaks.result.masks c.summed-before.result c.ciphered.result c.summed.result c.store.new.bytes c.args.group.now (of_halves c.args.t)
    c.tweaks_from-tweaks.ensures.masks c.loaded.ensures c.summed-before.ensures c.ciphered.ensures c.summed.ensures c.store.ensures

pub returns-clause-next : goal.returns-clause-next
returns-clause-next c = grind (arith, common_steps) steps 400000

pub returns-clause-long : goal.returns-clause-long
returns-clause-long c = grind (arith, common_steps) steps 400000
