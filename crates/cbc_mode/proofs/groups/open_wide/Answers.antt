use Rattle.std.proofs.Common.{◌∙◌, arith}
use Rattle.cbc_mode.proofs.GroupLaws.{wide_opened}
use Rattle.cbc_mode.proofs.groups.open_wide.Goals as goal

pub returns-clause-opened : goal.returns-clause-opened
returns-clause-opened c =
    wide_opened c.args.k.now c.args.before.now c.wide_loaded-cipher.result c.blocks_before-masks.result c.wide_decrypted.result c.wide_summed.result c.wide_store.new.bytes c.args.group.now c.told-before
    c.blocks_before-masks.ensures.first c.blocks_before-masks.ensures.even c.blocks_before-masks.ensures.odd c.wide_loaded-cipher.ensures.sides c.wide_decrypted.ensures.sides c.wide_summed.ensures.sides c.wide_store.ensures

pub returns-clause-last : goal.returns-clause-last
returns-clause-last c = c.second_block-last.ensures ∙ c.wide_loaded-cipher.ensures.sides 1 (omega arith) 7 (omega arith)
