use Rattle.std.proofs.Common.{arith}
use Rattle.std.proofs.lemmas.Grind.{common_steps}
use Rattle.aes_core.proofs.Turns.{key_term_first}
use Rattle.aes_core.proofs.expansion.key_term.Goals as goal

pub returns-then-i-nk-eq0 : goal.returns-then-i-nk-eq0
returns-then-i-nk-eq0 c =
    key_term_first c.args.nk c.args.i c.args.w.now _ _ _ _ _ c.if-i-nk-eq0.true c.word-last.ensures c.rotated.ensures c.sub_word.ensures
    c.round_constant.ensures c.xor_word.ensures

pub returns-then-i-eq4 : goal.returns-then-i-eq4
returns-then-i-eq4 c = grind (arith, common_steps) steps 400000

pub returns-else-nk-eq8 : goal.returns-else-nk-eq8
returns-else-nk-eq8 c = grind (arith, common_steps) steps 400000
