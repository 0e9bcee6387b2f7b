use Rattle.std.proofs.Common.{arith}
use Rattle.aes_core.proofs.KeyWords.{expand_start, expand_step}
use Rattle.aes_core.proofs.expansion.expand.Goals as goal

pub loop-n-init : goal.loop-n-init
loop-n-init c = expand_start c.args.key.now c.copy_from_slice.new.self c.args.nk c.requires.long c.copy_from_slice.ensures.after

pub loop-n-preserved : goal.loop-n-preserved
loop-n-preserved c =
    expand_step c.args.key.now c.loop-n.w _ _ _ _ c.args.nk c.loop-n.n _ c.requires.long (omega arith) (omega arith) (omega arith) c.loop-n.invariant
    c.word.ensures c.key_term.ensures c.xor_word-next.ensures c.copy_from_slice-in-loop-n.ensures.after
