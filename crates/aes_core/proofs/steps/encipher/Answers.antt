use Rattle.std.proofs.Common.{◌∙◌, sym}
use Rattle.aes_core.proofs.Turns.{after_rounds_start, after_rounds_step}
use Rattle.aes_core.proofs.steps.encipher.Goals as goal

pub loop-n-init : goal.loop-n-init
loop-n-init c = c.add_round_key-s.ensures ∙ sym (after_rounds_start c.args.keys.now c.args.block)

pub loop-n-preserved : goal.loop-n-preserved
loop-n-preserved c =
    after_rounds_step c.args.keys.now c.args.block _ _ _ _ _ c.loop-n.n c.loop-n.invariant c.sub_bytes.ensures c.shift_rows.ensures c.mix_columns.ensures
    c.add_round_key-s-in-loop-n.ensures
