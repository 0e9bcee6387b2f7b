use Rattle.std.proofs.Common.{◌∙◌, sym}
use Rattle.aes_core.proofs.Turns.{after_inverse_rounds_start, after_inverse_rounds_step}
use Rattle.aes_core.proofs.steps.decipher.Goals as goal

pub loop-n-init : goal.loop-n-init
loop-n-init c = c.add_round_key-s.ensures ∙ sym (after_inverse_rounds_start c.args.keys.now c.args.block c.args.count)

pub loop-n-preserved : goal.loop-n-preserved
loop-n-preserved c =
    after_inverse_rounds_step c.args.keys.now c.args.block _ _ _ _ _ c.args.count c.loop-n.n c.loop-n.invariant c.inverse_shift_rows.ensures c.inverse_sub_bytes.ensures
    c.add_round_key.ensures c.inverse_mix_columns-s.ensures
