use Rattle.std.proofs.Common.{arith}
use Rattle.aes_core.specs.Aes.{round_key}
use Rattle.aes_core.proofs.KeyBytes.{IsState-block}
use Rattle.aes_core.proofs.ColumnLaws.{round_is}
use Rattle.aes_core.proofs.columns.after_round.Goals as goal

pub returns : goal.returns
returns c s state e =
    round_is c.args.w s (round_key c.args.keys.now c.args.r) c.key_columns-key.result _ _ _ _ state (IsState-block c.args.keys.now c.args.r c.fits-keys (omega arith)) e c.key_columns-key.ensures
    c.mixed.ensures c.mixed-2.ensures c.mixed-3.ensures c.mixed-4.ensures
