use Rattle.std.proofs.Common.{length-drop, drop, ◌∙◌, arith}
use Rattle.std.proofs.lemmas.List.{take_all}
use Rattle.range_keys.proofs.derivation.data_key.Goals as goal

pub returns : goal.returns
returns c =
    c.copy_from_slice.ensures.after ∙ take_all 64 (drop 64 c.args.master.now.bytes) (omega (arith, length-drop 64 c.args.master.now.bytes))
