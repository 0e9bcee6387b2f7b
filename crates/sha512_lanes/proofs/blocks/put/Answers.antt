use Rattle.std.proofs.Common.{◌∙◌, ◌++◌, ap, List, ℕ, take, length, arith}
use Rattle.std.proofs.lemmas.Slice.{take-put_mid}
use Rattle.sha512_lanes.proofs.blocks.put.Goals as goal

pub returns : goal.returns
returns c =
    let after = c.copy_from_slice.ensures.after in
    take-put_mid c.args.at _ c.args.tail.now _ _ (omega (arith, ap length after)) (omega arith)
    ∙ ap (λ (y : List ℕ). take c.args.at c.args.tail.now ++ y) after
