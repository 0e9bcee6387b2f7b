use Rattle.std.proofs.Common.{bit_xor, sym, ap, ◌∙◌, List, ℕ}
use Rattle.std.proofs.lemmas.Simd.{length-zip2}
use Rattle.std.specs.Simd.Lanes.{zip2}
use Rattle.aes_planes.specs.Planes.{opposite_row}
use Rattle.aes_planes.proofs.columns.sums.Goals as goal

pub opposite-requires : goal.opposite-requires
opposite-requires c = length-zip2 bit_xor c.args.v c.next-after.result (c.requires ∙ sym c.next-after.ensures.long) ∙ c.requires

pub returns-clause-with_next : goal.returns-clause-with_next
returns-clause-with_next c = ap (zip2 bit_xor c.args.v) c.next-after.ensures.value

pub returns-clause-others : goal.returns-clause-others
returns-clause-others c =
    let n = c.next-after.ensures.value in
    let o = c.opposite.ensures ∙ ap (λ (y : List ℕ). opposite_row (zip2 bit_xor c.args.v y)) n in
    λ k. zip2 bit_xor (n k) (o k)
