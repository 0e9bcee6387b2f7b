use Rattle.std.proofs.Common.{bit_xor, refl, ap, ◌∙◌}
use Rattle.aes_planes.specs.Planes.{opposite_row}
use Rattle.aes_planes.proofs.WideLaws.{long-zip2, xored}
use Rattle.aes_planes.proofs.columns.wide_sums.Goals as goal

pub wide_opposite-requires : goal.wide_opposite-requires
wide_opposite-requires c = long-zip2 bit_xor c.args.v c.wide_next-next.result c.requires c.wide_next-next.ensures.long

pub returns-clause-with_next : goal.returns-clause-with_next
returns-clause-with_next c = λ i li. xored i c.args.v c.wide_next-next.result _ _ refl (c.wide_next-next.ensures.sides i li)

pub returns-clause-others : goal.returns-clause-others
returns-clause-others c = λ i li.
    xored i c.wide_next-next.result c.wide_opposite.result _ _ (c.wide_next-next.ensures.sides i li)
    (c.wide_opposite.ensures.sides i li ∙ ap opposite_row (xored i c.args.v c.wide_next-next.result _ _ refl (c.wide_next-next.ensures.sides i li)))

pub returns-clause-long : goal.returns-clause-long
returns-clause-long c = (long-zip2 bit_xor c.args.v c.wide_next-next.result c.requires c.wide_next-next.ensures.long, long-zip2 bit_xor c.wide_next-next.result c.wide_opposite.result c.wide_next-next.ensures.long c.wide_opposite.ensures.long)
