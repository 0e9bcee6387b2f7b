use Rattle.std.proofs.Common.{◌∷◌, []}
use Rattle.aes_planes.proofs.columns.wide_opposites.Goals as goal

pub returns-clause-sides : goal.returns-clause-sides
returns-clause-sides c = λ i li. (λ t. c.wide_opposite.ensures.sides i li t ∷ c.wide_opposite-2.ensures.sides i li t ∷ c.wide_opposite-3.ensures.sides i li t ∷ c.wide_opposite-4.ensures.sides i li t ∷ c.wide_opposite-5.ensures.sides i li t ∷ c.wide_opposite-6.ensures.sides i li t ∷ c.wide_opposite-7.ensures.sides i li t ∷ c.wide_opposite-8.ensures.sides i li t ∷ [])

pub returns-clause-wide : goal.returns-clause-wide
returns-clause-wide c = record { l7 = c.wide_opposite.ensures.long; l6 = c.wide_opposite-2.ensures.long; l5 = c.wide_opposite-3.ensures.long; l4 = c.wide_opposite-4.ensures.long; l3 = c.wide_opposite-5.ensures.long; l2 = c.wide_opposite-6.ensures.long; l1 = c.wide_opposite-7.ensures.long; l0 = c.wide_opposite-8.ensures.long }
