use Rattle.std.proofs.Common.{◌∷◌, []}
use Rattle.aes_planes.proofs.rows.wide_by_columns.Goals as goal

pub returns-clause-sides : goal.returns-clause-sides
returns-clause-sides c = λ i li. (λ t. c.wide_in_rows.ensures.sides i li t ∷ c.wide_in_rows-2.ensures.sides i li t ∷ c.wide_in_rows-3.ensures.sides i li t ∷ c.wide_in_rows-4.ensures.sides i li t ∷ c.wide_in_rows-5.ensures.sides i li t ∷ c.wide_in_rows-6.ensures.sides i li t ∷ c.wide_in_rows-7.ensures.sides i li t ∷ c.wide_in_rows-8.ensures.sides i li t ∷ [])

pub returns-clause-wide : goal.returns-clause-wide
returns-clause-wide c = record { l7 = c.wide_in_rows.ensures.long; l6 = c.wide_in_rows-2.ensures.long; l5 = c.wide_in_rows-3.ensures.long; l4 = c.wide_in_rows-4.ensures.long; l3 = c.wide_in_rows-5.ensures.long; l2 = c.wide_in_rows-6.ensures.long; l1 = c.wide_in_rows-7.ensures.long; l0 = c.wide_in_rows-8.ensures.long }
