use Rattle.std.proofs.Common.{◌∷◌, []}
use Rattle.aes_planes.proofs.rows.wide_first_shift.Goals as goal

pub returns-clause-sides : goal.returns-clause-sides
returns-clause-sides c = λ i li. (λ t. c.wide_moved_in.ensures.sides i li t ∷ c.wide_moved_in-2.ensures.sides i li t ∷ c.wide_moved_in-3.ensures.sides i li t ∷ c.wide_moved_in-4.ensures.sides i li t ∷ c.wide_moved_in-5.ensures.sides i li t ∷ c.wide_moved_in-6.ensures.sides i li t ∷ c.wide_moved_in-7.ensures.sides i li t ∷ c.wide_moved_in-8.ensures.sides i li t ∷ [])

pub returns-clause-wide : goal.returns-clause-wide
returns-clause-wide c = record { l7 = c.wide_moved_in.ensures.long; l6 = c.wide_moved_in-2.ensures.long; l5 = c.wide_moved_in-3.ensures.long; l4 = c.wide_moved_in-4.ensures.long; l3 = c.wide_moved_in-5.ensures.long; l2 = c.wide_moved_in-6.ensures.long; l1 = c.wide_moved_in-7.ensures.long; l0 = c.wide_moved_in-8.ensures.long }
