use Rattle.aes_planes.proofs.vectors.sides_are_states.Goals as goal

pub returns : goal.returns
returns c = λ i li. record { s7 = c.halves_are_states.ensures i li; s6 = c.halves_are_states-2.ensures i li; s5 = c.halves_are_states-3.ensures i li; s4 = c.halves_are_states-4.ensures i li; s3 = c.halves_are_states-5.ensures i li; s2 = c.halves_are_states-6.ensures i li; s1 = c.halves_are_states-7.ensures i li; s0 = c.halves_are_states-8.ensures i li }
