use Rattle.aes_planes.specs.Wide.{side}
use Rattle.aes_planes.proofs.BlockLaws.{mix_rows_states}
use Rattle.aes_planes.proofs.InverseLaws.{sum_states, unmix_law}
use Rattle.aes_planes.proofs.columns.wide_inverse_mix_columns.Goals as goal

pub returns-clause-states : goal.returns-clause-states
returns-clause-states c = λ i li.
    mix_rows_states (side i c.wide_summed-2.result) (side i c.wide_mix_columns.result)
    (sum_states (side i c.args.q) (side i c.wide_opposites.result) (side i c.wide_summed.result) (side i c.wide_quadrupled-u.result) (side i c.wide_summed-2.result) (c.requires.states i li)
    (c.wide_opposites.ensures.sides i li) (c.wide_summed.ensures.sides i li) (c.wide_quadrupled-u.ensures.sides i li) (c.wide_summed-2.ensures.sides i li)) (c.wide_mix_columns.ensures.sides i li)

pub returns-clause-blocks : goal.returns-clause-blocks
returns-clause-blocks c = λ i li j lj.
    unmix_law (side i c.args.q) (side i c.wide_opposites.result) (side i c.wide_summed.result) (side i c.wide_quadrupled-u.result) (side i c.wide_summed-2.result) (side i c.wide_mix_columns.result) j lj (c.requires.states i li)
    (c.wide_opposites.ensures.sides i li) (c.wide_summed.ensures.sides i li) (c.wide_quadrupled-u.ensures.sides i li) (c.wide_summed-2.ensures.sides i li) (c.wide_mix_columns.ensures.sides i li)
