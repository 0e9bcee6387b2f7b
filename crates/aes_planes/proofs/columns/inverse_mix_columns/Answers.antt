use Rattle.aes_planes.proofs.BlockLaws.{mix_rows_states}
use Rattle.aes_planes.proofs.InverseLaws.{sum_states, unmix_law}
use Rattle.aes_planes.proofs.columns.inverse_mix_columns.Goals as goal

pub returns-clause-states : goal.returns-clause-states
returns-clause-states c =
    mix_rows_states c.summed-2.result c.mix_columns.result
    (sum_states c.args.q c.opposites.result c.summed.result c.quadrupled-u.result c.summed-2.result c.requires c.opposites.ensures c.summed.ensures c.quadrupled-u.ensures c.summed-2.ensures) c.mix_columns.ensures

pub returns-clause-blocks : goal.returns-clause-blocks
returns-clause-blocks c =
    λ j lj.
    unmix_law c.args.q c.opposites.result c.summed.result c.quadrupled-u.result c.summed-2.result c.mix_columns.result j lj c.requires c.opposites.ensures c.summed.ensures c.quadrupled-u.ensures c.summed-2.ensures c.mix_columns.ensures
