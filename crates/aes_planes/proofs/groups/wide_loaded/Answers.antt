use Rattle.std.proofs.Common.{◌≡◌, ◌+◌, ◌*◌}
use Rattle.aes_core.specs.Blocks.{block}
use Rattle.aes_planes.specs.Blocks.{vector_at}
use Rattle.aes_planes.specs.Wide.{side}
use Rattle.aes_planes.specs.declared.vectors.WidePlanes.{WidePlanes}
use Rattle.aes_planes.proofs.BlockLaws.{eight}
use Rattle.aes_planes.proofs.groups.wide_loaded.Goals as goal

pub returns-clause-sides : goal.returns-clause-sides
returns-clause-sides c = λ i li.
    let q : WidePlanes = record { b7 = c.wide_vector.result; b6 = c.wide_vector-2.result; b5 = c.wide_vector-3.result; b4 = c.wide_vector-4.result; b3 = c.wide_vector-5.result; b2 = c.wide_vector-6.result; b1 = c.wide_vector-7.result; b0 = c.wide_vector-8.result } in
    eight (λ j. vector_at (side i q) j ≡ block c.args.bytes.now (2 * j + i)) (c.wide_vector-8.ensures.sides i li) (c.wide_vector-7.ensures.sides i li) (c.wide_vector-6.ensures.sides i li) (c.wide_vector-5.ensures.sides i li) (c.wide_vector-4.ensures.sides i li) (c.wide_vector-3.ensures.sides i li) (c.wide_vector-2.ensures.sides i li) (c.wide_vector.ensures.sides i li)

pub returns-clause-wide : goal.returns-clause-wide
returns-clause-wide c = record { l7 = c.wide_vector.ensures.long; l6 = c.wide_vector-2.ensures.long; l5 = c.wide_vector-3.ensures.long; l4 = c.wide_vector-4.ensures.long; l3 = c.wide_vector-5.ensures.long; l2 = c.wide_vector-6.ensures.long; l1 = c.wide_vector-7.ensures.long; l0 = c.wide_vector-8.ensures.long }
