use Rattle.std.proofs.Common.{◌≡◌}
use Rattle.aes_core.specs.Blocks.{block}
use Rattle.aes_planes.specs.Blocks.{vector_at}
use Rattle.aes_planes.specs.declared.vectors.Planes.{Planes}
use Rattle.aes_planes.proofs.BlockLaws.{eight}
use Rattle.aes_planes.proofs.groups.loaded.Goals as goal

pub returns : goal.returns
returns c =
    let q : Planes = record { b7 = c.vector.result; b6 = c.vector-2.result; b5 = c.vector-3.result; b4 = c.vector-4.result; b3 = c.vector-5.result; b2 = c.vector-6.result; b1 = c.vector-7.result; b0 = c.vector-8.result } in
    eight (λ j. vector_at q j ≡ block c.args.bytes.now j) c.vector-8.ensures c.vector-7.ensures c.vector-6.ensures c.vector-5.ensures c.vector-4.ensures c.vector-3.ensures c.vector-2.ensures c.vector.ensures
