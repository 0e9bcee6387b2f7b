use Rattle.std.proofs.Common.{◌*◌, ◌<◌, Fits, w8}
use Rattle.std.proofs.lemmas.Simd.{Each1-chunk, Each1-get_or, below_from_Fits}
use Rattle.aes_core.specs.Blocks.{block}
use Rattle.aes_planes.proofs.SubLaw.{small_get}
use Rattle.aes_planes.proofs.WideLaws.{long-block}
use Rattle.aes_planes.proofs.vectors.halves_are_states.Goals as goal

pub returns : goal.returns
returns c =
    λ i li.
    let v = c.args.v in
    record {
      long = long-block v c.requires i li;
      bytes = small_get (block v i) (λ k lt. Each1-get_or (λ x. x < 256) (block v i) k 0 lt (below_from_Fits w8 (block v i) (Each1-chunk (Fits w8) (16 * i) 16 v c.fits-v.1)));
    }
