use Rattle.std.proofs.Common.{refl}
use Rattle.block_traits.proofs.overwriting.passes.Goals as goal

pub returns : goal.returns
returns g c =
    rw (c.sector.ensures, c.sector-2.ensures, c.sector-3.ensures, c.sector-4.ensures, c.sector-5.ensures, c.last_pass.ensures, c.piece_at.ensures, c.piece_at-2.ensures, c.piece_at-3.ensures, c.piece_at-4.ensures, c.piece_at-5.ensures, c.size-size.ensures.size) refl
