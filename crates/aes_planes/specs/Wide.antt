-- Eight vectors of 32 bytes: two times eight vectors of 16.
use Rattle.std.specs.Prelude.{◌≡◌, ℕ, length}
use Rattle.aes_core.specs.Blocks.{block}
use Rattle.aes_planes.specs.declared.vectors.Planes.{Planes}
use Rattle.aes_planes.specs.declared.vectors.WidePlanes.{WidePlanes}

-- side 0 has the first 16 lanes of each vector, and side 1 the other 16
abbrev pub side : ℕ → WidePlanes → Planes
side i q = record { b7 = block q.b7 i; b6 = block q.b6 i; b5 = block q.b5 i; b4 = block q.b4 i; b3 = block q.b3 i; b2 = block q.b2 i; b1 = block q.b1 i; b0 = block q.b0 i }

-- each vector has 32 lanes
pub record AreWide (q : WidePlanes) : Type 0 where
  pub l7 : length q.b7 ≡ 32
  pub l6 : length q.b6 ≡ 32
  pub l5 : length q.b5 ≡ 32
  pub l4 : length q.b4 ≡ 32
  pub l3 : length q.b3 ≡ 32
  pub l2 : length q.b2 ≡ 32
  pub l1 : length q.b1 ≡ 32
  pub l0 : length q.b0 ≡ 32
