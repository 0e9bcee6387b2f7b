-- What a key ring is seen as, and what its fields keep.
use Rattle.std.specs.Prelude.{◌≡◌, ℕ, ◌%◌, ◌≤◌, List, IsTrue, replicate}
use Rattle.eli_base.specs.Algorithms.{allows_length}
use Rattle.eli_base.specs.Geometry.{IsLayoutOf}
use Rattle.eli_base.specs.Keying.{Keying}
use Rattle.eli_base.specs.SectorSize.{is_sector_size}
use Rattle.eli_base.specs.declared.geometry.SectorLayout.{SectorLayout}
use Rattle.eli_base.specs.declared.parameters.MasterKey.{MasterKey}
use Rattle.eli_base.specs.declared.parameters.Params.{Params}
use Rattle.lru.specs.LruCache.{LruCache}
use Rattle.range_keys.specs.Keys.{range_base, iv_key, auth_key}
use Rattle.range_keys.specs.Kept.{AreKept}
use Rattle.range_keys.specs.declared.expanded.RangeKey.{RangeKey}
use Rattle.sha2.specs.Hashers.{Holds256}
use Rattle.sha2.specs.declared.Sha256.{Sha256}
use Rattle.sha_lanes.specs.Prefixes.{BeginsWith}
use Rattle.sha_lanes.specs.declared.prefix.Prefix.{Prefix}

-- a ring, which gives the keys of one keying, and the numbers of the range keys that it keeps, the most recently used
-- first
pub record Ring : Type 0 where
  pub keying : Keying
  pub numbers : List ℕ

-- the keying with a master key of zeros in place of its own
abbrev pub forgotten : Keying → Keying
forgotten k = record k { master = replicate 128 0 }

-- the keying of parameters that a provider may have
pub record IsKeying (k : Keying) : Type 0 where
  pub allowed : IsTrue (allows_length k.cipher k.keylen)
  pub sized : IsTrue (is_sector_size k.sectorsize)
  pub at_least : 512 ≤ k.sectorsize
  pub at_most : k.sectorsize ≤ 65536
  pub whole : k.sectorsize % 512 ≡ 0

-- The fields of a ring fit its parameters and its master key. The layout is that of a logical sector, and the base is
-- the key of which range keys are made. Each kept key is that of its number. What is hashed for an initialization
-- vector or a tag key begins with the same bytes at every offset: the hashers hold these, and the prefix begins with
-- those of tag keys.
pub record IsRing (params : Params) (layout : SectorLayout) (master : MasterKey) (base : List ℕ) (kept : LruCache ℕ RangeKey) (of_vectors of_tags : Sha256) (of_four_tags : Prefix) : Type 0 where
  pub cut : IsLayoutOf params.auth params.sectorsize layout
  pub ranges : base ≡ range_base params.version params.auth master.bytes
  pub keys : AreKept params.cipher params.keylen base kept
  pub vectors : Holds256 of_vectors (iv_key master.bytes)
  pub tags : Holds256 of_tags (auth_key master.bytes)
  pub four_tags : BeginsWith of_four_tags (auth_key master.bytes)
