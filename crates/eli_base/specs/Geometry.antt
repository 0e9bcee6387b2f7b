-- The geometry of a provider.
use Rattle.std.specs.Prelude.{ℕ, ◌≡◌}
use Rattle.eli_base.specs.declared.algorithms.Auth.{Auth}
use Rattle.eli_base.specs.declared.parameters.Params.{Params}
use Rattle.eli_base.specs.declared.geometry.Geometry.{Geometry}
use Rattle.eli_base.specs.declared.geometry.SectorLayout.{SectorLayout}
use Rattle.eli_base.specs.Units.{unit_bytes_of, units_per_sector, last_unit_bytes, media_sectors}

-- the layout of a logical sector of so many bytes
pub record IsLayoutOf (auth : Auth) (sectorsize : ℕ) (layout : SectorLayout) : Type 0 where
  pub size : layout.size ≡ sectorsize
  pub units : layout.units ≡ units_per_sector auth sectorsize
  pub unit_bytes : layout.unit_bytes ≡ unit_bytes_of auth

-- the geometry of a provider with these parameters
pub record IsGeometryOf (params : Params) (geometry : Geometry) : Type 0 where
  pub sectorsize : geometry.sectorsize ≡ params.sectorsize
  pub sectors : geometry.sectors ≡ media_sectors params.auth params.sectorsize params.provsize
  pub units : geometry.units ≡ units_per_sector params.auth params.sectorsize
  pub unit_bytes : geometry.unit_bytes ≡ unit_bytes_of params.auth
  pub last_bytes : geometry.last_bytes ≡ last_unit_bytes params.auth params.sectorsize
