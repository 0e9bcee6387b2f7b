-- A suspended provider: a disk that no request reaches, and what is kept of the provider (geli(8), "suspend").
use Rattle.std.specs.Prelude.{◌≡◌, ℕ, Bool, List}
use Rattle.block_traits.specs.Disk.{DiskState}
use Rattle.provider.specs.Attached.{Attached, media}
use Rattle.sha2.specs.Sha256.{sha256}

-- a disk, the bytes of a logical sector, how many there were, the slot that gave the master key, whether the provider
-- was read-only, and the digest of the master key
pub record Suspension (D : Type 0) : Type 0 where
  pub disk : D
  pub sectorsize : ℕ
  pub sectors : ℕ
  pub slot : ℕ
  pub readonly : Bool
  pub mark : List ℕ

-- what is kept is that of this provider
pub record KeepsOfProvider {D : Type 0} (state : D → DiskState) (p : Attached D) (s : Suspension D) : Type 0 where
  pub sectorsize : s.sectorsize ≡ p.keying.sectorsize
  pub sectors : s.sectors ≡ media p.keying (state p.disk)
  pub slot : s.slot ≡ p.slot
  pub readonly : s.readonly ≡ p.readonly
  pub mark : s.mark ≡ sha256 p.keying.master
