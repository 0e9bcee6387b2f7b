-- That no pass leaves metadata.
use Rattle.std.proofs.Common.{ℕ, List, [], refl, All}
use Rattle.std.proofs.lemmas.List.Elements.{All-map, All-from_get_or}
use Rattle.block_traits.specs.Disk.{DiskState, FailsIn, Logs, last_sector}
use Rattle.block_traits.specs.Moments.{AtEachMoment}
use Rattle.block_traits.specs.Overwriting.{zeros, passes_of}
use Rattle.block_traits.proofs.Overwritten.{flushed-overwrite, flushed-overwrite_part}
use Rattle.eli_metadata.specs.Format.{magic, metadata_in}
use Rattle.resize_kill.specs.Killing.{HoldsNoMetadata, IsNoMetadata, kill_events}
use Rattle.resize_kill.specs.Trash.{without_magic, trash_sectors}

-- a sector with zeros in place of the magic is no metadata
IsNoMetadata-without_magic : (rest : List ℕ) → IsNoMetadata (without_magic rest)
unfolding metadata_in magic zeros
IsNoMetadata-without_magic rest = refl

IsNoMetadata-trash : (random : List ℕ) → All IsNoMetadata (trash_sectors random)
unfolding trash_sectors
IsNoMetadata-trash random =
    All-map IsNoMetadata without_magic (passes_of 496 random) (All-from_get_or (λ piece. IsNoMetadata (without_magic piece)) (passes_of 496 random) [] (λ i small. IsNoMetadata-without_magic _))

pub gone-Logs : (random : List ℕ) (disk disk' : DiskState) → Logs (kill_events disk random) disk disk' → AtEachMoment (HoldsNoMetadata (last_sector disk)) disk.content disk'.content
gone-Logs random disk disk' logs = flushed-overwrite IsNoMetadata (last_sector disk) (trash_sectors random) disk disk' (IsNoMetadata-trash random) logs

pub gone-FailsIn : (random : List ℕ) (disk disk' : DiskState) → FailsIn (kill_events disk random) disk disk' → AtEachMoment (HoldsNoMetadata (last_sector disk)) disk.content disk'.content
gone-FailsIn random disk disk' fails = flushed-overwrite_part IsNoMetadata (last_sector disk) (trash_sectors random) disk disk' (IsNoMetadata-trash random) fails
