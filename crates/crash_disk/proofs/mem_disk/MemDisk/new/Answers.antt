use Rattle.std.proofs.lemmas.List.Elements.{All-replicate}
use Rattle.block_traits.specs.Content.{IsSector}
use Rattle.crash_disk.specs.Image.{zero_sector}
use Rattle.crash_disk.proofs.ImageLemmas.{IsSector-zero_sector}
use Rattle.crash_disk.proofs.mem_disk.MemDisk.new.Goals as goal

pub from_sectors-requires-clause-sectors : goal.from_sectors-requires-clause-sectors
from_sectors-requires-clause-sectors c = rw c.in_ok-zero_sectors.ensures (All-replicate IsSector c.args.sectors zero_sector IsSector-zero_sector)
