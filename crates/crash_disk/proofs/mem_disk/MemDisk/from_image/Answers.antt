use Rattle.crash_disk.proofs.ImageLemmas.{All-sectors_of, length-sectors_of}
use Rattle.crash_disk.proofs.mem_disk.MemDisk.from_image.Goals as goal

pub from_sectors-requires-clause-small : goal.from_sectors-requires-clause-small
from_sectors-requires-clause-small c = rw (c.in_ok-image_sectors.ensures, length-sectors_of c.args.image.now) c.requires

pub from_sectors-requires-clause-sectors : goal.from_sectors-requires-clause-sectors
from_sectors-requires-clause-sectors c = rw c.in_ok-image_sectors.ensures (All-sectors_of c.args.image.now)
