-- A logical sector of one device sector reads as this one, opened.
use Rattle.provider_disk.proofs.OpenedImages.{reads_opened}
use Rattle.provider_disk.proofs.laws.device_sectors_open_by_themselves.Goals as goal

pub returns : goal.returns
returns c = reads_opened
