-- The image below, opened, is that of the disk upon the provider.
use Rattle.provider_disk.specs.ProviderDisk.{provider_disk_of}
use Rattle.provider_disk.proofs.ReadsAbove.{has_opened, survivor_reads}
use Rattle.provider_disk.proofs.laws.survivors_below_are_read_above.Goals as goal

pub returns-clause-has : goal.returns-clause-has
returns-clause-has g c = λ image p has. has_opened p.on.keying image (g.D.Disk.state p.on.disk).content has

pub returns-clause-reads : goal.returns-clause-reads
returns-clause-reads g c = survivor_reads (provider_disk_of g.D.Disk.state)
