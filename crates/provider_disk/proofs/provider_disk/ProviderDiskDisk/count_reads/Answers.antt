-- What the provider counts is counted of the disk upon it.
use Rattle.std.proofs.Common.{[], refl}
use Rattle.provider_disk.proofs.UponLemmas.{upon_one, logs_upon}
use Rattle.provider_disk.proofs.provider_disk.ProviderDiskDisk.count_reads.Goals as goal

pub returns-clause-logs : goal.returns-clause-logs
returns-clause-logs g c =
    logs_upon c.args.self.now.on.keying [] [] refl (upon_one refl refl refl refl refl) (upon_one c.count_reads.ensures.kept.keying refl refl refl refl) c.count_reads.ensures.logs
