-- The first events, opened, are the first of those that are opened.
use Rattle.provider_disk.proofs.OpenedImages.{moment_above}
use Rattle.provider_disk.proofs.laws.moments_are_opened.Goals as goal

pub returns : goal.returns
returns c = moment_above
