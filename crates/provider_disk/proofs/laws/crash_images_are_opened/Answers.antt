-- Each sector of the image is opened by itself.
use Rattle.provider_disk.proofs.OpenedImages.{altered_above, image_above, torn_above}
use Rattle.provider_disk.proofs.laws.crash_images_are_opened.Goals as goal

pub returns-clause-whole : goal.returns-clause-whole
returns-clause-whole c = image_above

pub returns-clause-torn : goal.returns-clause-torn
returns-clause-torn c = torn_above

pub returns-clause-altered : goal.returns-clause-altered
returns-clause-altered c = altered_above
