use Rattle.std.proofs.Common.{refl}
use Rattle.shelf.specs.Shelved.{attachment_of}
use Rattle.shelf.proofs.Requesting.{request_serves}
use Rattle.shelf.proofs.drawer.Drawer.serve_request.Goals as goal

pub returns-clause-serves : goal.returns-clause-serves
returns-clause-serves g c = rw c.in-Attached.is (λ cabinet entropy.
    request_serves _ _ (attachment_of c.in-Attached.queue c.in-Attached.provider) _ _ _ c.requires.request refl (c.serve_sectors.ensures.serves cabinet entropy))
