-- A file that is stored is reported under its name.
use Rattle.file_edge.proofs.Cabinet.{stored_files}
use Rattle.file_edge.proofs.file_cabinet.FileCabinetCabinet.store.Goals as goal

pub returns-in-Ok-clause-ok : goal.returns-in-Ok-clause-ok
returns-in-Ok-clause-ok g c =
    stored_files c.args.self.now.images.items c.args.name.now c.args.bytes.now _ _ c.in-Ok.ensures.text c.in-Ok.ensures.told
