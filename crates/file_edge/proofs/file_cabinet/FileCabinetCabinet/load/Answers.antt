-- What is loaded is what is reported of the name.
use Rattle.file_edge.proofs.Cabinet.{named_gives}
use Rattle.file_edge.proofs.file_cabinet.FileCabinetCabinet.load.Goals as goal

pub returns-clause-gives : goal.returns-clause-gives
returns-clause-gives g c =
    let loaded = c.load_file-loaded in
    rw (← c.as_slice.ensures.value) (named_gives g.O.Opener g.O.File.ImageFile _ c.args.self.now.opener c.args.name.now c.args.limit loaded.result loaded.new.opener loaded.ensures.named)

pub returns-in-Err-Absent-clause-gives : goal.returns-in-Err-Absent-clause-gives
returns-in-Err-Absent-clause-gives g c =
    let loaded = c.load_file-loaded in
    rw (← c.as_slice.ensures.value) (named_gives g.O.Opener g.O.File.ImageFile _ c.args.self.now.opener c.args.name.now c.args.limit loaded.result loaded.new.opener loaded.ensures.named)

pub returns-2-clause-gives : goal.returns-2-clause-gives
returns-2-clause-gives g c =
    let loaded = c.load_file-loaded in
    rw (← c.as_slice.ensures.value) (named_gives g.O.Opener g.O.File.ImageFile _ c.args.self.now.opener c.args.name.now c.args.limit loaded.result loaded.new.opener loaded.ensures.named)
