use Rattle.std.proofs.Common.{true}
use Rattle.file_edge.proofs.Logs.{more_then}
use Rattle.file_edge.specs.Asked.{Find, asking}
use Rattle.file_edge.specs.Opening.{image_asked}
use Rattle.file_edge.proofs.file_disk.FileDisk.open.Goals as goal

-- src/file_disk.rt:32:5
pub returns-in-Ok-clause-asked : goal.returns-in-Ok-clause-asked
returns-in-Ok-clause-asked g c =
    let asks = c.open_found.ensures.asked in
    record {
      opened = true;
      written = asks.written;
      read = asks.read;
      log = more_then (asking (Find c.args.name.now) true) (image_asked c.args.name.now c.args.changes asks.written asks.read) _ _ _ c.find.ensures.asked asks.log;
    }
