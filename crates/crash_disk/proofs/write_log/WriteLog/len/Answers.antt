use Rattle.std.proofs.Common.{sym}
use Rattle.crash_disk.proofs.Writes.{length-written}
use Rattle.crash_disk.proofs.write_log.WriteLog.len.Goals as goal

pub returns : goal.returns
returns c = sym (length-written c.args.self.now.size c.args.self.now.first.items)
