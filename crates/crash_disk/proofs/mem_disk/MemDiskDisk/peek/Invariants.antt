use Rattle.crash_disk.specs.SectorLog.{content_of}
use Rattle.crash_disk.proofs.Looks.{Looked}
use Rattle.crash_disk.proofs.mem_disk.MemDiskDisk.peek.Given as goal

abbrev pub invariant-loop-j : goal.invariant-loop-j
invariant-loop-j l = Looked (content_of l.self.log) l.first l.j l.into
