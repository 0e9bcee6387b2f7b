use Rattle.crash_disk.specs.SparseDisk.{sparse_content}
use Rattle.crash_disk.proofs.Looks.{Looked}
use Rattle.crash_disk.proofs.sparse_disk.SparseDiskDisk.peek.Given as goal

abbrev pub invariant-loop-j : goal.invariant-loop-j
invariant-loop-j l = Looked (sparse_content l.self.log) l.first l.j l.into
