use Rattle.std.proofs.Common.{ap, ◌∙◌, ℕ}
use Rattle.crash_disk.specs.Writes.{written}
use Rattle.crash_disk.proofs.Writes.{length-written}
use Rattle.crash_disk.proofs.sparse_disk.SparseDisk.earlier.Goals as goal

pub returns : goal.returns
returns c =
    let log = c.args.self.now.log in
    ap (λ (size : ℕ). written size c.earlier.result.now) (length-written log.size log.first.items) ∙ c.earlier.ensures
