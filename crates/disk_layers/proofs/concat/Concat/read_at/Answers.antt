-- What stands below is what is reported.
use Rattle.std.proofs.Common.{arith, subst, ℕ, ◌-◌}
use Rattle.block_traits.specs.Disk.{GivesFrom}
use Rattle.disk_layers.proofs.JoinedLemmas.{gives-first, gives-second, on_ok}
use Rattle.disk_layers.proofs.concat.Concat.read_at.Goals as goal

pub returns-then-n-size-clause-bytes : goal.returns-then-n-size-clause-bytes
returns-then-n-size-clause-bytes g c =
    let a = g.A.Disk.state c.args.self.now.first in
    let b = g.B.Disk.state c.args.self.now.second in
    on_ok c.read.result (gives-first a.size c.args.n c.read.new.into c.args.self.now.past.events a.content b.content (omega arith) c.args.self.now.covered) c.read.ensures.bytes

pub returns-else-n-size-clause-bytes : goal.returns-else-n-size-clause-bytes
returns-else-n-size-clause-bytes g c =
    let a = g.A.Disk.state c.args.self.now.first in
    let b = g.B.Disk.state c.args.self.now.second in
    let bytes = c.read-else-n-size.new.into in
    on_ok c.read-else-n-size.result
    (λ gives. gives-second a.size c.args.n bytes c.args.self.now.past.events a.content b.content (omega arith) c.args.self.now.covered
    (subst (λ (m : ℕ). GivesFrom b.content (c.args.n - m) bytes) c.sectors-size.ensures gives)) c.read-else-n-size.ensures.bytes
