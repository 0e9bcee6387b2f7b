use Rattle.std.proofs.Common.{arith, ◌≡◌, ◌++◌, take}
use Rattle.std.proofs.lemmas.Grind.{common_steps}
use Rattle.crash_disk.specs.Writes.{written}
use Rattle.crash_disk.proofs.Writes.{All-at, length-written, written-append}
use Rattle.crash_disk.proofs.write_log.WriteLog.at.Goals as goal

pub new-requires-clause-small : goal.new-requires-clause-small
new-requires-clause-small c =
    let log = c.args.self.now in
    omega (arith, length-written log.size c.extend_from_slice.new.self.items, length-written log.size log.first.items, log.small)

pub new-requires-clause-sectors : goal.new-requires-clause-sectors
new-requires-clause-sectors c =
    let log = c.args.self.now in
    let all : c.extend_from_slice.new.self.items ≡ log.first.items ++ take c.args.moment log.events.items = grind (arith, common_steps) in
    rw (all, written-append log.size log.first.items (take c.args.moment log.events.items)) (All-at (written log.size log.first.items) log.events.items c.args.moment log.fits)

pub returns-clause-content : goal.returns-clause-content
returns-clause-content c =
    let log = c.args.self.now in
    let all : c.extend_from_slice.new.self.items ≡ log.first.items ++ take c.args.moment log.events.items = grind (arith, common_steps) in
    rw (← written-append log.size log.first.items (take c.args.moment log.events.items), ← all) c.new.ensures.content
