-- What is reported stays if there is no room.
use Rattle.std.proofs.Common.{[], ◌∷◌, rules}
use Rattle.block_traits.specs.declared.disk.Event.TheVariants.{Write}
use Rattle.disk_layers.specs.WriteBehind.{behind_disk_of}
use Rattle.disk_layers.proofs.BehindLemmas.{quiet-fails, stops-rose}
use Rattle.disk_layers.proofs.write_behind.WriteBehind.make_room_and_put.Goals as goal

pub returns-in_err-write_all-clause-err : goal.returns-in_err-write_all-clause-err
returns-in_err-write_all-clause-err g c =
    let old = c.args.self.now in
    let new = c.write_all.new.self in
    let rose = stops-rose old.past.events (g.D.Disk.state old.under) (g.D.Disk.state new.under) old.waiting.items new.waiting.items c.in_err-write_all.ensures.err in
    let fails = quiet-fails (Write c.args.n c.args.from.now ∷ []) (behind_disk_of old) (behind_disk_of new) c.write_all.ensures.quiet rose in
    search (rules, fails)
