use Rattle.std.proofs.Common.{◌≡◌, length, drop, take}
use Rattle.crash_disk.specs.Replay.{replayed}
use Rattle.crash_disk.proofs.sector_log.SectorLog.at.Given as goal

abbrev pub invariant-loop-event : goal.invariant-loop-event
invariant-loop-event l = record {
  size : length l.image.items ≡ length l.self.base.items;
  rest : replayed l.image.items (drop l.event-index (take l.moment l.self.events.items)) ≡ replayed l.self.base.items (take l.moment l.self.events.items);
}
