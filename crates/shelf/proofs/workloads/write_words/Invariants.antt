use Rattle.std.proofs.Common.{◌≡◌, ◌-◌, ◌≤◌}
use Rattle.command_rows.specs.Vocabulary.{Continues, IsKept}
use Rattle.shelf.proofs.Batches.{left_writes}
use Rattle.shelf.proofs.workloads.write_words.Given as goal

-- what is left to write comes to all of it
abbrev pub invariant-batches : goal.invariant-batches
invariant-batches g l =
    let state = g.D.Disk.state in
    let k = l.initial.provider.keying in
    record {
      within : l.sector ≤ l.end;
      kept : IsKept l.initial.provider l.provider;
      size : (state l.provider.disk).size ≡ (state l.initial.provider.disk).size;
      unasked : (state l.provider.disk).reads ≡ (state l.initial.provider.disk).reads;
      events : Continues (left_writes k l.sector (l.end - l.sector) l.generator) (left_writes k l.start (l.end - l.start) l.initial.generator) (state l.provider.disk) (state l.initial.provider.disk);
    }

abbrev pub decreases-batches : goal.decreases-batches
decreases-batches g l = l.end - l.sector
