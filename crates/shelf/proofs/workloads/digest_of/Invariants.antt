use Rattle.std.proofs.Common.{◌-◌, ◌≤◌}
use Rattle.command_rows.specs.Vocabulary.{IsKept}
use Rattle.shelf.proofs.Batches.{HasRead}
use Rattle.shelf.proofs.workloads.digest_of.Given as goal

-- the sectors so far were read and hashed
abbrev pub invariant-batches : goal.invariant-batches
invariant-batches g l =
    let state = g.D.Disk.state in
    record {
      from : l.start ≤ l.sector;
      within : l.sector ≤ l.end;
      kept : IsKept l.initial.provider l.provider;
      read : HasRead l.initial.provider.keying l.start (l.sector - l.start) (state l.initial.provider.disk) (state l.provider.disk) l.hasher;
    }

abbrev pub decreases-batches : goal.decreases-batches
decreases-batches g l = l.end - l.sector
