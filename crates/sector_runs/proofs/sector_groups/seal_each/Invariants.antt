use Rattle.std.proofs.Common.{◌≡◌, ◌*◌}
use Rattle.block_traits.specs.Parts.{parts}
use Rattle.sealing.specs.Data.{sealed_sectors}
use Rattle.sealing.specs.Sectors.{units}
use Rattle.sector_runs.proofs.sector_groups.seal_each.Given as goal

abbrev pub invariant-loop-i : goal.invariant-loop-i
invariant-loop-i l =
    let k = l.initial.ring.keying in
    record {
      keying : l.ring.keying ≡ k;
      sealed : parts 512 (l.i * units k) l.out ≡ sealed_sectors k l.sector l.i l.plain;
    }
