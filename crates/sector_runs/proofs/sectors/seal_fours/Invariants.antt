use Rattle.std.proofs.Common.{◌≡◌, ◌*◌, take}
use Rattle.block_traits.specs.Parts.{parts}
use Rattle.sealing.specs.Sectors.{seal}
use Rattle.sector_runs.proofs.sectors.seal_fours.Given as goal

abbrev pub invariant-loop-i : goal.invariant-loop-i
invariant-loop-i l =
    let k = l.initial.ring.keying in
    record {
      keying : l.ring.keying ≡ k;
      sealed : parts 512 (4 * l.i) l.out ≡ take (4 * l.i) (seal k l.sector l.plain);
    }
