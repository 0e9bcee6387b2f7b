use Rattle.std.proofs.Common.{◌≡◌, take}
use Rattle.block_traits.specs.Parts.{parts}
use Rattle.sealing.specs.Sectors.{seal}
use Rattle.sector_runs.proofs.sectors.seal_rest.Given as goal

abbrev pub invariant-loop-j : goal.invariant-loop-j
invariant-loop-j l =
    let k = l.initial.ring.keying in
    record {
      keying : l.ring.keying ≡ k;
      sealed : parts 512 l.j l.out ≡ take l.j (seal k l.sector l.plain);
    }
