use Rattle.std.proofs.Common.{◌≡◌, ◌+◌, take}
use Rattle.block_traits.specs.Parts.{parts}
use Rattle.sealing.specs.Sectors.{seal}
use Rattle.sector_runs.proofs.four_sectors.seal_four_sectors.Given as goal

abbrev pub invariant-loop-j : goal.invariant-loop-j
invariant-loop-j l =
    let k = l.initial.ring.keying in
    record {
      keying : l.ring.keying ≡ k;
      first : parts 512 l.j l.first ≡ take l.j (seal k l.sector l.a);
      second : parts 512 l.j l.second ≡ take l.j (seal k (l.sector + 1) l.b);
      third : parts 512 l.j l.third ≡ take l.j (seal k (l.sector + 2) l.c);
      fourth : parts 512 l.j l.fourth ≡ take l.j (seal k (l.sector + 3) l.d);
    }
