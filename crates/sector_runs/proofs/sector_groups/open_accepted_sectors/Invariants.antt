use Rattle.std.proofs.Common.{◌≡◌, ◌*◌, ◌/◌, length, take, Ok}
use Rattle.block_traits.specs.Parts.{parts}
use Rattle.sealing.specs.Data.{opened_data}
use Rattle.sealing.specs.Sectors.{units}
use Rattle.sector_runs.proofs.sector_groups.open_accepted_sectors.Given as goal

abbrev pub invariant-loop-i : goal.invariant-loop-i
invariant-loop-i l =
    let k = l.initial.ring.keying in
    let count = length l.initial.out / k.sectorsize in
    record {
      keying : l.ring.keying ≡ k;
      opened : opened_data k l.sector l.i (parts 512 (count * units k) l.device) ≡ Ok (take (l.i * l.size) l.out);
    }
