use Rattle.std.proofs.Common.{◌≡◌, ◌*◌, ◌/◌, drop, length, take, Ok}
use Rattle.block_traits.specs.Parts.{parts}
use Rattle.sealing.specs.Data.{opened_data}
use Rattle.sealing.specs.Sectors.{units}
use Rattle.sector_runs.proofs.sector_groups.open_in_place.Given as goal

abbrev pub invariant-loop-i : goal.invariant-loop-i
invariant-loop-i l =
    let k = l.initial.ring.keying in
    let count = length l.initial.into / k.sectorsize in
    record {
      keying : l.ring.keying ≡ k;
      rest : drop (l.i * l.size) l.into ≡ drop (l.i * l.size) l.initial.into;
      opened : opened_data k l.sector l.i (parts 512 (count * units k) l.initial.into) ≡ Ok (take (l.i * l.size) l.into);
    }
