use Rattle.std.proofs.Common.{◌≡◌, ◌*◌, min, take, Ok}
use Rattle.eli_base.specs.Units.{unit_bytes_of}
use Rattle.sealing.specs.Sectors.{device_sectors, joined, unit_readings}
use Rattle.sector_runs.proofs.sectors.open_accepted_sector.Given as goal

abbrev pub invariant-loop-j : goal.invariant-loop-j
invariant-loop-j l =
    let k = l.initial.ring.keying in
    record {
      keying : l.ring.keying ≡ k;
      opened : joined (take l.j (unit_readings k l.sector (device_sectors k l.device))) ≡ Ok (take (min (unit_bytes_of k.auth * l.j) k.sectorsize) l.out);
    }
