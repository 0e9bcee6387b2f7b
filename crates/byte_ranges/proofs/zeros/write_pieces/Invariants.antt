use Rattle.std.proofs.Common.{◌≡◌, ◌+◌, ◌-◌, ◌*◌, ◌<◌, ◌≤◌, drop, length, replicate, take}
use Rattle.block_traits.specs.Disk.{Continues}
use Rattle.provider.specs.Attached.{IsKept}
use Rattle.sector_runs.specs.Writing.{data_writes}
use Rattle.byte_ranges.specs.Zeros.{with_zeros}
use Rattle.byte_ranges.proofs.zeros.write_pieces.Given as goal

abbrev pub invariant-pieces : goal.invariant-pieces
invariant-pieces g l =
    let state = g.D.Disk.state in
    let k = l.initial.provider.keying in
    record {
      kept : IsKept l.initial.provider l.provider;
      there : (state l.provider.disk).size ≡ (state l.initial.provider.disk).size;
      unasked : (state l.provider.disk).reads ≡ (state l.initial.provider.disk).reads;
      some : 1 ≤ l.count;
      place : l.first + l.count ≡ l.cover.first + l.cover.count;
      skip : l.skip < k.sectorsize;
      fits : l.skip + length l.back ≤ l.count * k.sectorsize;
      room : length l.sectors ≡ l.many * k.sectorsize;
      zeros : drop l.skip l.sectors ≡ replicate (length l.sectors - l.skip) 0;
      events : Continues (data_writes k l.first l.count (with_zeros (l.count * k.sectorsize) (take l.skip l.sectors) l.back))
          (data_writes k l.cover.first l.cover.count (with_zeros (l.cover.count * k.sectorsize) (take l.cover.skip l.initial.sectors) l.back)) (state l.provider.disk) (state l.initial.provider.disk);
    }

abbrev pub decreases-pieces : goal.decreases-pieces
decreases-pieces g l = l.count - l.many
