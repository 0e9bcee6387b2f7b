use Rattle.std.proofs.Common.{◌≡◌, drop}
use Rattle.block_traits.specs.Disk.{Continues}
use Rattle.block_traits.specs.Overwriting.{overwrite_events}
use Rattle.block_traits.proofs.overwriting.store_each.Given as goal

abbrev pub invariant-loop-value : goal.invariant-loop-value
invariant-loop-value g l =
    let state = g.S.SectorOf.state in
    let n = g.S.SectorOf.number l.sector l.initial.device in
    record {
      number : g.S.SectorOf.number l.sector l.device ≡ n;
      size : (state l.device).size ≡ (state l.initial.device).size;
      left : Continues (overwrite_events n (drop l.value-index l.values)) (overwrite_events n l.values) (state l.device) (state l.initial.device);
      unasked : (state l.device).reads ≡ (state l.initial.device).reads;
      rest : g.S.SectorOf.rest l.device ≡ g.S.SectorOf.rest l.initial.device;
    }
