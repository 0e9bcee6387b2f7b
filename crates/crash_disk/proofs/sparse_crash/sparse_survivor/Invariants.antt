use Rattle.std.proofs.Common.{◌≡◌, take}
use Rattle.block_traits.specs.Content.{at_moment}
use Rattle.block_traits.specs.Crash.{IsTorn}
use Rattle.crash_disk.specs.MemDisk.{fresh}
use Rattle.crash_disk.specs.SparseDisk.{sparse_state_of}
use Rattle.crash_disk.specs.Survivor.{AllGoodTears, IsTornImage, choice_of}
use Rattle.crash_disk.proofs.sparse_crash.sparse_survivor.Given as goal

abbrev pub invariant-loop-index : goal.invariant-loop-index
invariant-loop-index l =
    let left = at_moment l.moment (sparse_state_of l.disk).content in
    record {
      image : IsTornImage left (choice_of left l.picks) (take l.index l.torn) (sparse_state_of l.made).content.base;
      torn : IsTorn left (sparse_state_of l.made).content.base;
      good : AllGoodTears left l.picks l.torn l.index;
      rest : sparse_state_of l.made ≡ fresh (sparse_state_of l.made).content.base (sparse_state_of l.disk).room;
    }
