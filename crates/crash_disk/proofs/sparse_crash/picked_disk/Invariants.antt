use Rattle.std.proofs.Common.{◌≡◌, take}
use Rattle.block_traits.specs.Content.{at_moment}
use Rattle.block_traits.specs.Crash.{IsImage}
use Rattle.crash_disk.specs.MemDisk.{fresh}
use Rattle.crash_disk.specs.SparseDisk.{sparse_state_of}
use Rattle.crash_disk.specs.Survivor.{AllGood, choice_of}
use Rattle.crash_disk.proofs.sparse_crash.picked_disk.Given as goal

abbrev pub invariant-loop-index : goal.invariant-loop-index
invariant-loop-index l =
    let left = at_moment l.moment (sparse_state_of l.disk).content in
    record {
      image : IsImage left (choice_of left (take l.index l.picks)) (sparse_state_of l.made).content.base;
      good : AllGood left l.picks l.index;
      rest : sparse_state_of l.made ≡ fresh (sparse_state_of l.made).content.base (sparse_state_of l.disk).room;
    }
