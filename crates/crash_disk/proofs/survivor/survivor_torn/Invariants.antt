use Rattle.std.proofs.Common.{take}
use Rattle.block_traits.specs.Content.{at_moment}
use Rattle.block_traits.specs.Crash.{IsTorn}
use Rattle.crash_disk.specs.MemDisk.{mem_state_of}
use Rattle.crash_disk.specs.Survivor.{AllGoodTears, IsTornImage, choice_of}
use Rattle.crash_disk.proofs.survivor.survivor_torn.Given as goal

abbrev pub invariant-loop-index : goal.invariant-loop-index
invariant-loop-index l =
    let left = at_moment l.moment (mem_state_of l.disk).content in
    record {
      image : IsTornImage left (choice_of left l.picks) (take l.index l.torn) l.image.items;
      torn : IsTorn left l.image.items;
      good : AllGoodTears left l.picks l.torn l.index;
    }
