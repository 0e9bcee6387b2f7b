use Rattle.std.proofs.Common.{take}
use Rattle.block_traits.specs.Content.{at_moment}
use Rattle.block_traits.specs.Crash.{IsImage}
use Rattle.crash_disk.specs.MemDisk.{mem_state_of}
use Rattle.crash_disk.specs.Survivor.{AllGood, choice_of}
use Rattle.crash_disk.proofs.survivor.picked_image.Given as goal

abbrev pub invariant-loop-index : goal.invariant-loop-index
invariant-loop-index l =
    let left = at_moment l.moment (mem_state_of l.disk).content in
    record {
      image : IsImage left (choice_of left (take l.index l.picks)) l.image.items;
      good : AllGood left l.picks l.index;
    }
