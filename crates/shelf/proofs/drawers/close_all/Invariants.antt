use Rattle.std.proofs.Common.{◌≡◌, ◌≤◌, drop, take, vec_capacity, vec_len}
use Rattle.shelf.specs.Closing.{Closing}
use Rattle.shelf.specs.Shelved.{drawers_of}
use Rattle.shelf.proofs.drawers.close_all.Given as goal

-- the drawers up to this place were closed, and the others are as they were
abbrev pub invariant-loop-place : goal.invariant-loop-place
invariant-loop-place g l =
    let states = drawers_of g.D.Disk.state in
    record {
      same : vec_len l.drawers ≡ vec_len l.fn.drawers;
      room : 16 ≤ vec_capacity l.drawers;
      few : l.failed ≤ l.place;
      closed : Closing (states (take l.place l.fn.drawers.items)) l.failed (states (take l.place l.drawers.items));
      others : drop l.place l.drawers.items ≡ drop l.place l.fn.drawers.items;
    }
