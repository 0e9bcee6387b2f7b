use Rattle.std.proofs.Common.{◌≡◌, ◌∙◌, ◌<◌, List, ap, arith, length}
use Rattle.std.proofs.Math.ListN.{length-set, set}
use Rattle.std.specs.List.{insert}
use Rattle.shelf.specs.declared.drawer.Drawer.{Drawer}
use Rattle.shelf.proofs.Closings.{close_more, one_at_most, same_behind}
use Rattle.shelf.proofs.Places.{insert-remove}
use Rattle.shelf.proofs.drawers.close_all.Goals as goal

pub loop-place-preserved : goal.loop-place-preserved
loop-place-preserved g c =
    let l = c.loop-place in
    let xs = l.drawers.items in
    let olds = c.args.drawers.now.items in
    let after = c.close-drawer.result.0 in
    let ok = l.drawers.ok.0 in
    let ok_old = c.args.drawers.now.ok.0 in
    let ok_new = c.put_back.new.items.ok.0 in
    let same = l.invariant.same in
    let end = c.len-place-end.ensures in
    let below = c.loop-place-test.true in
    let small : l.place < length xs = omega arith in
    let long : length xs ≡ length olds = omega arith in
    let put : c.put_back.new.items.items ≡ set xs l.place after =
    c.put_back.ensures.items ∙ ap (λ (ys : List (Drawer g.row.D.Denot)). insert ys l.place after) c.remove-drawer.ensures.items ∙ insert-remove xs l.place after small in
    let size : length c.put_back.new.items.items ≡ length xs = ap length put ∙ length-set xs l.place after in
    let one = one_at_most c.close-drawer.result.1 in
    let room = l.invariant.room in
    let more = c.put_back.ensures.capacity in
    let kept = c.remove-drawer.ensures.capacity in
    let few = l.invariant.few in
    let counted = c.failures-failed.ensures in
    record {
      same = omega arith;
      room = omega arith;
      few = omega arith;
      closed = rw (c.failures-failed.ensures, put)
          (close_more g.D.Disk.state olds xs l.place l.failed c.remove-drawer.result after c.close-drawer.result.1 small long l.invariant.closed l.invariant.others c.remove-drawer.ensures.value c.close-drawer.ensures);
      others = rw put (same_behind xs olds l.place after l.invariant.others);
    }
