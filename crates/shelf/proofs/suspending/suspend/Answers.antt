use Rattle.std.proofs.Common.{◌<◌, ◌≤◌, length, arith, refl}
use Rattle.shelf.specs.Shelved.{attachment_of}
use Rattle.shelf.proofs.Sectors.{flushed}
use Rattle.shelf.proofs.Suspensions.{kept_of_provider, refused_open, suspended_so}
use Rattle.shelf.proofs.suspending.suspend.Goals as goal

pub returns-then-count-gt0 : goal.returns-then-count-gt0
returns-then-count-gt0 g c =
    let some : 0 < length c.args.queue = omega (arith, c.len-count.ensures, c.if-count-gt0.true) in
    rw c.len-count.ensures (λ cabinet entropy. refused_open (attachment_of c.args.queue c.args.provider) _ some)

pub returns : goal.returns
returns g c =
    let none : length c.args.queue ≤ 0 = omega (arith, c.len-count.ensures, c.if-count-gt0.false) in
    λ cabinet entropy. suspended_so (attachment_of c.args.queue c.args.provider) _ _ _ none (record {
      flushes = rw c.or_device_fault.ensures (flushed _ _ c.suspend-suspended.result.1 c.suspend-suspended.ensures.ok c.suspend-suspended.ensures.err);
      unasked = c.suspend-suspended.ensures.unasked;
      holding = kept_of_provider g.D.Disk.state c.args.queue c.args.provider c.suspend-suspended.result.0 c.suspend-suspended.ensures.kept;
      outside = record { cabinet = refl; entropy = refl };
    })
