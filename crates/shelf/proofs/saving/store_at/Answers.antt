use Rattle.std.proofs.Common.{refl, arith}
use Rattle.std.proofs.lemmas.Grind.{common_steps}
use Rattle.shelf.proofs.Storing.{store_failed}
use Rattle.shelf.proofs.saving.store_at.Goals as goal

pub returns-in-Err : goal.returns-in-Err
returns-in-Err g c =
    let e = c.in-Err.ensures in
    λ disk holding entropy. rw c.store_refusal.ensures (record {
      stores = store_failed c.args.line.now c.args.span c.args.bytes.now _ _ c.in-Err.fault (record { files = e.err; faults = e.later; misses = e.more_misses }) e.failed;
      unasked = e.unasked;
      stored = e.stored;
      disk = refl;
      holding = refl;
      entropy = refl;
    })

pub returns-in-Ok : goal.returns-in-Ok
returns-in-Ok g c = grind (arith, common_steps) steps 400000
