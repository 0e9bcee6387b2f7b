use Rattle.std.proofs.Common.{◌≡◌, ℕ, ◌-◌, length, arith}
use Rattle.std.proofs.lemmas.Grind.{common_steps}
use Rattle.nbd_negotiation.proofs.Filling.{SourceGave-then, take-filled}
use borrow.Rule.Slice.PartMut.{mid_of, same_len_mid}
use Rattle.nbd_negotiation.proofs.streams.fill.Goals as goal

pub taken-preserved : goal.taken-preserved
taken-preserved g c =
    let xs = c.taken.into in
    let ys = c.take.new.into in
    let a : ℕ = c.taken.taken in
    let many : length ys ≡ length (mid_of a (length xs - a) xs) = c.take.auto.into in
    let same = same_len_mid a (length xs - a) xs ys many in
    let bound = c.in-Ok.ensures.bound in
    record {
      inside = omega (arith, c.taken.invariant.inside, same, bound, many);
      gave = rw (take-filled a (length xs - a) c.in-Ok.count xs ys c.taken.invariant.inside bound)
          (SourceGave-then c.taken.invariant.gave (record { left = c.in-Ok.ensures.bytes; later = c.in-Ok.ensures.cause.later }));
    }

pub returns-in-Err : goal.returns-in-Err
returns-in-Err g c = grind (arith, common_steps) steps 400000

pub returns-in-Ok-eq0 : goal.returns-in-Ok-eq0
returns-in-Ok-eq0 g c = grind (arith, common_steps)

pub returns : goal.returns
returns g c = grind (arith, common_steps) steps 400000
