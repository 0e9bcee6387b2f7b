use Rattle.std.proofs.Common.{◌-◌, ◌∙◌, arith, lit≤}
use Rattle.std.proofs.Math.ListN.{length-set}
use Rattle.reply_text.proofs.Digits.{digits-start, digits-last, digits-next, room-next, small-next}
use Rattle.reply_text.proofs.hexadecimal.hexadecimal.Goals as goal

pub loop-left-init : goal.loop-left-init
loop-left-init c = record {
  some = lit≤ tt;
  inside = lit≤ tt;
  long = c.told-buffer;
  small = omega arith;
  digits = digits-start c.args.number c.args.buffer.now c.told-buffer;
}

pub returns-then-left-eq0-clause-digits : goal.returns-then-left-eq0-clause-digits
returns-then-left-eq0-clause-digits c =
    let l = c.loop-left in
    rw c.digit.ensures (digits-last c.args.number l.left l.start l.buffer l.invariant.some (omega (arith, l.invariant.long, l.invariant.inside)) c.if-left-eq0.true l.invariant.digits)

pub loop-left-preserved : goal.loop-left-preserved
loop-left-preserved c =
    let l = c.loop-left in
    let small = small-next l.start l.left l.invariant.some l.invariant.small in
    record {
      some = room-next l.start l.left c.if-left-eq0.false small;
      inside = omega arith;
      long = length-set l.buffer (l.start - 1) c.digit.result ∙ l.invariant.long;
      small = small;
      digits = rw c.digit.ensures (digits-next c.args.number l.left l.start l.buffer l.invariant.some (omega (arith, l.invariant.long, l.invariant.inside)) c.if-left-eq0.false l.invariant.digits);
    }
