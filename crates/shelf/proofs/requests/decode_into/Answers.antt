use Rattle.std.proofs.Common.{arith, ◌∙◌}
use Rattle.hex.proofs.HexLemmas.{decode_of-even}
use Rattle.hex.proofs.Pairs.{decode_step, decode_done}
use Rattle.shelf.proofs.Digits.{pair_of}
use Rattle.shelf.proofs.requests.decode_into.Goals as goal

pub loop-i-preserved : goal.loop-i-preserved
loop-i-preserved c =
    let s = c.args.digits.now in
    let room = c.requires.room in
    let here = c.loop-i-test.true in
    let long = c.loop-i.auto.out in
    let even = decode_of-even s (omega (arith, room)) in
    let ok = rw even at c.requires.spelled in
    let pair = pair_of s c.loop-i.out c.loop-i.i (omega (arith, room, here)) ok c.loop-i.invariant in
    rw (c.digit_value-high.ensures, c.digit_value-low.ensures)
    (decode_step s c.loop-i.out c.loop-i.i _ (omega (arith, room, here)) (omega (arith, here, long)) pair c.loop-i.invariant)

pub returns : goal.returns
returns c =
    let s = c.args.digits.now in
    let room = c.requires.room in
    let past = c.loop-i-test.false in
    let long = c.loop-i.auto.out in
    decode_of-even s (omega (arith, room))
    ∙ decode_done s c.loop-i.out c.loop-i.i (omega (arith, past, long)) (omega (arith, past, room)) c.loop-i.invariant
