use Rattle.std.proofs.Common.{◌-◌, length, drop, arith, length-drop}
use Rattle.std.proofs.lemmas.Grind.{common_steps}
use Rattle.std.proofs.Math.Seq.{take-add}
use Rattle.std.proofs.lemmas.List.{take_all}
use Rattle.text_page.proofs.Printing.{TookAll-then}
use Rattle.text_page.proofs.print.write_text.Goals as goal

pub loop-given-preserved : goal.loop-given-preserved
loop-given-preserved g c =
    let text = c.args.text.now in
    let whole = take_all (length text - c.loop-given.given) (drop c.loop-given.given text) (omega (arith, length-drop c.loop-given.given text)) in
    let bound = rw whole at c.in-Ok.ensures.bound in
    let bytes = rw whole at c.in-Ok.ensures.bytes in
    let busy = rw whole at c.in-Ok.ensures.busy in
    record {
      inside = omega (arith, bound, length-drop c.loop-given.given text);
      took = rw (take-add c.loop-given.given c.in-Ok.count text) (TookAll-then _ _ c.loop-given.invariant.took (record {
        took = bytes;
        later = c.in-Ok.ensures.cause.later;
        refused = c.in-Ok.ensures.granted (omega (arith, c));
        idle = busy (omega (arith, c.loop-given-test, length-drop c.loop-given.given text));
      }));
    }

pub returns-in-Ok-eq0 : goal.returns-in-Ok-eq0
returns-in-Ok-eq0 g c = grind (arith, common_steps) steps 400000

pub returns-in-Err : goal.returns-in-Err
returns-in-Err g c = grind (arith, common_steps) steps 400000

pub returns : goal.returns
returns g c = grind (arith, common_steps) steps 400000
