use Rattle.std.proofs.Common.{rules, arith, ◌∙◌}
use Rattle.std.proofs.lemmas.List.{append-nil}
use Rattle.std.specs.Prelude.{◌≡◌, ◌-◌, ◌^◌}
use Rattle.file_edge.proofs.Beside.{met_one_more, met_then_none}
use Rattle.file_edge.specs.Storing.{beside_name}
use Rattle.file_edge.proofs.store.make_beside.Goals as goal

pub returns-then-not-is_met-clause-makes : goal.returns-then-not-is_met-clause-makes
returns-then-not-is_met-clause-makes g c =
    let named : c.as_str.result.now ≡ beside_name c.args.name.now c.loop-number.number = search rules in
    record {
      number = c.loop-number.number;
      unmade = tt;
      asked = met_then_none c.args.name.now c.loop-number.number c.as_str.result.now _ _ _ _ named (search (rules, c.is_met.ensures)) c.loop-number.invariant.asked c.in-Err.ensures.asked;
    }

pub loop-number-preserved : goal.loop-number-preserved
loop-number-preserved g c =
    let named : c.as_str.result.now ≡ beside_name c.args.name.now c.loop-number.number = search rules in
    record {
      asked = met_one_more c.args.name.now c.loop-number.number c.as_str.result.now _ _ _ _ named (search (rules, c.is_met.ensures)) c.loop-number.invariant.asked c.in-Err.ensures.asked;
      told = c.in-Err.ensures.told ∙ c.loop-number.invariant.told;
    }

pub returns-clause-makes : goal.returns-clause-makes
returns-clause-makes g c =
    let all : c.loop-number.number ≡ 2 ^ 64 - 1 = grind (arith, c.loop-number-test.false, c.loop-number.auto.number-end) in
    record { number = c.loop-number.number; unmade = all; asked = rw (append-nil) (c.loop-number.invariant.asked) }
