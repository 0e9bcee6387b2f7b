use Rattle.std.proofs.Common.{◌≤◌, ℕ, sym, subst, arith}
use Rattle.std.proofs.lemmas.Grind.{common_steps}
use Rattle.nbd_negotiation.proofs.Negotiating.{next_answered, options_end, wants_end, wants_service}
use Rattle.nbd_negotiation.proofs.negotiation.answer_options.Goals as goal

pub many-preserved : goal.many-preserved
many-preserved g c = record {
  room = subst (λ (n : ℕ). 16384 ≤ n) (sym c.answer_option.auto.room) c.many.invariant.room;
  answered = next_answered c.many.invariant.answered c.in-Ok-More.field-0-is c.in-Ok-More.ensures;
}

pub returns-in-Ok-Serving : goal.returns-in-Ok-Serving
returns-in-Ok-Serving g c = wants_service tt c.many.invariant.answered c.in-Ok-Serving.field-0-is c.in-Ok-Serving.ensures

pub returns-in-Ok-Ending : goal.returns-in-Ok-Ending
returns-in-Ok-Ending g c = wants_end c.many.invariant.answered c.in-Ok-Ending.field-0-is c.in-Ok-Ending.ensures

pub returns-in-Err : goal.returns-in-Err
returns-in-Err g c = options_end c.in-Err.end c.many.invariant.answered c.in-Err.ensures

pub returns : goal.returns
returns g c = grind (arith, common_steps)
