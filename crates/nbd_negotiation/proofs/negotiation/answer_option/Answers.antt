use Rattle.std.proofs.Common.{◌∙◌, Err, ap, sym, arith}
use Rattle.std.proofs.lemmas.Grind.{common_steps}
use Rattle.std.proofs.lemmas.Result.{err_from_is_err_and}
use Rattle.nbd_negotiation.specs.Options.{ClientOption}
use Rattle.nbd_negotiation.proofs.Negotiating.{answer_cut, answer_given, many_data, no_data, no_head, one_answered}
use Rattle.nbd_negotiation.proofs.negotiation.answer_option.Goals as goal

pub returns-in_err-fill : goal.returns-in_err-fill
returns-in_err-fill g c =
    let p = err_from_is_err_and c.from_residual.result c.from_residual.ensures.1 in
    no_head c.args.export.now c.args.client.now c.in_err-fill.field-0.0 c.fill.new.into (g.S.Source.state c.args.input.now) (g.S.Source.state c.fill.new.input) (g.K.Sink.state c.args.output.now)
    c.from_residual.result (p.1 ∙ ap Err p.2) c.fill.auto.into c.in_err-fill.ensures

pub returns-in_err-fill-2 : goal.returns-in_err-fill-2
returns-in_err-fill-2 g c =
    let p = err_from_is_err_and c.from_residual-in_err-fill-2.result c.from_residual-in_err-fill-2.ensures.1 in
    let client = c.args.client.now in
    let option = c.in-Some.option in
    let taken = sym c.if-not-is_taken.ensures in
    no_data c.args.export.now client c.in_err-fill-2.field-0.0 c.fill.new.into c.fill-2.new.into option (g.S.Source.state c.args.input.now) (g.S.Source.state c.fill.new.input) (g.S.Source.state c.fill-2.new.input)
    (g.K.Sink.state c.args.output.now) c.from_residual-in_err-fill-2.result (p.1 ∙ ap Err p.2) c.fill.auto.into (sym c.option_head_in.ensures ∙ c.in-Some.is) taken
    (many_data client option c.args.room.now c.fill-2.new.into taken c.requires c.fill-2.auto.into) c.in_ok-fill.ensures c.in_err-fill-2.ensures

pub returns-in_err-give_answer : goal.returns-in_err-give_answer
returns-in_err-give_answer g c =
    let p = err_from_is_err_and c.from_residual-in_err-give_answer.result c.from_residual-in_err-give_answer.ensures.1 in
    let o : ClientOption = record { head = c.fill.new.into; code = c.in-Some.option.code; bytes = c.fill-2.new.into } in
    let taken = sym c.if-not-is_taken.ensures in
    one_answered c.fill.auto.into (sym c.option_head_in.ensures ∙ c.in-Some.is) taken (many_data c.args.client.now c.in-Some.option c.args.room.now c.fill-2.new.into taken c.requires c.fill-2.auto.into) c.in_ok-fill.ensures c.in_ok-fill-2.ensures
    (answer_cut c.args.export.now c.args.client.now o c.option_kind-kind.result c.in_err-give_answer.field-0.0 c.from_residual-in_err-give_answer.result (g.K.Sink.state c.args.output.now)
    (g.K.Sink.state c.give_answer.new.output) (p.1 ∙ ap Err p.2) c.option_kind-kind.ensures c.in_err-give_answer.ensures)

pub returns : goal.returns
returns g c =
    let o : ClientOption = record { head = c.fill.new.into; code = c.in-Some.option.code; bytes = c.fill-2.new.into } in
    let taken = sym c.if-not-is_taken.ensures in
    one_answered c.fill.auto.into (sym c.option_head_in.ensures ∙ c.in-Some.is) taken (many_data c.args.client.now c.in-Some.option c.args.room.now c.fill-2.new.into taken c.requires c.fill-2.auto.into) c.in_ok-fill.ensures c.in_ok-fill-2.ensures
    (answer_given c.args.export.now c.args.client.now o c.option_kind-kind.result c.outcome_of.result (g.K.Sink.state c.args.output.now) (g.K.Sink.state c.give_answer.new.output)
    c.option_kind-kind.ensures c.outcome_of.ensures c.in_ok-give_answer.ensures)

pub returns-in_default : goal.returns-in_default
returns-in_default g c = grind (arith, common_steps)

pub returns-then-not-is_taken : goal.returns-then-not-is_taken
returns-then-not-is_taken g c = grind (arith, common_steps)
