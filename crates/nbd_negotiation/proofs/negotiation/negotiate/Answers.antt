use Rattle.std.proofs.Common.{◌∙◌, ℕ, List, Err, ap, subst}
use Rattle.std.proofs.lemmas.Result.{err_from_is_err_and}
use Rattle.block_traits.specs.Streams.{TookAll}
use Rattle.nbd_negotiation.specs.Streams.{GivesBytes}
use Rattle.nbd_negotiation.proofs.Negotiating.{negotiated, no_client_known, no_greeting}
use Rattle.nbd_negotiation.proofs.negotiation.negotiate.Goals as goal

pub returns-in_err-give_all : goal.returns-in_err-give_all
returns-in_err-give_all g c =
    let p = err_from_is_err_and c.from_residual.result c.from_residual.ensures.1 in
    let end = c.in_err-give_all.field-0.0 in
    let sink = g.K.Sink.state c.args.output.now in
    let after = g.K.Sink.state c.give_all.new.output in
    no_greeting c.args.export.now end c.from_residual.result (g.S.Source.state c.args.input.now) sink after (p.1 ∙ ap Err p.2)
    (subst (λ (l : List ℕ). GivesBytes l sink (Err end) after) c.greeting.ensures c.in_err-give_all.ensures)

pub returns-in_err-client : goal.returns-in_err-client
returns-in_err-client g c =
    let p = err_from_is_err_and c.from_residual-in_err-client.result c.from_residual-in_err-client.ensures.1 in
    let sink = g.K.Sink.state c.args.output.now in
    let after = g.K.Sink.state c.give_all.new.output in
    no_client_known c.args.export.now c.in_err-client.field-0.0 c.from_residual-in_err-client.result (g.S.Source.state c.args.input.now) (g.S.Source.state c.take_client.new.input) sink after (p.1 ∙ ap Err p.2)
    (subst (λ (l : List ℕ). TookAll l sink after) c.greeting.ensures c.in_ok-give_all.ensures) c.in_err-client.ensures

pub returns : goal.returns
returns g c =
    let sink = g.K.Sink.state c.args.output.now in
    let after = g.K.Sink.state c.give_all.new.output in
    negotiated c.args.export.now c.in_ok-client.client c.answer_options.result (g.S.Source.state c.args.input.now) (g.S.Source.state c.take_client.new.input) (g.S.Source.state c.answer_options.new.input)
    sink after (g.K.Sink.state c.answer_options.new.output) (subst (λ (l : List ℕ). TookAll l sink after) c.greeting.ensures c.in_ok-give_all.ensures) c.in_ok-client.ensures c.answer_options.ensures
