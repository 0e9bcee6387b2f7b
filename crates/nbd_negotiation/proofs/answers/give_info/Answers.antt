use Rattle.std.proofs.Common.{◌∙◌, ℕ, List, sym, subst}
use Rattle.nbd_negotiation.specs.Streams.{GivesBytes}
use Rattle.nbd_negotiation.proofs.Negotiating.{info_fits}
use Rattle.nbd_negotiation.proofs.answers.give_info.Goals as goal

pub returns : goal.returns
returns g c =
    subst (λ (l : List ℕ). GivesBytes l (g.K.Sink.state c.args.output.now) c.give_all.result (g.K.Sink.state c.give_all.new.output))
    (c.telling.ensures ∙ info_fits c.args.code c.args.bytes.now c.args.export.now (sym c.if-not-info_request_fits.ensures)) c.give_all.ensures
