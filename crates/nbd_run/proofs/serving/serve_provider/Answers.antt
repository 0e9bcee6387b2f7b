use Rattle.std.proofs.Common.{◌∙◌, Bool, ap, subst}
use Rattle.nbd_session.specs.Denials.{some_denied}
use Rattle.nbd_run.specs.Ending.{IsToldBy}
use Rattle.nbd_run.specs.Status.{session_status}
use Rattle.nbd_run.proofs.serving.serve_provider.Goals as goal

pub returns : goal.returns
returns g c =
    let denied = c.serve-end.result.3 in
    record {
      end = c.serve-end.result.0;
      denied = denied;
      flushed = c.serve-end.result.2;
      session = c.serve-end.ensures;
      told = subst (λ (b : Bool). IsToldBy (some_denied denied) b denied (g.L.Sink.state c.args.log.now) (g.L.Sink.state c.tell_end.new.log)) c.is_ok.ensures.value c.tell_end.ensures;
      status_is = c.session_status-status.ensures ∙ ap (λ (b : Bool). session_status c.serve-end.result.0 b c.is_ok-2.result) c.are_some.ensures ∙ ap (session_status c.serve-end.result.0 (some_denied denied)) c.is_ok-2.ensures.value;
    }
