use Rattle.std.proofs.Common.{◌∙◌, inr, sym, arith}
use Rattle.std.proofs.lemmas.Grind.{common_steps}
use Rattle.nbd_session.specs.Requests.{side_of}
use Rattle.nbd_session.proofs.Serving.{no_head, request_served}
use Rattle.nbd_session.proofs.served.serve_request.Goals as goal

pub returns-in-Err-clause-serves : goal.returns-in-Err-clause-serves
returns-in-Err-clause-serves g c =
    inr (no_head c.in-Err.end c.fill.new.into (g.D.Disk.state c.args.provider.now.disk) (g.S.Source.state c.args.input.now) (g.S.Source.state c.fill.new.input) (g.K.Sink.state c.args.output.now)
    c.fill.auto.into c.in-Err.ensures)

pub returns-clause-serves : goal.returns-clause-serves
returns-clause-serves g c =
    request_served (side_of c.args.provider.now) (g.D.Disk.wants_room c.serve_by_kind.new.provider.disk) c.fill.new.into c.in-Some.request (g.D.Disk.state c.args.provider.now.disk) (g.D.Disk.state c.serve_by_kind.new.provider.disk)
    (g.S.Source.state c.args.input.now) (g.S.Source.state c.fill.new.input) (g.S.Source.state c.serve_by_kind.new.input) (g.K.Sink.state c.args.output.now) c.serve_by_kind.result.0
    (g.K.Sink.state c.serve_by_kind.new.output) c.serve_by_kind.result.1 c.fill.auto.into (sym c.request_in.ensures ∙ c.in-Some.is) c.in_default.ensures c.serve_by_kind.ensures.serves

pub returns-in-Err-clause-kept : goal.returns-in-Err-clause-kept
returns-in-Err-clause-kept g c = grind (arith, common_steps) steps 400000

pub returns-in_default-request_in-clause-serves : goal.returns-in_default-request_in-clause-serves
returns-in_default-request_in-clause-serves g c = grind (arith, common_steps)

pub returns-in_default-request_in-clause-kept : goal.returns-in_default-request_in-clause-kept
returns-in_default-request_in-clause-kept g c = grind (arith, common_steps) steps 400000

pub returns-clause-kept : goal.returns-clause-kept
returns-clause-kept g c = grind (arith, common_steps) steps 400000
