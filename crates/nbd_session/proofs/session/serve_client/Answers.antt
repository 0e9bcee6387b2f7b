use Rattle.std.proofs.Common.{refl}
use Rattle.nbd_session.specs.Requests.{side_of}
use Rattle.nbd_session.proofs.Talking.{ended_early, talked}
use Rattle.nbd_session.proofs.session.serve_client.Goals as goal

pub returns-in-Ok : goal.returns-in-Ok
returns-in-Ok g c =
    let disk = g.D.Disk.state in
    let source = g.S.Source.state in
    let sink = g.K.Sink.state in
    talked c.in-Ok.field-0 c.export_of-export.result (side_of c.args.provider.now) c.serve_requests.result.0 (disk c.args.provider.now.disk) (disk c.args.provider.now.disk) (disk c.serve_requests.new.provider.disk)
    (source c.args.input.now) (source c.negotiate.new.input) (source c.serve_requests.new.input) (sink c.args.output.now) (sink c.negotiate.new.output) (sink c.serve_requests.new.output) c.serve_requests.result.1
    c.export_of-export.ensures.told refl c.in-Ok.ensures c.serve_requests.ensures.serves

pub returns-in-Err : goal.returns-in-Err
returns-in-Err g c =
    let disk = g.D.Disk.state in
    let source = g.S.Source.state in
    let sink = g.K.Sink.state in
    ended_early c.export_of-export.result (side_of c.args.provider.now) c.in-Err.end c.none.result (disk c.args.provider.now.disk) (disk c.args.provider.now.disk)
    (source c.args.input.now) (source c.negotiate.new.input) (sink c.args.output.now) (sink c.negotiate.new.output) c.export_of-export.ensures.told c.none.ensures refl c.in-Err.ensures
