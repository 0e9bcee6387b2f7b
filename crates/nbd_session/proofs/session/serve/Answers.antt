use Rattle.nbd_session.specs.Requests.{side_of}
use Rattle.nbd_session.proofs.Talking.{closed_so}
use Rattle.nbd_session.proofs.session.serve.Goals as goal

pub returns : goal.returns
returns g c =
    let disk = g.D.Disk.state in
    let source = g.S.Source.state in
    let sink = g.K.Sink.state in
    closed_so (side_of c.args.provider) c.serve_client-end.result.0 c.serve_client-end.result.1 (source c.args.input.now) (source c.serve_client-end.new.input) (sink c.args.output.now) (sink c.serve_client-end.new.output)
    c.close-disk.result.1 (disk c.args.provider.disk) (disk c.serve_client-end.new.provider.disk) (disk c.close-disk.result.0) c.serve_client-end.ensures c.close-disk.ensures.ok c.close-disk.ensures.err
