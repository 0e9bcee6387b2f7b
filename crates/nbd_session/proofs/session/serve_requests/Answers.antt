use Rattle.std.proofs.Common.{◌∙◌, refl, arith}
use Rattle.std.proofs.lemmas.Grind.{common_steps}
use Rattle.nbd_session.specs.Requests.{side_of}
use Rattle.nbd_session.proofs.Running.{ends_by, full, kept_on, may-count, next_by, none-yet}
use Rattle.nbd_session.proofs.session.serve_requests.Goals as goal

pub returns-in-Err-clause-serves : goal.returns-in-Err-clause-serves
returns-in-Err-clause-serves g c =
    let disk = g.D.Disk.state in
    let source = g.S.Source.state in
    let sink = g.K.Sink.state in
    ends_by c.args.provider.now c.many.provider (g.D.Disk.wants_room c.serve_request-answered.new.provider.disk) c.in-Err.end c.many.many (disk c.args.provider.now.disk) (disk c.many.provider.disk) (disk c.serve_request-answered.new.provider.disk)
    (source c.args.input.now) (source c.many.input) (source c.serve_request-answered.new.input) (sink c.args.output.now) (sink c.many.output) (sink c.serve_request-answered.new.output) c.many.denied c.with_denied-denied.result c.serve_request-answered.result.1 c.serve_request-answered.result.0
    c.many.invariant.kept c.many.invariant.served c.in-Err.is c.with_denied-denied.ensures c.serve_request-answered.ensures.serves

pub many-preserved : goal.many-preserved
many-preserved g c =
    let disk = g.D.Disk.state in
    let source = g.S.Source.state in
    let sink = g.K.Sink.state in
    record {
      room = c.serve_request-answered.auto.room ∙ c.many.invariant.room;
      edge = c.serve_request-answered.auto.edge ∙ c.many.invariant.edge;
      kept = kept_on c.many.invariant.kept c.serve_request-answered.ensures.kept;
      served = next_by c.in_default.field-0 c.args.provider.now c.many.provider (g.D.Disk.wants_room c.serve_request-answered.new.provider.disk) c.many.many (disk c.args.provider.now.disk) (disk c.many.provider.disk) (disk c.serve_request-answered.new.provider.disk)
          (source c.args.input.now) (source c.many.input) (source c.serve_request-answered.new.input) (sink c.args.output.now) (sink c.many.output) (sink c.serve_request-answered.new.output) c.many.denied c.with_denied-denied.result c.serve_request-answered.result.1 c.serve_request-answered.result.0
          c.many.invariant.kept c.many.invariant.served c.in_default.is c.with_denied-denied.ensures c.serve_request-answered.ensures.serves;
    }

pub returns-clause-serves : goal.returns-clause-serves
returns-clause-serves g c =
    let disk = g.D.Disk.state in
    let source = g.S.Source.state in
    let sink = g.K.Sink.state in
    full (side_of c.args.provider.now) c.many.many (disk c.args.provider.now.disk) (disk c.many.provider.disk) (source c.args.input.now) (source c.many.input) (sink c.args.output.now) (sink c.many.output) c.many.denied
    c.many-test.false c.many.invariant.served

pub returns-in-Err-clause-kept : goal.returns-in-Err-clause-kept
returns-in-Err-clause-kept g c = grind (arith, common_steps) steps 400000

pub returns-clause-kept : goal.returns-clause-kept
returns-clause-kept g c = grind (arith, common_steps) steps 400000

pub with_denied-denied-requires : goal.with_denied-denied-requires
with_denied-denied-requires g c =
    let disk = g.D.Disk.state in
    let source = g.S.Source.state in
    let sink = g.K.Sink.state in
    may-count (side_of c.args.provider.now) c.many.many (disk c.args.provider.now.disk) (disk c.many.provider.disk) (source c.args.input.now) (source c.many.input) (sink c.args.output.now) (sink c.many.output) c.many.denied
    c.many-test.true c.many.invariant.served

pub many-init : goal.many-init
many-init g c =
    let p = c.args.provider.now in
    record {
      room = c.requires.room;
      edge = c.requires.edge;
      kept = record { keying = refl; slot = refl; readonly = refl };
      served = none-yet (side_of p) (g.D.Disk.state p.disk) (g.S.Source.state c.args.input.now) (g.K.Sink.state c.args.output.now) c.none-denied.result c.none-denied.ensures;
    }
