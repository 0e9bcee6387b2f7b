use Rattle.std.proofs.Common.{◌≡◌, ◌-◌, ◌^◌, length}
use Rattle.provider.specs.Attached.{IsKept}
use Rattle.nbd_session.specs.Requests.{side_of}
use Rattle.nbd_session.specs.Runs.{ServedSoFar}
use Rattle.nbd_session.proofs.session.serve_requests.Given as goal

abbrev pub invariant-many : goal.invariant-many
invariant-many g l =
    let disk = g.D.Disk.state in
    let source = g.S.Source.state in
    let sink = g.K.Sink.state in
    record {
      room : length l.room ≡ 33685520;
      edge : length l.edge ≡ 65536;
      kept : IsKept l.initial.provider l.provider;
      served : ServedSoFar (side_of l.initial.provider) l.many (disk l.initial.provider.disk) (disk l.provider.disk) (source l.initial.input) (source l.input) (sink l.initial.output) (sink l.output) l.denied;
    }

abbrev pub decreases-many : goal.decreases-many
decreases-many g l = 2 ^ 64 - 1 - l.many
