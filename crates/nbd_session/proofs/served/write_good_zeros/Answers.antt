use Rattle.std.proofs.Common.{◌∙◌, ap}
use Rattle.nbd_session.specs.Requests.{write_error, side_of}
use Rattle.nbd_session.proofs.Serving.{zeros_answered}
use Rattle.nbd_session.proofs.served.write_good_zeros.Goals as goal

pub returns-clause-writes : goal.returns-clause-writes
returns-clause-writes g c =
    let p = c.args.provider.now in
    let next = c.zero_range-written.new.provider in
    zeros_answered c.zero_range-written.result (g.D.Disk.wants_room next.disk) c.write_error.result (side_of p) c.args.request.now c.range_of.result c.has_fua-flush.result (g.D.Disk.state p.disk)
    (g.D.Disk.state next.disk) c.requires.may c.range_of.ensures c.has_fua-flush.ensures c.zero_range-written.ensures.writes
    (c.write_error.ensures ∙ ap (write_error c.zero_range-written.result) c.wants_room-wanting.ensures)
