use Rattle.std.proofs.Common.{◌∙◌, ap}
use Rattle.nbd_session.specs.Requests.{write_error, side_of}
use Rattle.nbd_session.proofs.Serving.{write_answered}
use Rattle.nbd_session.proofs.served.write_room.Goals as goal

pub returns-clause-writes : goal.returns-clause-writes
returns-clause-writes g c =
    let p = c.args.provider.now in
    let next = c.write_range-written.new.provider in
    let cover = c.cover_of-cover in
    write_answered c.write_range-written.result (g.D.Disk.wants_room next.disk) c.write_error.result (side_of p) c.args.request.now c.args.room.now c.range_of.result c.has_fua-flush.result c.sector_size-size.result cover.result.skip cover.result.whole (g.D.Disk.state p.disk)
    (g.D.Disk.state next.disk) c.requires.may c.range_of.ensures c.has_fua-flush.ensures c.sector_size-size.ensures.size cover.ensures.skip cover.ensures.covers c.write_range-written.ensures.writes
    (c.write_error.ensures ∙ ap (write_error c.write_range-written.result) c.wants_room-wanting.ensures)
