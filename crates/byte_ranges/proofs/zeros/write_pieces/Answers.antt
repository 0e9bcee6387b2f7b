use Rattle.std.proofs.Common.{◌∙◌, ◌+◌, ◌-◌, ◌*◌, ◌≤◌, List, [], length, take, refl, arith}
use Rattle.block_traits.specs.declared.disk.Event.{Event}
use Rattle.sector_runs.specs.Writing.{data_writes}
use Rattle.byte_ranges.specs.Zeros.{with_zeros}
use Rattle.byte_ranges.proofs.Zeroing.{IsKept-then, all_zeros, ends_by, media_small, next_piece, one_more, piece_failed, piece_written, still_there, within_room}
use Rattle.byte_ranges.proofs.zeros.write_pieces.Goals as goal

pub overflow_add-first : goal.overflow_add-first
overflow_add-first g c =
    let p = c.args.provider.now in
    omega (arith, media_small p.keying (g.D.Disk.state p.disk), c.requires.inside, c.pieces.invariant.place, c.pieces-test.true)

pub write_piece-requires-clause-inside : goal.write_piece-requires-clause-inside
write_piece-requires-clause-inside g c =
    let p = c.args.provider.now in
    let now = c.pieces.provider in
    still_there p.keying now.keying (g.D.Disk.state p.disk) (g.D.Disk.state now.disk) (c.pieces.first + c.args.many) c.pieces.invariant.kept.keying c.pieces.invariant.there
    (omega (arith, c.requires.inside, c.pieces.invariant.place, c.pieces-test.true))

pub write_rest-requires-clause-inside : goal.write_rest-requires-clause-inside
write_rest-requires-clause-inside g c =
    let p = c.args.provider.now in
    let now = c.pieces.provider in
    still_there p.keying now.keying (g.D.Disk.state p.disk) (g.D.Disk.state now.disk) (c.pieces.first + c.pieces.count) c.pieces.invariant.kept.keying c.pieces.invariant.there
    (omega (arith, c.requires.inside, c.pieces.invariant.place))

pub returns-then-not-write_piece-clause-writes : goal.returns-then-not-write_piece-clause-writes
returns-then-not-write_piece-clause-writes g c =
    let state = g.D.Disk.state in
    let p = c.args.provider.now in
    let k = p.keying in
    let now = c.pieces in
    let is = c.pieces.invariant in
    let all : List Event = data_writes k c.args.cover.now.first c.args.cover.now.count (with_zeros (c.args.cover.now.count * k.sectorsize) (take c.args.cover.now.skip c.args.sectors.now) c.args.back.now) in
    let within : now.skip ≤ length now.sectors = within_room now.skip k.sectorsize c.args.many (length now.sectors) is.skip c.requires.some is.room in
    piece_failed k now.provider.keying now.first c.args.many now.count now.sectors (with_zeros ((now.count - c.args.many) * k.sectorsize) [] c.args.back.now) all
    (state now.provider.disk) (state p.disk) (state c.write_piece.new.provider.disk) is.kept.keying
    (next_piece k now.first c.args.many now.count now.skip now.sectors c.args.back.now all (state now.provider.disk) (state p.disk) is.room within is.zeros c.pieces-test.true c.requires.back is.events)
    c.if-not-write_piece.ensures.writes

pub pieces-preserved : goal.pieces-preserved
pieces-preserved g c =
    let state = g.D.Disk.state in
    let p = c.args.provider.now in
    let k = p.keying in
    let now = c.pieces in
    let is = c.pieces.invariant in
    let next = c.write_piece.new.provider in
    let all : List Event = data_writes k c.args.cover.now.first c.args.cover.now.count (with_zeros (c.args.cover.now.count * k.sectorsize) (take c.args.cover.now.skip c.args.sectors.now) c.args.back.now) in
    let within : now.skip ≤ length now.sectors = within_room now.skip k.sectorsize c.args.many (length now.sectors) is.skip c.requires.some is.room in
    record {
      kept = IsKept-then p now.provider next is.kept c.if-not-write_piece.ensures.kept;
      there = c.if-not-write_piece.ensures.writes.size ∙ is.there;
      unasked = c.if-not-write_piece.ensures.unasked ∙ is.unasked;
      some = omega (arith, c.pieces-test.true);
      place = omega (arith, is.place, c.pieces-test.true);
      skip = omega (arith, c.requires.wide);
      fits = omega (arith, one_more now.count c.args.many k.sectorsize (length c.args.back.now) c.pieces-test.true c.requires.back);
      room = c.write_piece.auto.sectors ∙ is.room;
      zeros = all_zeros (length now.sectors) c.write_piece.new.sectors (c.if-not-write_piece.ensures.zeros refl);
      events = piece_written k now.provider.keying now.first c.args.many now.count now.sectors (with_zeros ((now.count - c.args.many) * k.sectorsize) [] c.args.back.now) all
          (state now.provider.disk) (state p.disk) (state next.disk) is.kept.keying
          (next_piece k now.first c.args.many now.count now.skip now.sectors c.args.back.now all (state now.provider.disk) (state p.disk) is.room within is.zeros c.pieces-test.true c.requires.back is.events)
          c.if-not-write_piece.ensures.writes;
    }

pub returns-clause-writes : goal.returns-clause-writes
returns-clause-writes g c =
    let state = g.D.Disk.state in
    let p = c.args.provider.now in
    let k = p.keying in
    let now = c.pieces in
    let is = c.pieces.invariant in
    let all : List Event = data_writes k c.args.cover.now.first c.args.cover.now.count (with_zeros (c.args.cover.now.count * k.sectorsize) (take c.args.cover.now.skip c.args.sectors.now) c.args.back.now) in
    ends_by c.write_rest.result k now.provider.keying c.sector_size-size.result now.first c.args.many now.count now.skip now.sectors c.args.back.now all
    (state now.provider.disk) (state p.disk) (state c.write_rest.new.provider.disk) is.kept.keying c.sector_size-size.ensures.size is.room is.zeros c.pieces-test.false is.fits is.events
    c.write_rest.ensures.writes
