use Rattle.std.proofs.Common.{ℕ, ◌-◌, ◌≤◌, List, take, subst, arith}
use Rattle.aes_core.specs.Schedule.{AreBytes}
use Rattle.aes_core.proofs.KeyBytes.{AreBytes-take}
use Rattle.byte_ranges.specs.Zeros.{after_zeros}
use Rattle.byte_ranges.proofs.Splicing.{all_there}
use Rattle.byte_ranges.proofs.Zeroing.{back_is, given, zeroed_by, zeroed_in_part}
use Rattle.byte_ranges.proofs.zeros.zero_range.Goals as goal

pub write_pieces-requires-clause-inside : goal.write_pieces-requires-clause-inside
write_pieces-requires-clause-inside g c =
    let p = c.args.provider.now in
    let next = c.find_edges.new.provider in
    all_there p.keying next.keying (g.D.Disk.state p.disk) (g.D.Disk.state next.disk) c.args.range.now c.args.cover.now c.if-not-find_edges.ensures.kept.keying c.if-not-find_edges.ensures.finds.2.0 c.requires.covers c.requires.inside

pub returns-then-not-write_pieces-clause-writes : goal.returns-then-not-write_pieces-clause-writes
returns-then-not-write_pieces-clause-writes g c =
    let p = c.args.provider.now in
    let state = g.D.Disk.state in
    let next = c.find_edges.new.provider in
    let cover = c.args.cover.now in
    let found = c.find_edges.new.sectors in
    let edge = c.find_edges.new.edge in
    let size : ℕ = c.sector_size-size.result in
    let left : ℕ = cover.whole - cover.skip - c.args.range.now.count in
    let within : cover.whole - cover.skip - c.args.range.now.count ≤ c.sector_size-size.result = omega (arith, c.requires.covers.least, c.sector_size-size.ensures.size) in
    let backs : AreBytes (after_zeros p.keying left edge) = subst (λ (l : List ℕ). AreBytes l) (back_is p.keying size left edge c.sector_size-size.ensures.size within) c.are_bytes-2.ensures in
    zeroed_in_part p.keying next.keying c.args.range.now c.args.flush cover (take cover.skip found) (after_zeros p.keying left edge) _
    (state p.disk) (state next.disk) (state c.write_pieces.new.provider.disk) c.if-not-find_edges.ensures.kept.keying c.requires.covers
    (AreBytes-take cover.skip found c.are_bytes.ensures) backs c.if-not-find_edges.ensures.finds.2
    (given p.keying next.keying cover c.args.range.now size left found edge c.if-not-find_edges.ensures.kept.keying c.requires.covers c.sector_size-size.ensures.size within)
    c.if-not-write_pieces.ensures.writes

pub returns-clause-writes : goal.returns-clause-writes
returns-clause-writes g c =
    let p = c.args.provider.now in
    let state = g.D.Disk.state in
    let next = c.find_edges.new.provider in
    let cover = c.args.cover.now in
    let found = c.find_edges.new.sectors in
    let edge = c.find_edges.new.edge in
    let size : ℕ = c.sector_size-size.result in
    let left : ℕ = cover.whole - cover.skip - c.args.range.now.count in
    let within : cover.whole - cover.skip - c.args.range.now.count ≤ c.sector_size-size.result = omega (arith, c.requires.covers.least, c.sector_size-size.ensures.size) in
    let backs : AreBytes (after_zeros p.keying left edge) = subst (λ (l : List ℕ). AreBytes l) (back_is p.keying size left edge c.sector_size-size.ensures.size within) c.are_bytes-2.ensures in
    zeroed_by c.flush_where.result p.keying next.keying c.args.range.now c.args.flush cover (take cover.skip found) (after_zeros p.keying left edge) _
    (state p.disk) (state next.disk) (state c.write_pieces.new.provider.disk) (state c.flush_where.new.provider.disk) c.if-not-find_edges.ensures.kept.keying c.requires.covers
    (AreBytes-take cover.skip found c.are_bytes.ensures) backs c.if-not-find_edges.ensures.finds.2
    (given p.keying next.keying cover c.args.range.now size left found edge c.if-not-find_edges.ensures.kept.keying c.requires.covers c.sector_size-size.ensures.size within)
    c.if-not-write_pieces.ensures.writes c.flush_where.ensures.flushes
