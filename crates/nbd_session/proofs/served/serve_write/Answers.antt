use Rattle.std.proofs.Common.{◌≡◌, ◌∙◌, inl, ℕ, ◌+◌, ◌-◌, ◌%◌, ◌<◌, length, take, drop, arith}
use Rattle.std.proofs.lemmas.Grind.{common_steps}
use Rattle.std.proofs.lemmas.Nat.{mod_below}
use Rattle.nbd_session.specs.Requests.{side_of}
use Rattle.nbd_session.proofs.Serving.{many_of, payload_there, written_there}
use borrow.Rule.Slice.PartMut.{put_mid}
use Rattle.nbd_session.proofs.served.serve_write.Goals as goal

pub returns-clause-serves : goal.returns-clause-serves
returns-clause-serves g c =
    let p = c.args.provider.now in
    let q = c.args.request.now in
    let size : ℕ = c.sector_size-size.result in
    let start : ℕ = q.offset % size in
    let room = c.args.room.now in
    let ys = c.fill.new.into in
    let most = c.sector_size-size.ensures.at_most in
    let low : start < size = mod_below q.offset size (omega (arith, c.sector_size-size.ensures.at_least)) in
    let all : length ys ≡ q.length = c.fill.auto.into ∙ many_of start q.length 33685520 room c.requires.room (omega (arith, low, most, c.requires.few)) in
    let there : take q.length (drop (q.offset % p.keying.sectorsize) (put_mid start (start + q.length - start) room ys)) ≡ ys =
    payload_there q.offset size p.keying.sectorsize q.length (start + q.length - start) room ys c.sector_size-size.ensures.size all (omega (arith, low, most, c.requires.room)) in
    inl (record {
      payload = ys;
      size = all;
      few = c.requires.few;
      took = c.in_default.ensures;
      error = c.write-error.result;
      writes = written_there (side_of p) (g.D.Disk.wants_room c.write-error.new.provider.disk) q ys (take q.length (drop (q.offset % p.keying.sectorsize) (put_mid start (start + q.length - start) room ys))) c.write-error.result
          (g.D.Disk.state p.disk) (g.D.Disk.state c.write-error.new.provider.disk) there c.write-error.ensures.writes;
      gives = c.answer.ensures.gives;
      noted = c.denial_where-denied.ensures;
    })

pub returns-in-Err-clause-serves : goal.returns-in-Err-clause-serves
returns-in-Err-clause-serves g c = grind (arith, common_steps) steps 400000

pub returns-in-Err-clause-kept : goal.returns-in-Err-clause-kept
returns-in-Err-clause-kept g c = grind (arith, common_steps) steps 400000

pub returns-clause-kept : goal.returns-clause-kept
returns-clause-kept g c = grind (arith, common_steps) steps 400000
