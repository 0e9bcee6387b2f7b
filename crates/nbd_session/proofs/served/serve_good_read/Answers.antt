use Rattle.std.proofs.Common.{◌≡◌, ℕ, ◌+◌, ◌-◌, ◌≤◌, ◌++◌, List, [], length, take, drop, subst, arith, ◌∙◌}
use Rattle.std.proofs.lemmas.Grind.{common_steps}
use Rattle.nbd_words.specs.Transmission.{reply_head}
use Rattle.nbd_words.specs.declared.transmission.ReplyError.TheVariants.{Done, Failed}
use Rattle.nbd_negotiation.specs.Streams.{GivesBytes}
use Rattle.nbd_session.specs.Requests.{side_of}
use Rattle.nbd_session.proofs.Serving.{gives-bare, many_of, read_bytes, read_done, read_failed}
use Rattle.nbd_session.proofs.served.serve_good_read.Goals as goal

pub returns-then-not-read_range-clause-answers : goal.returns-then-not-read_range-clause-answers
returns-then-not-read_range-clause-answers g c =
    let q = c.args.request.now in
    record {
      error = Failed;
      bytes = [];
      reads = read_failed (side_of c.args.provider.now) q c.range_of.result (g.D.Disk.state c.args.provider.now.disk) (g.D.Disk.state c.read_range.new.provider.disk) c.range_of.ensures c.requires.may c.if-not-read_range.ensures.reads;
      gives = gives-bare (reply_head Failed q.cookie) c.answer.result (g.K.Sink.state c.args.output.now) (g.K.Sink.state c.answer.new.output) c.answer.ensures.gives;
    }

pub returns-clause-answers : goal.returns-clause-answers
returns-clause-answers g c =
    let q = c.args.request.now in
    let cover = c.cover_of-cover.result in
    let room = c.args.room.now in
    let into = c.read_range.new.into in
    let is = c.cover_of-cover.ensures in
    let fits : 16 + cover.whole ≤ 33685520 = omega (arith, is.least, is.within, c.sector_size-size.ensures.at_most, c.requires.may.few) in
    let long : length into ≡ cover.whole = c.read_range.auto.into ∙ many_of 16 cover.whole 33685520 room c.requires.room fits in
    let inside : cover.skip + q.length ≤ length into = omega (arith, long, is.covers) in
    let large : 16 ≤ length room = omega (arith, c.requires.room) in
    record {
      error = Done;
      bytes = take q.length (drop cover.skip into);
      reads = read_done (side_of c.args.provider.now) q c.range_of.result cover.skip into (g.D.Disk.state c.args.provider.now.disk) (g.D.Disk.state c.read_range.new.provider.disk) c.range_of.ensures c.requires.may c.if-not-read_range.ensures.reads;
      gives = subst (λ (l : List ℕ). GivesBytes (reply_head Done q.cookie ++ l) (g.K.Sink.state c.args.output.now) c.give_bytes.result (g.K.Sink.state c.give_bytes.new.output))
          (read_bytes cover.skip q.length (16 + cover.whole - 16) room into large inside) c.give_bytes.ensures.gives;
    }

pub returns-then-not-read_range-clause-kept : goal.returns-then-not-read_range-clause-kept
returns-then-not-read_range-clause-kept g c = grind (arith, common_steps) steps 400000

pub returns-clause-kept : goal.returns-clause-kept
returns-clause-kept g c = grind (arith, common_steps) steps 400000
