use Rattle.std.proofs.Common.{◌++◌, ◌+◌, ◌≡◌, arith, rules, take}
use Rattle.std.proofs.lemmas.List.{take_all}
use Rattle.std.proofs.lemmas.Result.{err_from_is_err_and}
use Rattle.geli_core.proofs.Pieces.{piece_more, stops_at}
use Rattle.geli_core.proofs.Texts.{IsServed-part}
use Rattle.geli_core.proofs.site.Site.feed_piece.Goals as goal

pub returns-in_err-feed_byte-clause-feeds : goal.returns-in_err-feed_byte-clause-feeds
returns-in_err-feed_byte-clause-feeds g c =
    let p = err_from_is_err_and c.from_residual.result c.from_residual.ensures.1 in
    let piece = c.args.piece.now in
    let place = c.places.place in
    let taken = c.feed_text-taken.result in
    let none = c.if-taken-eq0.true in
    let same : place + taken ≡ place = omega (arith, none) in
    λ bytes old h.
    let served = rw same at (IsServed-part bytes piece place taken _ old _ _ _ c.plain_part.ensures.one c.plain_part.ensures.front c.feed_text-taken.ensures.bound (c.places.invariant.feeds bytes old h)) in
    rw (p.1, p.2)
    (stops_at bytes piece place old _ _ c.requires.small c.places-test.true (c.in_err-feed_byte.ensures.feeds (bytes ++ take place piece) old (rw c.feed_text-taken.ensures.items served)))

pub places-preserved-then-taken-eq0 : goal.places-preserved-then-taken-eq0
places-preserved-then-taken-eq0 g c =
    let piece = c.args.piece.now in
    let place = c.places.place in
    let taken = c.feed_text-taken.result in
    let none = c.if-taken-eq0.true in
    let same : place + taken ≡ place = omega (arith, none) in
    record {
      same = search (rules, c.in_ok-feed_byte.ensures.same, c.places.invariant.same);
      room = c.in_ok-feed_byte.ensures.room;
      short = c.in_ok-feed_byte.ensures.short;
      feeds = λ bytes old h.
          let served = rw same at (IsServed-part bytes piece place taken _ old _ _ _ c.plain_part.ensures.one c.plain_part.ensures.front c.feed_text-taken.ensures.bound (c.places.invariant.feeds bytes old h)) in
          rw (piece_more bytes piece place c.places-test.true)
          (c.in_ok-feed_byte.ensures.feeds (bytes ++ take place piece) old (rw c.feed_text-taken.ensures.items served));
    }

pub places-preserved : goal.places-preserved
places-preserved g c =
    let piece = c.args.piece.now in
    let place = c.places.place in
    let taken = c.feed_text-taken.result in
    record {
      same = c.places.invariant.same;
      room = c.feed_text-taken.ensures.room;
      short = c.feed_text-taken.ensures.short;
      feeds = λ bytes old h. rw c.feed_text-taken.ensures.items
          (IsServed-part bytes piece place taken _ old _ _ _ c.plain_part.ensures.one c.plain_part.ensures.front c.feed_text-taken.ensures.bound (c.places.invariant.feeds bytes old h));
    }

pub returns-clause-feeds : goal.returns-clause-feeds
returns-clause-feeds g c =
    let whole = take_all c.places.place c.args.piece.now (omega (arith, c.places-test.false)) in
    λ bytes old h. rw whole at (c.places.invariant.feeds bytes old h)
