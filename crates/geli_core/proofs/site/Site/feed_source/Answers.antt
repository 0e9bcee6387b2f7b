use Rattle.std.proofs.Common.{[], ◌++◌, ◌≤◌, ap, arith, length, length-append, length-take, refl, rules, sym, take}
use Rattle.std.proofs.lemmas.List.{take-append-le}
use Rattle.geli_core.specs.Script.{script_limit}
use Rattle.geli_core.proofs.Pieces.{IsTaken-piece, gave_piece, met_more, prepend_known-nothing}
use Rattle.geli_core.proofs.Running.{IsServed-nothing}
use Rattle.geli_core.proofs.site.Site.feed_source.Goals as goal

pub loop-room-init : goal.loop-room-init
loop-room-init g c =
    let none = ap length c.requires.empty in
    let ok = c.args.line.now.ok.0 in
    record {
      same = (refl, refl, refl, refl);
      capacity = c.requires.room;
      short = omega arith;
      bytes = [];
      taken = record {
        served = rw (c.requires.empty, c.requires.nothing) (IsServed-nothing _);
        gave = sym (prepend_known-nothing _);
        faults = omega arith;
        short = omega arith;
      };
      counted = omega arith;
      met = record { refused = refl; ends = refl };
    }

pub returns-in-Err-fed-clause-feeds : goal.returns-in-Err-fed-clause-feeds
returns-in-Err-fed-clause-feeds g c =
    let inv = c.loop-room.invariant in
    let count = c.in-Ok.count in
    let into = c.take.new.into in
    let bound : count ≤ length into = c.in-Ok.ensures.bound in
    let fed = rw take-append-le at (c.in-Err-fed.ensures.feeds inv.bytes _ inv.taken.served) in
    let counted = inv.counted in
    let most = c.min-most.ensures in
    let long = c.take.auto.into in
    let bytes = inv.bytes ++ take count into in
    let limit : length bytes ≤ script_limit = omega (arith, length-append inv.bytes (take count into), length-take count into, length-take c.min-most.result c.loop-room.piece) in
    record {
      bytes = bytes;
      up_to = (fed, limit, gave_piece inv.bytes (take count into) _ _ _ inv.taken.gave c.in-Ok.ensures.bytes, met_more inv.met c.in-Ok.ensures.granted (c.in-Ok.ensures.gave (omega (arith, c))));
    }

pub loop-room-preserved : goal.loop-room-preserved
loop-room-preserved g c =
    let inv = c.loop-room.invariant in
    let count = c.in-Ok.count in
    let into = c.take.new.into in
    let bound : count ≤ length into = c.in-Ok.ensures.bound in
    let fed = rw take-append-le at (c.in_default.ensures.feeds inv.bytes _ inv.taken.served) in
    let ok = c.feed_piece-fed.new.line.ok.0 in
    let small = c.in_default.ensures.short in
    let counted = inv.counted in
    let most = c.min-most.ensures in
    let long = c.take.auto.into in
    record {
      same = search (rules, c.in_default.ensures.same, inv.same);
      capacity = c.in_default.ensures.room;
      short = c.in_default.ensures.short;
      bytes = inv.bytes ++ take count into;
      taken = IsTaken-piece inv.bytes (take count into) _ _ _ _ _ _ _ _ _ _ inv.taken c.in-Ok.ensures.bytes c.in-Ok.ensures.cause.later (omega arith) fed;
      counted = omega (arith, length-append inv.bytes (take count into), length-take count into, length-take c.min-most.result c.loop-room.piece);
      met = met_more inv.met c.in-Ok.ensures.granted (c.in-Ok.ensures.gave (omega (arith, c)));
    }
