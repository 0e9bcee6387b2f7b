use Rattle.std.proofs.Common.{arith, length, ◌≡◌, ◌≤◌}
use Rattle.geli_core.specs.Vocabulary.{line_limit}
use Rattle.geli_core.proofs.Running.{IsServed-byte, IsServed-line, IsTooLong-byte, IsUnprinted-line}
use Rattle.geli_core.proofs.site.Site.feed_byte.Goals as goal

pub returns-in-Err-clause-feeds : goal.returns-in-Err-clause-feeds
returns-in-Err-clause-feeds g c =
    let short : length c.args.line.now.items ≤ line_limit = omega (arith, c.requires.short, c.args.line.now.ok.0) in
    let served = rw c.as_slice.ensures.value at c.in-Err.ensures.serves in
    λ bytes old h. rw c.if-byte-eq10.true (IsUnprinted-line bytes old _ _ c.args.line.now.items c.args.refused.now _ short h served)

pub returns-then-byte-eq10-clause-feeds : goal.returns-then-byte-eq10-clause-feeds
returns-then-byte-eq10-clause-feeds g c =
    let short : length c.args.line.now.items ≤ line_limit = omega (arith, c.requires.short, c.args.line.now.ok.0) in
    let served = rw c.as_slice.ensures.value at c.in-Ok.ensures.serves in
    λ bytes old h. rw (c.if-byte-eq10.true, c.clear.ensures.items, c.either.ensures, c.is_refusal.ensures)
    (IsServed-line bytes old _ _ c.args.line.now.items c.args.refused.now c.in-Ok.end short h served)

pub returns-then-len-ge-LINE_LIMIT-clause-feeds : goal.returns-then-len-ge-LINE_LIMIT-clause-feeds
returns-then-len-ge-LINE_LIMIT-clause-feeds g c =
    let full : length c.args.line.now.items ≡ line_limit = omega (arith, c.requires.short, c.if-len-ge-LINE_LIMIT.true, c.len.ensures, c.args.line.now.ok.0) in
    λ bytes old h. IsTooLong-byte bytes old _ c.args.line.now.items c.args.refused.now c.args.byte c.if-byte-eq10.false full h

pub returns-clause-feeds : goal.returns-clause-feeds
returns-clause-feeds g c = λ bytes old h. rw c.push_reserved.ensures.items (IsServed-byte bytes old _ c.args.line.now.items c.args.refused.now c.args.byte c.if-byte-eq10.false h)
