use Rattle.std.proofs.Common.{ℕ, ◌≤◌, ◌-◌, List, ◌++◌, length, take, vec_capacity, vec_len}
use Rattle.geli_core.specs.Served.{IsServed, SiteState}
use Rattle.geli_core.specs.Sites.{BorrowsAsBefore, site_now}
use Rattle.geli_core.specs.Vocabulary.{line_limit}
use Rattle.geli_core.proofs.site.Site.feed_piece.Given as goal

-- the bytes up to this place were looked at
abbrev pub invariant-places : goal.invariant-places
invariant-places g l =
    let now = site_now g.K.Sink.state g.C.Cabinet.state g.E.Entropy.state g.D.Disk.state in
    record {
      same : BorrowsAsBefore l.fn.self l.self;
      room : line_limit ≤ vec_capacity l.line;
      short : vec_len l.line ≤ line_limit;
      feeds : (bytes : List ℕ) (old : SiteState) → IsServed bytes old l.fn.line.items l.fn.refused (now l.fn.self)
          → IsServed (bytes ++ take l.place l.piece) old l.line.items l.refused (now l.self);
    }

abbrev pub decreases-places : goal.decreases-places
decreases-places g l = length l.piece - l.place
