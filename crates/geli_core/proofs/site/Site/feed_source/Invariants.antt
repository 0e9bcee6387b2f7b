use Rattle.std.proofs.Common.{◌≡◌, ℕ, ◌+◌, ◌≤◌, List, length, vec_capacity, vec_len}
use Rattle.geli_core.specs.Script.{MetNothing, script_limit}
use Rattle.geli_core.specs.Served.{IsTaken}
use Rattle.geli_core.specs.Sites.{BorrowsAsBefore, site_now}
use Rattle.geli_core.specs.Vocabulary.{line_limit}
use Rattle.geli_core.proofs.site.Site.feed_source.Given as goal

-- the bytes so far were looked at
abbrev pub invariant-loop-room : goal.invariant-loop-room
invariant-loop-room g l =
    let now = site_now g.K.Sink.state g.C.Cabinet.state g.E.Entropy.state g.D.Disk.state in
    let source = g.S.Source.state in
    record {
      same : BorrowsAsBefore l.fn.self l.self;
      capacity : line_limit ≤ vec_capacity l.line;
      short : vec_len l.line ≤ line_limit;
      bytes : List ℕ;
      taken : IsTaken bytes (now l.fn.self) (source l.fn.input) l.line.items l.refused (now l.self) (source l.input);
      counted : length bytes + l.room ≡ script_limit;
      met : MetNothing (source l.fn.input) (source l.input);
    }

abbrev pub decreases-loop-room : goal.decreases-loop-room
decreases-loop-room g l = l.room
