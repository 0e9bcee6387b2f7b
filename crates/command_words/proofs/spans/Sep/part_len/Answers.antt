use Rattle.std.proofs.Common.{sym}
use Rattle.command_words.specs.Words.{is_between}
use Rattle.command_words.proofs.Scan.{found_at, found_nowhere}
use Rattle.command_words.proofs.spans.Sep.part_len.Goals as goal

pub returns-in-Some : goal.returns-in-Some
returns-in-Some c =
    sym (found_at (is_between c.args.self) c.args.bytes.now c.in-Some.len (rw c.in-Some.is at c.first_between.ensures))

pub returns-in-None : goal.returns-in-None
returns-in-None c =
    sym (found_nowhere (is_between c.args.self) c.args.bytes.now (rw c.in-None.is at c.first_between.ensures))
