use Rattle.std.proofs.Common.{◌≡◌, rules, false}
use Rattle.std.specs.Prelude.{is_ok}
use Rattle.file_edge.proofs.Logs.{more_then}
use Rattle.file_edge.specs.Asked.{Open, asking, more}
use Rattle.file_edge.specs.Opening.{to_change, to_read}
use Rattle.file_edge.proofs.opening.open_to_change.Goals as goal

pub returns-clause-asked : goal.returns-clause-asked
returns-clause-asked g c =
    let first : g.O.Opener.asked c.open.new.self ≡ more (asking (Open to_change c.args.name.now) false) (g.O.Opener.asked c.args.opener.now) = search rules in
    let second : g.O.Opener.asked c.open-2.new.self ≡ more (asking (Open to_read c.args.name.now) (is_ok c.open-2.result)) (g.O.Opener.asked c.open.new.self) = search rules in
    record {
      written = false;
      read = is_ok c.open-2.result;
      log = more_then (asking (Open to_change c.args.name.now) false) (asking (Open to_read c.args.name.now) (is_ok c.open-2.result)) _ _ _ first second;
    }
