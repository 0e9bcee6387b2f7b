use Rattle.std.proofs.Common.{◌∙◌, None, ap, refl, rules, arith}
use Rattle.std.proofs.lemmas.Grind.{common_steps}
use Rattle.command_rows.specs.Vocabulary.{SinkState}
use Rattle.geli_core.specs.Vocabulary.{command_in, drawers_of, line_of}
use Rattle.geli_core.proofs.Commands.{declined, run_as_said, runs_as}
use Rattle.geli_core.proofs.Lawful.{runs_lawfully}
use Rattle.geli_core.specs.Images.{outside_of, whole_with}
use Rattle.geli_core.specs.Script.{Whole}
use Rattle.geli_core.proofs.top_call.run.Goals as goal

pub returns-in-Script-clause-runs : goal.returns-in-Script-clause-runs
returns-in-Script-clause-runs g c = λ words says.
    let said = rw c.in-Script.is at says in
    let now = c.new-site.ensures.now in
    let ran = rw (now.0, now.1, now.2, now.3) at (runs_as words _ _ _ c.run_script.result said c.run_script.ensures.runs) in
    let lawful = runs_lawfully words _ _ c.run_script.result ran c.hold_keyings.ensures c.names_differ.ensures in
    search (rules, lawful)

pub returns-in-One-clause-runs : goal.returns-in-One-clause-runs
returns-in-One-clause-runs g c = λ words says.
    let said = rw c.in-One.is at says in
    let here = c.deref.ensures.value ∙ said.1 in
    let now = c.new-site.ensures.now in
    let one = c.run_command.ensures.runs (g.S.Source.state c.args.outside.now.input.now) (ap command_in here ∙ said.2) in
    let ran = rw (now.0, now.1, now.2, now.3) at (runs_as words None _ _ c.run_command.result said.0 (run_as_said words _ _ _ _ c.run_command.result here said.2 one)) in
    let lawful = runs_lawfully words _ _ c.run_command.result ran c.hold_keyings.ensures c.names_differ.ensures in
    search (rules, lawful)

pub returns-in-Usage-clause-runs : goal.returns-in-Usage-clause-runs
returns-in-Usage-clause-runs g c = λ words says.
    let said = rw c.in-Usage.is at says in
    let now = c.new-site.ensures.now in
    let prints = rw now.1 at c.print_usage.ensures in
    let whole : SinkState → Whole = λ sink. whole_with (drawers_of g.D.Disk.state c.args.shelf.now.drawers)
    (outside_of (g.C.Cabinet.state c.args.outside.now.files.now) (g.E.Entropy.state c.args.outside.now.entropy.now) (g.S.Source.state c.args.outside.now.input.now) sink) in
    let printed = declined (line_of words) (whole (g.K.Sink.state c.args.outside.now.output.now)) (whole (g.K.Sink.state c.print_usage.new.output)) c.print_usage.result refl refl prints in
    let lawful = runs_lawfully words _ _ c.print_usage.result (runs_as words None _ _ c.print_usage.result said.0 (run_as_said words (line_of words) None _ _ c.print_usage.result refl said.1 printed))
    c.hold_keyings.ensures c.names_differ.ensures in
    search (rules, lawful)

pub returns-in-Script-clause-same : goal.returns-in-Script-clause-same
returns-in-Script-clause-same g c = grind (arith, common_steps) steps 400000

pub returns-in-Script-clause-unread : goal.returns-in-Script-clause-unread
returns-in-Script-clause-unread g c = grind (arith, common_steps) steps 400000

pub returns-in-One-clause-same : goal.returns-in-One-clause-same
returns-in-One-clause-same g c = grind (arith, common_steps) steps 400000

pub returns-in-One-clause-unread : goal.returns-in-One-clause-unread
returns-in-One-clause-unread g c = grind (arith, common_steps) steps 400000

pub returns-in-Usage-clause-same : goal.returns-in-Usage-clause-same
returns-in-Usage-clause-same g c = grind (arith, common_steps) steps 400000

pub returns-in-Usage-clause-unread : goal.returns-in-Usage-clause-unread
returns-in-Usage-clause-unread g c = grind (arith, common_steps) steps 400000
