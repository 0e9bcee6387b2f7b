use Rattle.std.proofs.Common.{refl}
use Rattle.command_words.specs.declared.spans.Sep.TheVariants.{Zeros}
use Rattle.geli_core.proofs.Commands.{broke_command, ran_command, says}
use Rattle.geli_core.proofs.site.Site.run_command.Goals as goal

pub returns-in-Ok-clause-runs : goal.returns-in-Ok-clause-runs
returns-in-Ok-clause-runs g c = λ source said.
    ran_command c.args.line.now c.args.command.now _ _ _ source c.in-Ok.end c.is_refusal.result c.close_and_print-status.result said
    (c.in-Ok.ensures.serves Zeros (says c.args.line.now c.args.command.now said)) c.is_refusal.ensures c.close_and_print-status.ensures.closes

pub returns-in-Err-clause-runs : goal.returns-in-Err-clause-runs
returns-in-Err-clause-runs g c = λ source said.
    broke_command c.args.line.now c.args.command.now _ _ _ source c.in-Err.field-0 c.close.result said
    (c.in-Err.ensures.serves Zeros (says c.args.line.now c.args.command.now said)) (record { drawers = c.close.ensures.closing; cabinet = refl; entropy = refl }) refl
