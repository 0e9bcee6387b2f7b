use Rattle.std.proofs.Common.{sym}
use Rattle.geli_core.proofs.Running.{refuses_words}
use Rattle.geli_core.proofs.site.Site.serve_and_print.Goals as goal

pub returns-in-Ok-Some-clause-serves : goal.returns-in-Ok-Some-clause-serves
returns-in-Ok-Some-clause-serves g c =
    let says = rw (c.in-Ok-Some.field-0-is) at c.in-Ok-Some.ensures.reading in
    c.serve_command.ensures.serves c.args.sep (sym says)

pub returns-in-Err-clause-serves : goal.returns-in-Err-clause-serves
returns-in-Err-clause-serves g c =
    refuses_words c.args.sep c.args.line.now c.in-Err.usage _ _ _ _ c.in-Err.ensures.reading c.print.ensures
