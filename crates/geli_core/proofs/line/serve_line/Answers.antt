use Rattle.std.proofs.Common.{rules}
use Rattle.geli_core.proofs.LineLaws.{served_lawfully}
use Rattle.geli_core.proofs.line.serve_line.Goals as goal

pub returns : goal.returns
returns g c =
    let lawful = served_lawfully _ _ _ _ _ _ _ c.serve_and_print.ensures.serves in
    search (rules, lawful)
