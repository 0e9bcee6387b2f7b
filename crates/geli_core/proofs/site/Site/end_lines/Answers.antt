use Rattle.std.proofs.Common.{refl}
use Rattle.geli_core.proofs.Endings.{ended_script, ended_unprinted}
use Rattle.geli_core.proofs.site.Site.end_lines.Goals as goal

pub returns-in-Ok-clause-ends : goal.returns-in-Ok-clause-ends
returns-in-Ok-clause-ends g c = λ bytes old source after h.
    ended_script bytes old _ _ source after c.in-Ok.refused c.close_and_print.result (c.in-Ok.ensures.ends bytes old h.0.served) h.1 h.2 h.3 h.0.gave c.close_and_print.ensures.closes

pub returns-in-Err-clause-ends : goal.returns-in-Err-clause-ends
returns-in-Err-clause-ends g c = λ bytes old source after h.
    ended_unprinted bytes old _ _ source after c.close.result (c.in-Err.ensures.ends bytes old h.0.served) h.1 h.2 h.3 h.0.gave (record { drawers = c.close.ensures.closing; cabinet = refl; entropy = refl }) refl
