use Rattle.std.proofs.Common.{refl}
use Rattle.geli_core.proofs.Endings.{ended_failed, ended_full}
use Rattle.geli_core.proofs.site.Site.end_script.Goals as goal

pub returns-in-AtEnd-clause-ends : goal.returns-in-AtEnd-clause-ends
returns-in-AtEnd-clause-ends g c = rw c.in-AtEnd.is c.end_lines.ensures.ends

pub returns-in-SourceFailed-clause-ends : goal.returns-in-SourceFailed-clause-ends
returns-in-SourceFailed-clause-ends g c = rw c.in-SourceFailed.is (λ bytes old source after h.
    ended_failed bytes old _ _ source after c.args.line.now c.args.refused c.close.result h.0 h.1 h.2 h.3 (record { drawers = c.close.ensures.closing; cabinet = refl; entropy = refl }) refl)

pub returns-in-Full-clause-ends : goal.returns-in-Full-clause-ends
returns-in-Full-clause-ends g c = rw c.in-Full.is (λ bytes old source after h.
    ended_full bytes old _ _ source after c.args.line.now c.args.refused c.close-in-Full.result h.0 h.1 h.2 (record { drawers = c.close-in-Full.ensures.closing; cabinet = refl; entropy = refl }) refl)

pub returns-in-Stopped-clause-ends : goal.returns-in-Stopped-clause-ends
returns-in-Stopped-clause-ends g c = rw c.in-Stopped.is (λ bytes old source after h. c.end_stopped.ensures.ends bytes old source after h.0 h.1 h.2 h.3)
