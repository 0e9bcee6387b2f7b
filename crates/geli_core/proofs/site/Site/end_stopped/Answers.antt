use Rattle.std.proofs.Common.{refl}
use Rattle.geli_core.proofs.Endings.{ended_broken, ended_long}
use Rattle.geli_core.proofs.site.Site.end_stopped.Goals as goal

pub returns-in-TooLong-clause-ends : goal.returns-in-TooLong-clause-ends
returns-in-TooLong-clause-ends g c = rw c.in-TooLong.is (λ bytes old source after h limit gave met.
    ended_long bytes old _ _ source after c.close.result h limit gave met (record { drawers = c.close.ensures.closing; cabinet = refl; entropy = refl }) refl)

pub returns-in-Unprinted-clause-ends : goal.returns-in-Unprinted-clause-ends
returns-in-Unprinted-clause-ends g c = rw c.in-Unprinted.is (λ bytes old source after h limit gave met.
    ended_broken bytes old _ _ source after c.close.result h limit gave met (record { drawers = c.close.ensures.closing; cabinet = refl; entropy = refl }) refl)
