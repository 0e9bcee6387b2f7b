use Rattle.std.proofs.Common.{◌∙◌, refl}
use Rattle.geli_core.proofs.Endings.{failures-refuse, prints_closing}
use Rattle.geli_core.proofs.site.Site.close_and_print.Goals as goal

pub returns-in-Ok-clause-closes : goal.returns-in-Ok-clause-closes
returns-in-Ok-clause-closes g c = record {
  failed = c.close-failed.result;
  closes = record { drawers = c.close-failed.ensures.closing; cabinet = refl; entropy = refl };
  prints = rw c.status_by.ensures (prints_closing c.args.refused c.close-failed.result _ _ c.either.result (c.either.ensures ∙ failures-refuse c.args.refused c.close-failed.result) c.in-Ok.ensures.prints);
}

pub returns-in-Err-clause-closes : goal.returns-in-Err-clause-closes
returns-in-Err-clause-closes g c = record {
  failed = c.close-failed.result;
  closes = record { drawers = c.close-failed.ensures.closing; cabinet = refl; entropy = refl };
  prints = (c.in-Err.ensures.some, c.in-Err.ensures.prints);
}
