use Rattle.std.proofs.Common.{Contains, sym, subst, ◌∙◌}
use Rattle.std.specs.Map.{keys_of}
use Rattle.range_keys.proofs.Entries.{Contains-found, found-Contains}
use Rattle.range_keys.proofs.ring.KeyRing.keeps.Goals as goal

pub returns : goal.returns
returns c =
    let es = c.self.inside.keys.cache.entries in
    let number = c.key_number.result in
    rw (← c.self.view_is) (
      (λ h. subst (Contains (keys_of es)) c.key_number.ensures (Contains-found number es (sym c.contains.ensures ∙ h))),
      (λ h. c.contains.ensures ∙ found-Contains number es (subst (Contains (keys_of es)) (sym c.key_number.ensures) h)),
    )
