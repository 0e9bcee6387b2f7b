use Rattle.std.proofs.Common.{◌⊎◌, ◌∷◌, [], inl, inr, refl, rules, arith}
use Rattle.std.proofs.lemmas.Grind.{common_steps}
use Rattle.image_layers.specs.Images.{AsksFiles, opening}
use Rattle.image_layers.proofs.image_disks.open_both.Goals as goal

pub returns-clause-opens : goal.returns-clause-opens
returns-clause-opens g c =
    record { between = opening c.open_named.new.opener c.open_named.new.files.items; one = c.in_ok-first.ensures.opens; other = c.in_ok-second.ensures.opens }

pub returns-in_err-first-clause-asked_part : goal.returns-in_err-first-clause-asked_part
returns-in_err-first-clause-asked_part g c =
    let asked : AsksFiles g.O.Opener.asked c.args.changes (c.args.first.now ∷ []) c.args.opener.now c.open_named.new.opener ⊎ AsksFiles g.O.Opener.asked c.args.changes (c.args.first.now ∷ c.args.second.now ∷ []) c.args.opener.now c.open_named.new.opener =
    inl (c.open_named.new.opener, c.open_named.ensures.asked, refl) in
    search (rules, asked)

pub returns-in_err-second-clause-asked_part : goal.returns-in_err-second-clause-asked_part
returns-in_err-second-clause-asked_part g c =
    let asked : AsksFiles g.O.Opener.asked c.args.changes (c.args.first.now ∷ []) c.args.opener.now c.open_named-2.new.opener ⊎ AsksFiles g.O.Opener.asked c.args.changes (c.args.first.now ∷ c.args.second.now ∷ []) c.args.opener.now c.open_named-2.new.opener =
    inr (c.open_named.new.opener, c.open_named.ensures.asked, (c.open_named-2.new.opener, c.open_named-2.ensures.asked, refl)) in
    search (rules, asked)

pub returns-in_err-first-clause-opens : goal.returns-in_err-first-clause-opens
returns-in_err-first-clause-opens g c = grind (arith, common_steps) steps 400000

pub returns-in_err-first-clause-told : goal.returns-in_err-first-clause-told
returns-in_err-first-clause-told g c = grind (arith, common_steps) steps 400000

pub returns-in_err-second-clause-opens : goal.returns-in_err-second-clause-opens
returns-in_err-second-clause-opens g c = grind (arith, common_steps)

pub returns-in_err-second-clause-told : goal.returns-in_err-second-clause-told
returns-in_err-second-clause-told g c = grind (arith, common_steps) steps 400000

pub returns-clause-told : goal.returns-clause-told
returns-clause-told g c = grind (arith, common_steps) steps 400000

pub returns-clause-asked_part : goal.returns-clause-asked_part
returns-clause-asked_part g c = grind (arith, common_steps) steps 400000
