use Rattle.std.proofs.Common.{refl, string_bytes, arith}
use Rattle.std.proofs.lemmas.Grind.{common_steps}
use Rattle.nbd_run.proofs.Imaged.{served_image}
use Rattle.nbd_run.proofs.run.serve_asked.Goals as goal

pub returns-in-Ok-open_asked-clause-serves : goal.returns-in-Ok-open_asked-clause-serves
returns-in-Ok-open_asked-clause-serves g c = λ words wish asks.
    let opened = c.in-Ok-open_asked.opened in
    let opens = c.in-Ok-open_asked.ensures in
    served_image g.O.Opener g.O.File.ImageFile words c.args.opener opened.files.opener (string_bytes c.args.asked.name) c.args.asked.line.items c.args.asked.command
    opened.disk opened.files.images.items opened.entropy _ _ wish asks opens.opens opens.tells opens.files opens.random
    (λ d. refl) _ _ _ _ _ _ _ _ _ _ c.serve_opened.ensures.serves

pub returns-in_default-clause-serves : goal.returns-in_default-clause-serves
returns-in_default-clause-serves g c = grind (arith, common_steps) steps 400000

pub returns-in_default-clause-told : goal.returns-in_default-clause-told
returns-in_default-clause-told g c = grind (arith, common_steps) steps 400000

pub returns-in_default-clause-nothing : goal.returns-in_default-clause-nothing
returns-in_default-clause-nothing g c = grind (arith, common_steps) steps 400000

pub returns-in-Ok-open_asked-clause-told : goal.returns-in-Ok-open_asked-clause-told
returns-in-Ok-open_asked-clause-told g c = grind (arith, common_steps) steps 400000

pub returns-in-Ok-open_asked-clause-nothing : goal.returns-in-Ok-open_asked-clause-nothing
returns-in-Ok-open_asked-clause-nothing g c = grind (arith, common_steps) steps 400000

pub returns-clause-serves : goal.returns-clause-serves
returns-clause-serves g c = grind (arith, common_steps) steps 400000

pub returns-clause-told : goal.returns-clause-told
returns-clause-told g c = grind (arith, common_steps) steps 400000

pub returns-clause-nothing : goal.returns-clause-nothing
returns-clause-nothing g c = grind (arith, common_steps)
