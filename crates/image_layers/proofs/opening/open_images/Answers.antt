use Rattle.std.proofs.Common.{◌≡◌, ◌∙◌, ℕ, List, [], get_or, map, drop, rules, subst, sym, take, ◌+◌, arith}
use Rattle.std.proofs.lemmas.Grind.{common_steps}
use Rattle.std.specs.Prelude.{string_bytes}
use Rattle.std.proofs.lemmas.List.{map_more}
use Rattle.std.proofs.lemmas.List.Elements.{All-push}
use Rattle.image_layers.proofs.Images.{first_asked, image_part, names_at, one_more}
use Rattle.image_layers.specs.Images.{AsksPart, AsksUpTo, OpensImageDisk, TellsImage, opening}
use Rattle.image_layers.proofs.opening.open_images.Goals as goal

pub loop-name-preserved : goal.loop-name-preserved
loop-name-preserved g c =
    let here : get_or c.args.names.now c.loop-name.name-index c.name-item.result ≡ c.name-item.result = search (rules, c.name-item.is) in
    let more = map_more string_bytes c.args.names.now c.loop-name.name-index c.name-item.result c.loop-name-test.true in
    let disk = c.in_ok-open_image.field-0 in
    let middle = opening c.loop-name.opener c.loop-name.files.items in
    let new = opening c.open_image.new.opener c.open_image.new.files.items in
    let P : List ℕ → Type 0 = λ name. OpensImageDisk g.O.Opener g.O.File.ImageFile c.args.changes name disk middle new in
    record {
      opens = rw (more, here, c.in_ok-push.ensures.items)
          (one_more g.O.Opener g.O.File.ImageFile c.args.changes _ _ _ disk (opening c.args.opener.now []) middle new
          c.loop-name.invariant.opens (subst P c.as_str.ensures.value c.in_ok-open_image.ensures.opens));
      tells = rw c.in_ok-push.ensures.items (All-push (TellsImage g.O.File.ImageFile.told) c.loop-name.disks.items disk c.loop-name.invariant.tells c.in_ok-open_image.ensures.tells);
      told = c.open_image.ensures.told ∙ c.loop-name.invariant.told;
    }

pub returns-in_err-open_image-clause-asked_part : goal.returns-in_err-open_image-clause-asked_part
returns-in_err-open_image-clause-asked_part g c =
    let here : get_or c.args.names.now c.loop-name.name-index c.name-item.result ≡ c.name-item.result = search (rules, c.name-item.is) in
    let names = names_at string_bytes c.args.names.now c.loop-name.name-index c.name-item.result c.loop-name-test.true here in
    let P : List ℕ → Type 0 = λ name. AsksPart g.O.Opener.asked c.args.changes name c.loop-name.opener c.open_image.new.opener in
    let Q : List (List ℕ) → Type 0 = λ names. AsksUpTo g.O.Opener.asked c.args.changes names c.args.opener.now c.open_image.new.opener in
    let asked = subst Q (sym names) (first_asked g.O.Opener g.O.File.ImageFile c.args.changes
    (map string_bytes (take c.loop-name.name-index c.args.names.now)) (string_bytes c.name-item.result) (map string_bytes (drop (c.loop-name.name-index + 1) c.args.names.now)) c.loop-name.disks.items
    (opening c.args.opener.now []) (opening c.loop-name.opener c.loop-name.files.items) c.open_image.new.opener c.loop-name.invariant.opens (subst P c.as_str.ensures.value c.in_err-open_image.ensures.asked_part)) in
    search (rules, asked)

pub returns-in_err-push-clause-asked_part : goal.returns-in_err-push-clause-asked_part
returns-in_err-push-clause-asked_part g c =
    let here : get_or c.args.names.now c.loop-name.name-index c.name-item.result ≡ c.name-item.result = search (rules, c.name-item.is) in
    let names = names_at string_bytes c.args.names.now c.loop-name.name-index c.name-item.result c.loop-name-test.true here in
    let disk = c.in_ok-open_image.field-0 in
    let middle = opening c.loop-name.opener c.loop-name.files.items in
    let new = opening c.open_image.new.opener c.open_image.new.files.items in
    let P : List ℕ → Type 0 = λ name. AsksPart g.O.Opener.asked c.args.changes name c.loop-name.opener c.open_image.new.opener in
    let part = image_part g.O.Opener g.O.File.ImageFile c.args.changes _ disk middle new c.in_ok-open_image.ensures.opens in
    let Q : List (List ℕ) → Type 0 = λ names. AsksUpTo g.O.Opener.asked c.args.changes names c.args.opener.now c.open_image.new.opener in
    let asked = subst Q (sym names) (first_asked g.O.Opener g.O.File.ImageFile c.args.changes
    (map string_bytes (take c.loop-name.name-index c.args.names.now)) (string_bytes c.name-item.result) (map string_bytes (drop (c.loop-name.name-index + 1) c.args.names.now)) c.loop-name.disks.items
    (opening c.args.opener.now []) middle c.open_image.new.opener c.loop-name.invariant.opens (subst P c.as_str.ensures.value part)) in
    search (rules, asked)

pub returns-in_err-open_image-clause-opens : goal.returns-in_err-open_image-clause-opens
returns-in_err-open_image-clause-opens g c = grind (arith, common_steps)

pub returns-in_err-open_image-clause-tells : goal.returns-in_err-open_image-clause-tells
returns-in_err-open_image-clause-tells g c = grind (arith, common_steps)

pub returns-in_err-open_image-clause-told : goal.returns-in_err-open_image-clause-told
returns-in_err-open_image-clause-told g c = grind (arith, common_steps) steps 400000

pub returns-in_err-push-clause-opens : goal.returns-in_err-push-clause-opens
returns-in_err-push-clause-opens g c = grind (arith, common_steps)

pub returns-in_err-push-clause-tells : goal.returns-in_err-push-clause-tells
returns-in_err-push-clause-tells g c = grind (arith, common_steps)

pub returns-in_err-push-clause-told : goal.returns-in_err-push-clause-told
returns-in_err-push-clause-told g c = grind (arith, common_steps)

pub returns-clause-opens : goal.returns-clause-opens
returns-clause-opens g c = grind (arith, common_steps)

pub returns-clause-tells : goal.returns-clause-tells
returns-clause-tells g c = grind (arith, common_steps) steps 400000

pub returns-clause-told : goal.returns-clause-told
returns-clause-told g c = grind (arith, common_steps) steps 400000

pub returns-clause-asked_part : goal.returns-clause-asked_part
returns-clause-asked_part g c = grind (arith, common_steps) steps 400000
