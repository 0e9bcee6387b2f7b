use Rattle.image_layers.specs.Images.{opening}
use Rattle.image_layers.proofs.Images.{any_refusal, join_asked, joined, plain_asked, rest_asked, tells_behind, tells_join}
use Rattle.image_layers.proofs.image_disks.open_image.Goals as goal

pub returns-in-Err-clause-asked_part : goal.returns-in-Err-clause-asked_part
returns-in-Err-clause-asked_part g c = plain_asked g.O.Opener.asked c.args.changes c.args.name.now c.args.opener.now c.open_named.new.opener c.in-Whole.ensures c.open_named.ensures.asked

pub returns-in-Ok-open_named-clause-asked_part : goal.returns-in-Ok-open_named-clause-asked_part
returns-in-Ok-open_named-clause-asked_part g c =
    any_refusal c.wait_for.result _ (rest_asked g.O.Opener.asked c.args.changes c.args.name.now c.in-Behind.rest.now c.args.opener.now c.open_named-in-Behind.new.opener c.in-Behind.ensures c.open_named-in-Behind.ensures.asked)

pub returns-in-Err-open_named-clause-asked_part : goal.returns-in-Err-open_named-clause-asked_part
returns-in-Err-open_named-clause-asked_part g c =
    rest_asked g.O.Opener.asked c.args.changes c.args.name.now c.in-Behind.rest.now c.args.opener.now c.open_named-in-Behind.new.opener c.in-Behind.ensures c.open_named-in-Behind.ensures.asked

pub returns-in-Ok-open_both-clause-opens : goal.returns-in-Ok-open_both-clause-opens
returns-in-Ok-open_both-clause-opens g c =
    joined g.O.Opener g.O.File.ImageFile c.args.changes c.args.name.now c.in-Join.first.now c.in-Join.second.now c.in-Ok-open_both.first c.in-Ok-open_both.second c.join.result
    (opening c.args.opener.now c.args.files.now.items) (opening c.open_both.new.opener c.open_both.new.files.items) c.in-Join.ensures c.join.ensures c.in-Ok-open_both.ensures.opens

pub returns-in-Err-open_both-clause-asked_part : goal.returns-in-Err-open_both-clause-asked_part
returns-in-Err-open_both-clause-asked_part g c =
    join_asked g.O.Opener.asked c.args.changes c.args.name.now c.in-Join.first.now c.in-Join.second.now c.args.opener.now c.open_both.new.opener c.in-Join.ensures c.in-Err-open_both.ensures.asked_part

pub returns-in-Ok-open_named-clause-tells : goal.returns-in-Ok-open_named-clause-tells
returns-in-Ok-open_named-clause-tells g c =
    tells_behind g.O.File.ImageFile.told c.in-Ok-open_named.disk c.wait_for.result c.wait_for.ensures c.in-Ok-open_named.ensures.tells

pub returns-in-Ok-open_both-clause-tells : goal.returns-in-Ok-open_both-clause-tells
returns-in-Ok-open_both-clause-tells g c =
    tells_join g.O.File.ImageFile.told c.in-Ok-open_both.first c.in-Ok-open_both.second c.join.result c.join.ensures c.in-Ok-open_both.ensures.tells.0 c.in-Ok-open_both.ensures.tells.1
