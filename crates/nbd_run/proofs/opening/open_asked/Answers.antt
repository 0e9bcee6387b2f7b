-- Of one name one disk is opened.
use Rattle.std.proofs.Common.{◌∙◌, arith, rules, string_bytes}
use Rattle.std.proofs.lemmas.List.{length-map}
use Rattle.image_layers.proofs.Images.{as_many}
use Rattle.nbd_run.proofs.One.{only, part_of_one}
use Rattle.nbd_run.proofs.opening.open_asked.Goals as goal

pub remove-disk-requires : goal.remove-disk-requires
remove-disk-requires g c =
    let opened = c.in_ok-disks.field-0 in
    let one = as_many g.O.Opener g.O.File.ImageFile _ _ opened.disks.items _ _ c.in_ok-disks.ensures.opens.images
    ∙ length-map c.from_ref-names.result.now string_bytes ∙ c.from_ref-names.ensures.len in
    omega (arith, one, opened.disks.ok.0)

pub returns-clause-opens : goal.returns-clause-opens
returns-clause-opens g c =
    let opened = c.in_ok-disks.field-0 in
    let one = as_many g.O.Opener g.O.File.ImageFile _ _ opened.disks.items _ _ c.in_ok-disks.ensures.opens.images
    ∙ length-map c.from_ref-names.result.now string_bytes ∙ c.from_ref-names.ensures.len in
    let disks = only opened.disks.items c.remove-disk.result one c.remove-disk.ensures.value in
    let opens = rw (disks, c.from_ref-names.ensures.value) at c.in_ok-disks.ensures.opens in
    search (rules, opens)

pub returns-clause-tells : goal.returns-clause-tells
returns-clause-tells g c =
    let opened = c.in_ok-disks.field-0 in
    let one = as_many g.O.Opener g.O.File.ImageFile _ _ opened.disks.items _ _ c.in_ok-disks.ensures.opens.images
    ∙ length-map c.from_ref-names.result.now string_bytes ∙ c.from_ref-names.ensures.len in
    let disks = only opened.disks.items c.remove-disk.result one c.remove-disk.ensures.value in
    let tells = rw disks at c.in_ok-disks.ensures.tells in
    tells 0 c.remove-disk.result (omega arith)

pub returns-in_err-disks-clause-asked_part : goal.returns-in_err-disks-clause-asked_part
returns-in_err-disks-clause-asked_part g c =
    let asked = rw c.from_ref-names.ensures.value at c.in_err-disks.ensures.asked_part in
    let part = part_of_one g.O.Opener.asked _ (string_bytes c.args.asked.now.name) c.args.opener _ asked in
    search (rules, part)
