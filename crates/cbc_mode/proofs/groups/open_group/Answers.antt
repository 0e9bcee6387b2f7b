use Rattle.std.proofs.Common.{refl, arith}
use Rattle.std.proofs.lemmas.Grind.{common_steps}
use Rattle.aes_planes.specs.declared.vectors.Planes.{Planes}
use Rattle.cbc_mode.proofs.GroupLaws.{group_opened}
use Rattle.cbc_mode.proofs.groups.open_group.Goals as goal

pub returns-clause-opened : goal.returns-clause-opened
returns-clause-opened c =
    let q : Planes = c.loaded-cipher.result in
    let m : Planes = record { b7 = q.b6; b6 = q.b5; b5 = q.b4; b4 = q.b3; b3 = q.b2; b2 = q.b1; b1 = q.b0; b0 = c.args.before.now } in
    group_opened c.args.k.now c.args.before.now q m c.decrypted.result c.summed.result c.store.new.bytes c.args.group.now c.told-before refl
    c.loaded-cipher.ensures c.decrypted.ensures c.summed.ensures c.store.ensures

pub returns-clause-last : goal.returns-clause-last
returns-clause-last c = c.loaded-cipher.ensures 7 (omega arith)

pub returns-clause-long : goal.returns-clause-long
returns-clause-long c = grind (arith, common_steps) steps 400000
