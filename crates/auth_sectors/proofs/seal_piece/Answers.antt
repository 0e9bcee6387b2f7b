use Rattle.std.proofs.Common.{length, refl, arith}
use Rattle.std.proofs.lemmas.Grind.{common_steps}
use Rattle.auth_sectors.proofs.UnitParts.{unit_with_tag}
use Rattle.auth_sectors.proofs.seal_piece.Goals as goal

pub returns-clause-sealed : goal.returns-clause-sealed
returns-clause-sealed c =
    let plain = c.args.plain.now in
    unit_with_tag c.args.ring.now.keying _ c.encipher.new.ring.keying c.args.offset c.tag_size-size.result (length plain) plain c.encipher.new.sector _ c.put_tag.new.sector
    refl c.encipher.ensures.keying c.tag_size-size.ensures refl c.encipher.ensures.long c.encipher.ensures.sealed c.tag_of-code.ensures c.put_tag.ensures

pub returns-clause-keying : goal.returns-clause-keying
returns-clause-keying c = grind (arith, common_steps) steps 400000
