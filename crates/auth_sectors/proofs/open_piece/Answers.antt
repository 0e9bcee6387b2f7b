use Rattle.std.proofs.Common.{length, arith, ◌∙◌}
use Rattle.std.proofs.lemmas.Grind.{common_steps}
use Rattle.auth_sectors.proofs.Openings.{tag_tells}
use Rattle.auth_sectors.proofs.open_piece.Goals as goal

pub open_accepted-requires-clause-accepted : goal.open_accepted-requires-clause-accepted
open_accepted-requires-clause-accepted c =
    tag_tells c.args.ring.now.keying c.args.offset c.tag_size-size.result (length c.args.out.now) c.args.from.now _ c.has_tag.result (omega arith) c.tag_size-size.ensures
    c.tag_of-computed.ensures c.has_tag.ensures ∙ c.if-not-has_tag.false

pub returns-then-not-has_tag-clause-mismatch : goal.returns-then-not-has_tag-clause-mismatch
returns-then-not-has_tag-clause-mismatch c = grind (arith, common_steps)

pub returns-then-not-has_tag-clause-keying : goal.returns-then-not-has_tag-clause-keying
returns-then-not-has_tag-clause-keying c = grind (arith, common_steps) steps 400000

pub returns-clause-opened : goal.returns-clause-opened
returns-clause-opened c = grind (arith, common_steps) steps 400000

pub returns-clause-mismatch : goal.returns-clause-mismatch
returns-clause-mismatch c = grind (arith, common_steps) steps 400000

pub returns-clause-keying : goal.returns-clause-keying
returns-clause-keying c = grind (arith, common_steps) steps 400000
