use Rattle.std.proofs.Common.{◌+◌, ◌-◌, ◌/◌, ◌%◌, arith}
use Rattle.std.proofs.lemmas.Grind.{common_steps}
use Rattle.std.proofs.Math.Nat.{mul-mod_left}
use Rattle.byte_ranges.proofs.cover.cover_of.Goals as goal

pub returns-clause-rest : goal.returns-clause-rest
returns-clause-rest c = mul-mod_left ((c.args.offset % c.args.size + c.args.bytes + (c.args.size - 1)) / c.args.size) c.args.size

pub returns-clause-first : goal.returns-clause-first
returns-clause-first c = grind (arith, common_steps) steps 400000

pub returns-clause-skip : goal.returns-clause-skip
returns-clause-skip c = grind (arith, common_steps) steps 400000

pub returns-clause-count : goal.returns-clause-count
returns-clause-count c = grind (arith, common_steps) steps 400000

pub returns-clause-whole : goal.returns-clause-whole
returns-clause-whole c = grind (arith, common_steps) steps 400000

pub returns-clause-within : goal.returns-clause-within
returns-clause-within c = grind (arith, common_steps) steps 400000

pub returns-clause-some : goal.returns-clause-some
returns-clause-some c = grind (arith, common_steps) steps 400000

pub returns-clause-covers : goal.returns-clause-covers
returns-clause-covers c = grind (arith, common_steps) steps 400000

pub returns-clause-least : goal.returns-clause-least
returns-clause-least c = grind (arith, common_steps) steps 400000
