use Rattle.std.proofs.Common.{arith}
use Rattle.std.proofs.lemmas.Grind.{common_steps}
use Rattle.provider.proofs.Ranges.{request_inside}
use Rattle.provider.proofs.provider.Provider.open_from.Goals as goal

pub open_sectors-answer-requires-clause-place : goal.open_sectors-answer-requires-clause-place
open_sectors-answer-requires-clause-place g c =
    let at = rw (← c.self.view_is) at c.requires.inside in
    let d = g.D.Disk.state c.self.inside.disk in
    rw c.get_mut.ensures.value (omega (arith, request_inside c.self.inside.ring.keying c.args.sector _ d.size at, d.well_formed.bound))

pub returns-clause-cleared : goal.returns-clause-cleared
returns-clause-cleared g c = grind (arith, common_steps)
