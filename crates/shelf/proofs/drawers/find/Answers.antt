use Rattle.std.proofs.Common.{◌≡◌, false, bytes_eq, rules, arith}
use Rattle.std.proofs.lemmas.Grind.{common_steps}
use Rattle.shelf.proofs.Listing.{place_behind}
use Rattle.shelf.proofs.drawers.find.Goals as goal

pub loop-place-preserved : goal.loop-place-preserved
loop-place-preserved g c =
    let drawer = c.index-drawers-place.result in
    let other : bytes_eq drawer.name c.args.name.now ≡ false = search rules in
    place_behind g.D.Disk.state c.args.name.now c.args.drawers.now c.loop-place.place drawer (search rules) c.index-drawers-place.is other c.loop-place.invariant

pub returns-then-eq-clause-found : goal.returns-then-eq-clause-found
returns-then-eq-clause-found g c = grind (arith, common_steps)

pub returns-then-eq-clause-bound : goal.returns-then-eq-clause-bound
returns-then-eq-clause-bound g c = grind (arith, common_steps) steps 400000

pub returns-clause-found : goal.returns-clause-found
returns-clause-found g c = grind (arith, common_steps)

pub returns-clause-bound : goal.returns-clause-bound
returns-clause-bound g c = grind (arith, common_steps) steps 400000
