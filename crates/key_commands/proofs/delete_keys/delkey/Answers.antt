use Rattle.std.proofs.Common.{◌≡◌, List, ℕ, length, rules, subst, arith}
use Rattle.std.proofs.lemmas.Grind.{common_steps}
use Rattle.block_traits.specs.Disk.{FailsIn, Logs, last_sector}
use Rattle.block_traits.specs.Overwriting.{overwrite_events}
use Rattle.key_commands.specs.DeleteKeys.{Deletion}
use Rattle.key_commands.specs.Overwriting.{filler_size, pass_sectors}
use Rattle.key_commands.proofs.delete_keys.delkey.Goals as goal

pub returns-in-Ok-clause-deletes : goal.returns-in-Ok-clause-deletes
returns-in-Ok-clause-deletes g c =
    let disk = g.P.MetaPlace.state c.args.place.now in
    let disk' = g.P.MetaPlace.state c.overwrite_last.new.place in
    let asked : Deletion = record { meta = c.args.meta.now; which = c.args.which; force = c.args.force } in
    let random = c.fill.new.into in
    let size : length random ≡ filler_size asked.which = search rules in
    let P : List (List ℕ) → Type 0 = λ sectors. Logs (overwrite_events (last_sector disk) sectors) disk disk' in
    let logs = subst P {y = pass_sectors c.args.meta.now c.args.which random} c.pass_sectors.ensures.sectors c.in-Ok.ensures.ok in
    record {
      without = record { metadata = c.cleared.ensures.fields };
      random = random;
      draws = record { whole = c.pass_sectors.ensures.whole; served = search rules; size = size; taken = record { taken = search rules; later = c.fill.ensures.cause.later; asked = c.fill.ensures.asked } };
      logs = logs;
      unasked = c.overwrite_last.ensures.unasked;
    }

pub returns-in-Err-clause-deletes : goal.returns-in-Err-clause-deletes
returns-in-Err-clause-deletes g c =
    let disk = g.P.MetaPlace.state c.args.place.now in
    let disk' = g.P.MetaPlace.state c.overwrite_last.new.place in
    let asked : Deletion = record { meta = c.args.meta.now; which = c.args.which; force = c.args.force } in
    let random = c.fill.new.into in
    let size : length random ≡ filler_size asked.which = search rules in
    let P : List (List ℕ) → Type 0 = λ sectors. FailsIn (overwrite_events (last_sector disk) sectors) disk disk' in
    let fails = subst P {y = pass_sectors c.args.meta.now c.args.which random} c.pass_sectors.ensures.sectors c.in-Err.ensures.err in
    record {
      random = random;
      draws = record { whole = c.pass_sectors.ensures.whole; served = search rules; size = size; taken = record { taken = search rules; later = c.fill.ensures.cause.later; asked = c.fill.ensures.asked } };
      fails = fails;
      unasked = c.overwrite_last.ensures.unasked;
    }

pub returns-in-Some-clause-deletes : goal.returns-in-Some-clause-deletes
returns-in-Some-clause-deletes g c = grind (arith, common_steps)

pub returns-in-Some-clause-rest : goal.returns-in-Some-clause-rest
returns-in-Some-clause-rest g c = grind (arith, common_steps) steps 400000

pub returns-then-is_err-clause-deletes : goal.returns-then-is_err-clause-deletes
returns-then-is_err-clause-deletes g c = grind (arith, common_steps) steps 400000

pub returns-then-is_err-clause-rest : goal.returns-then-is_err-clause-rest
returns-then-is_err-clause-rest g c = grind (arith, common_steps) steps 400000

pub returns-in-Ok-clause-rest : goal.returns-in-Ok-clause-rest
returns-in-Ok-clause-rest g c = grind (arith, common_steps) steps 400000

pub returns-in-Err-clause-rest : goal.returns-in-Err-clause-rest
returns-in-Err-clause-rest g c = grind (arith, common_steps) steps 400000
