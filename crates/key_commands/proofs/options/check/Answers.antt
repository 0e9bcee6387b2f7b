use Rattle.std.proofs.Common.{◌≡◌, ◌==◌, ◌*◌, ◌∙◌, ap, sym, true, false, Some, [], arith, rules, to_z, of_z}
use Rattle.std.proofs.lemmas.Grind.{common_steps}
use Rattle.std.proofs.lemmas.Int.{to_z-of_z}
use Rattle.std.specs.Prelude.{FitsSigned}
use Rattle.std.specs.Int.{w32}
use Rattle.eli_base.specs.Algorithms.{allows_length}
use Rattle.eli_base.specs.SectorSize.{is_sector_size}
use Rattle.eli_base.specs.Units.{media_sectors}
use Rattle.key_commands.proofs.Keys.{early_refusal-key, key_refusal-fault}
use Rattle.key_commands.proofs.options.check.Goals as goal

pub returns-in-Some-clause-err : goal.returns-in-Some-clause-err
returns-in-Some-clause-err c =
    let o = c.args.options.now in
    let allowed : allows_length o.cipher o.keylen ≡ true = grind (arith, common_steps) in
    let sized : is_sector_size o.sectorsize ≡ true = grind (arith, common_steps) in
    let some : (media_sectors o.auth o.sectorsize (512 * c.args.sectors) == 0) ≡ false = grind (arith, common_steps) in
    let range : FitsSigned w32 o.iterations = search rules in
    let same : to_z w32 (of_z w32 o.iterations) ≡ o.iterations = to_z-of_z w32 o.iterations range in
    early_refusal-key o c.args.parts.now c.args.sectors allowed sized some
    ∙ key_refusal-fault _ c.in-Some.fault (sym (rw same at (c.refusal.ensures [])) ∙ c.in-Some.is)
    ∙ ap Some (sym c.from.ensures)
