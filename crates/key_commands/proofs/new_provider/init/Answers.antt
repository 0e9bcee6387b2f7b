use Rattle.std.proofs.Common.{◌≡◌, ℕ, Some, refl, subst, sym, rules, to_z, of_z, arith}
use Rattle.std.proofs.lemmas.Grind.{common_steps}
use Rattle.std.specs.Prelude.{FitsSigned}
use Rattle.std.specs.Int.{w32}
use Rattle.std.proofs.lemmas.Int.{to_z-of_z}
use Rattle.std.proofs.lemmas.Result.{err_from_is_err_and}
use Rattle.key_commands.specs.NewProvider.{MakesMetadata}
use Rattle.key_commands.specs.Options.{early_refusal}
use Rattle.key_commands.proofs.Making.{Inits-refused, makes}
use Rattle.key_commands.proofs.new_provider.init.Goals as goal

pub returns-in_err-check : goal.returns-in_err-check
returns-in_err-check g c =
    let refusal = c.in_err-check.field-0.0 in
    let P : ℕ → Type 0 = λ n. early_refusal c.args.options.now c.args.parts.now n ≡ Some refusal in
    let p = err_from_is_err_and c.from_residual.result c.from_residual.ensures.1 in
    rw (p.1, p.2) (Inits-refused _ _ _ _ _ _ refusal (record { cause = subst P c.sectors-sectors.ensures c.in_err-check.ensures.err; disk_unchanged = refl; entropy_unchanged = refl }))

pub metadata_of-meta-requires-clause-small : goal.metadata_of-meta-requires-clause-small
metadata_of-meta-requires-clause-small g c = rw c.sectors-sectors.ensures (g.D.Disk.state c.args.disk.now).well_formed.bound

pub returns-in-Ok-replace_metadata : goal.returns-in-Ok-replace_metadata
returns-in-Ok-replace_metadata g c =
    let m = c.metadata_of-meta.result in
    let z = c.args.options.now.iterations in
    let range : FitsSigned w32 z = search rules in
    let same : to_z w32 (of_z w32 z) ≡ z = to_z-of_z w32 z range in
    let derived = rw same at (sym c.in-Ok-derive.ensures) in
    let P : ℕ → Type 0 =
    λ n. MakesMetadata c.args.options.now c.args.parts.now n (g.E.Entropy.state c.args.entropy.now) m (g.E.Entropy.state c.draw.new.entropy) in
    let made = makes c.args.options.now c.args.parts.now c.sectors-sectors.result c.in-Ok.random c.in-Ok-derive.key m _ _
    c.in_ok-check.ensures.ok c.in-Ok.ensures.ok derived c.metadata_of-meta.ensures.fields c.metadata_of-meta.ensures.whole in
    record { makes = subst P c.sectors-sectors.ensures made; logs = c.in-Ok-replace_metadata.ensures.ok; unasked = c.replace_metadata.ensures.unasked }

pub returns-in-Err : goal.returns-in-Err
returns-in-Err g c =
    let m = c.metadata_of-meta.result in
    let z = c.args.options.now.iterations in
    let range : FitsSigned w32 z = search rules in
    let same : to_z w32 (of_z w32 z) ≡ z = to_z-of_z w32 z range in
    let derived = rw same at (sym c.in-Ok-derive.ensures) in
    let P : ℕ → Type 0 =
    λ n. MakesMetadata c.args.options.now c.args.parts.now n (g.E.Entropy.state c.args.entropy.now) m (g.E.Entropy.state c.draw.new.entropy) in
    let made = makes c.args.options.now c.args.parts.now c.sectors-sectors.result c.in-Ok.random c.in-Ok-derive.key m _ _
    c.in_ok-check.ensures.ok c.in-Ok.ensures.ok derived c.metadata_of-meta.ensures.fields c.metadata_of-meta.ensures.whole in
    record { m = m; makes = subst P c.sectors-sectors.ensures made; fails = c.in-Err.ensures.err; unasked = c.replace_metadata.ensures.unasked }

pub returns-in_default : goal.returns-in_default
returns-in_default g c = grind (arith, common_steps) steps 400000
