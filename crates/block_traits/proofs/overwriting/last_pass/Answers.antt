use Rattle.std.proofs.Common.{◌∙◌, ℕ, ap, replicate}
use Rattle.std.proofs.lemmas.List.{take-replicate}
use Rattle.block_traits.specs.Overwriting.{zeros}
use Rattle.block_traits.proofs.overwriting.last_pass.Goals as goal

pub returns : goal.returns
unfolding zeros
returns g c =
    c.sector.ensures
    ∙ ap (g.S.Pass.sector c.args.pass.now) (take-replicate {X = ℕ} c.size.result 512 0 c.size.ensures.bound ∙ ap (λ (n : ℕ). replicate {A = ℕ} n 0) c.size.ensures.size)
