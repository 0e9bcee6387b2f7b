use Rattle.std.proofs.Common.{◌≡◌, ℕ, ◌+◌, ◌-◌, List, ap, ◌∙◌, arith}
use Rattle.aes_core.specs.Aes.{rounds, enciphered, encrypt}
use Rattle.aes_core.proofs.Keys.{enciphered-padded}
use Rattle.aes_planes.specs.Blocks.{vector_at}
use Rattle.aes_planes.specs.Wide.{side}
use Rattle.aes_planes.proofs.SlicedSchedule.wide_encrypted.Goals as goal

pub returns-clause-sides : goal.returns-clause-sides
returns-clause-sides c =
    λ i li j lj.
    let key : List ℕ = c.self.inside.schedule in
    let few = c.rounds-between.ensures.few in
    let value = c.rounds-between.ensures.value in
    let count : c.rounds-between.result - 2 + 1 ≡ rounds key - 1 = omega (arith, few.0, value) in
    c.wide_encipher.ensures.sides i li j lj
    ∙ (λ t. enciphered (c.round_keys.ensures t) (count t) (vector_at (side i c.args.q) j))
    ∙ enciphered-padded key (vector_at (side i c.args.q) j) c.is_of_a_key.ensures
    ∙ ap (λ (k : List ℕ). encrypt k (vector_at (side i c.args.q) j)) c.self.view_is
