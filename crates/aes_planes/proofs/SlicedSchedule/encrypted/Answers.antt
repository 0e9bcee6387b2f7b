use Rattle.std.proofs.Common.{◌≡◌, ℕ, ◌+◌, ◌-◌, List, ap, ◌∙◌, arith}
use Rattle.aes_core.specs.Aes.{rounds, enciphered, encrypt}
use Rattle.aes_core.proofs.Keys.{enciphered-padded}
use Rattle.aes_planes.specs.Blocks.{vector_at}
use Rattle.aes_planes.proofs.SlicedSchedule.encrypted.Goals as goal

pub returns : goal.returns
returns c =
    λ j lj.
    let key : List ℕ = c.self.inside.schedule in
    let few = c.rounds.ensures.few in
    let value = c.rounds.ensures.value in
    let count : c.rounds.result - 2 + 1 ≡ rounds key - 1 = omega (arith, few.0, value) in
    c.encipher.ensures j lj
    ∙ (λ i. enciphered (c.round_keys.ensures i) (count i) (vector_at c.args.q j))
    ∙ enciphered-padded key (vector_at c.args.q j) c.is_of_a_key.ensures
    ∙ ap (λ (k : List ℕ). encrypt k (vector_at c.args.q j)) c.self.view_is
