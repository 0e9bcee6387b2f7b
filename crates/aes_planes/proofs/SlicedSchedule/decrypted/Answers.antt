use Rattle.std.proofs.Common.{◌≡◌, ℕ, ◌-◌, List, ap, ◌∙◌, arith}
use Rattle.aes_core.specs.Aes.{rounds, deciphered, decrypt}
use Rattle.aes_core.proofs.Keys.{deciphered-padded}
use Rattle.aes_planes.specs.Blocks.{vector_at}
use Rattle.aes_planes.proofs.SlicedSchedule.decrypted.Goals as goal

pub returns : goal.returns
returns c =
    λ j lj.
    let key : List ℕ = c.self.inside.schedule in
    let few = c.rounds.ensures.few in
    let value = c.rounds.ensures.value in
    let count : c.rounds.result - 1 ≡ rounds key - 1 = omega (arith, few.0, value) in
    c.decipher.ensures j lj
    ∙ (λ i. deciphered (c.round_keys.ensures i) (count i) (vector_at c.args.q j))
    ∙ deciphered-padded key (vector_at c.args.q j) c.is_of_a_key.ensures
    ∙ ap (λ (k : List ℕ). decrypt k (vector_at c.args.q j)) c.self.view_is
