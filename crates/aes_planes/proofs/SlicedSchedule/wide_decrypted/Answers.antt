use Rattle.std.proofs.Common.{◌≡◌, ℕ, ◌-◌, List, ap, ◌∙◌, arith}
use Rattle.aes_core.specs.Aes.{rounds, deciphered, decrypt}
use Rattle.aes_core.proofs.Keys.{deciphered-padded}
use Rattle.aes_planes.specs.Blocks.{vector_at}
use Rattle.aes_planes.specs.Wide.{side}
use Rattle.aes_planes.proofs.SlicedSchedule.wide_decrypted.Goals as goal

pub returns-clause-sides : goal.returns-clause-sides
returns-clause-sides c =
    λ i li j lj.
    let key : List ℕ = c.self.inside.schedule in
    let few = c.rounds-before.ensures.few in
    let value = c.rounds-before.ensures.value in
    let count : c.rounds-before.result - 1 ≡ rounds key - 1 = omega (arith, few.0, value) in
    c.wide_decipher.ensures.sides i li j lj
    ∙ (λ t. deciphered (c.round_keys.ensures t) (count t) (vector_at (side i c.args.q) j))
    ∙ deciphered-padded key (vector_at (side i c.args.q) j) c.is_of_a_key.ensures
    ∙ ap (λ (k : List ℕ). decrypt k (vector_at (side i c.args.q) j)) c.self.view_is
