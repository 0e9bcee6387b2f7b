use Rattle.std.proofs.Common.{bit_xor, List, ℕ, ◌∷◌, []}
use Rattle.std.specs.Simd.Lanes.{zip2}
use Rattle.aes_planes.proofs.columns.mix_columns.Goals as goal

pub returns : goal.returns
returns c = λ k.
    let x : List ℕ → List ℕ → List ℕ = zip2 bit_xor in
    let w0 = c.sums-s0.ensures.with_next k in
    let w1 = c.sums-s1.ensures.with_next k in
    let w2 = c.sums-s2.ensures.with_next k in
    let w3 = c.sums-s3.ensures.with_next k in
    let w7 = c.sums-s7.ensures.with_next k in
    x (c.sums-s7.ensures.others k) (c.sums-s6.ensures.with_next k)
    ∷ x (c.sums-s6.ensures.others k) (c.sums-s5.ensures.with_next k)
    ∷ x (c.sums-s5.ensures.others k) (c.sums-s4.ensures.with_next k)
    ∷ x (x (c.sums-s4.ensures.others k) w3) w7 ∷ x (x (c.sums-s3.ensures.others k) w2) w7
    ∷ x (c.sums-s2.ensures.others k) w1 ∷ x (x (c.sums-s1.ensures.others k) w0) w7 ∷ x (c.sums-s0.ensures.others k) w7 ∷ []
