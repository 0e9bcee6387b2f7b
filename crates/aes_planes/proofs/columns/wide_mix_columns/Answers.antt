use Rattle.std.proofs.Common.{bit_xor, ◌∷◌, []}
use Rattle.aes_planes.proofs.WideLaws.{long-zip2, xored}
use Rattle.aes_planes.proofs.columns.wide_mix_columns.Goals as goal

pub returns-clause-sides : goal.returns-clause-sides
returns-clause-sides c = λ i li.
    let p7 = xored i c.wide_sums-s7.result.others c.wide_sums-s6.result.with_next _ _ (c.wide_sums-s7.ensures.others i li) (c.wide_sums-s6.ensures.with_next i li) in
    let p6 = xored i c.wide_sums-s6.result.others c.wide_sums-s5.result.with_next _ _ (c.wide_sums-s6.ensures.others i li) (c.wide_sums-s5.ensures.with_next i li) in
    let p5 = xored i c.wide_sums-s5.result.others c.wide_sums-s4.result.with_next _ _ (c.wide_sums-s5.ensures.others i li) (c.wide_sums-s4.ensures.with_next i li) in
    let p4 = xored i _ c.wide_sums-s7.result.with_next _ _ (xored i c.wide_sums-s4.result.others c.wide_sums-s3.result.with_next _ _ (c.wide_sums-s4.ensures.others i li) (c.wide_sums-s3.ensures.with_next i li)) (c.wide_sums-s7.ensures.with_next i li) in
    let p3 = xored i _ c.wide_sums-s7.result.with_next _ _ (xored i c.wide_sums-s3.result.others c.wide_sums-s2.result.with_next _ _ (c.wide_sums-s3.ensures.others i li) (c.wide_sums-s2.ensures.with_next i li)) (c.wide_sums-s7.ensures.with_next i li) in
    let p2 = xored i c.wide_sums-s2.result.others c.wide_sums-s1.result.with_next _ _ (c.wide_sums-s2.ensures.others i li) (c.wide_sums-s1.ensures.with_next i li) in
    let p1 = xored i _ c.wide_sums-s7.result.with_next _ _ (xored i c.wide_sums-s1.result.others c.wide_sums-s0.result.with_next _ _ (c.wide_sums-s1.ensures.others i li) (c.wide_sums-s0.ensures.with_next i li)) (c.wide_sums-s7.ensures.with_next i li) in
    let p0 = xored i c.wide_sums-s0.result.others c.wide_sums-s7.result.with_next _ _ (c.wide_sums-s0.ensures.others i li) (c.wide_sums-s7.ensures.with_next i li) in
    (λ t. p7 t ∷ p6 t ∷ p5 t ∷ p4 t ∷ p3 t ∷ p2 t ∷ p1 t ∷ p0 t ∷ [])

pub returns-clause-wide : goal.returns-clause-wide
returns-clause-wide c = record {
  l7 = long-zip2 bit_xor c.wide_sums-s7.result.others c.wide_sums-s6.result.with_next c.wide_sums-s7.ensures.long.1 c.wide_sums-s6.ensures.long.0;
  l6 = long-zip2 bit_xor c.wide_sums-s6.result.others c.wide_sums-s5.result.with_next c.wide_sums-s6.ensures.long.1 c.wide_sums-s5.ensures.long.0;
  l5 = long-zip2 bit_xor c.wide_sums-s5.result.others c.wide_sums-s4.result.with_next c.wide_sums-s5.ensures.long.1 c.wide_sums-s4.ensures.long.0;
  l4 = long-zip2 bit_xor _ c.wide_sums-s7.result.with_next (long-zip2 bit_xor c.wide_sums-s4.result.others c.wide_sums-s3.result.with_next c.wide_sums-s4.ensures.long.1 c.wide_sums-s3.ensures.long.0) c.wide_sums-s7.ensures.long.0;
  l3 = long-zip2 bit_xor _ c.wide_sums-s7.result.with_next (long-zip2 bit_xor c.wide_sums-s3.result.others c.wide_sums-s2.result.with_next c.wide_sums-s3.ensures.long.1 c.wide_sums-s2.ensures.long.0) c.wide_sums-s7.ensures.long.0;
  l2 = long-zip2 bit_xor c.wide_sums-s2.result.others c.wide_sums-s1.result.with_next c.wide_sums-s2.ensures.long.1 c.wide_sums-s1.ensures.long.0;
  l1 = long-zip2 bit_xor _ c.wide_sums-s7.result.with_next (long-zip2 bit_xor c.wide_sums-s1.result.others c.wide_sums-s0.result.with_next c.wide_sums-s1.ensures.long.1 c.wide_sums-s0.ensures.long.0) c.wide_sums-s7.ensures.long.0;
  l0 = long-zip2 bit_xor c.wide_sums-s0.result.others c.wide_sums-s7.result.with_next c.wide_sums-s0.ensures.long.1 c.wide_sums-s7.ensures.long.0;
}
