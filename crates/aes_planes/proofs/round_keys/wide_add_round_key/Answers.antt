use Rattle.std.proofs.Common.{bit_xor, refl, ◌∷◌, []}
use Rattle.aes_planes.proofs.WideLaws.{long-zip2, xored}
use Rattle.aes_planes.proofs.round_keys.wide_add_round_key.Goals as goal

pub returns-clause-sides : goal.returns-clause-sides
returns-clause-sides c = λ i li.
    let p7 = xored i c.args.q.b7 c.wide_plane.result _ _ refl (c.wide_plane.ensures.sides i li) in
    let p6 = xored i c.args.q.b6 c.wide_plane-2.result _ _ refl (c.wide_plane-2.ensures.sides i li) in
    let p5 = xored i c.args.q.b5 c.wide_plane-3.result _ _ refl (c.wide_plane-3.ensures.sides i li) in
    let p4 = xored i c.args.q.b4 c.wide_plane-4.result _ _ refl (c.wide_plane-4.ensures.sides i li) in
    let p3 = xored i c.args.q.b3 c.wide_plane-5.result _ _ refl (c.wide_plane-5.ensures.sides i li) in
    let p2 = xored i c.args.q.b2 c.wide_plane-6.result _ _ refl (c.wide_plane-6.ensures.sides i li) in
    let p1 = xored i c.args.q.b1 c.wide_plane-7.result _ _ refl (c.wide_plane-7.ensures.sides i li) in
    let p0 = xored i c.args.q.b0 c.wide_plane-8.result _ _ refl (c.wide_plane-8.ensures.sides i li) in
    (λ t. p7 t ∷ p6 t ∷ p5 t ∷ p4 t ∷ p3 t ∷ p2 t ∷ p1 t ∷ p0 t ∷ [])

pub returns-clause-wide : goal.returns-clause-wide
returns-clause-wide c = record {
  l7 = long-zip2 bit_xor c.args.q.b7 c.wide_plane.result c.requires.l7 c.wide_plane.ensures.long;
  l6 = long-zip2 bit_xor c.args.q.b6 c.wide_plane-2.result c.requires.l6 c.wide_plane-2.ensures.long;
  l5 = long-zip2 bit_xor c.args.q.b5 c.wide_plane-3.result c.requires.l5 c.wide_plane-3.ensures.long;
  l4 = long-zip2 bit_xor c.args.q.b4 c.wide_plane-4.result c.requires.l4 c.wide_plane-4.ensures.long;
  l3 = long-zip2 bit_xor c.args.q.b3 c.wide_plane-5.result c.requires.l3 c.wide_plane-5.ensures.long;
  l2 = long-zip2 bit_xor c.args.q.b2 c.wide_plane-6.result c.requires.l2 c.wide_plane-6.ensures.long;
  l1 = long-zip2 bit_xor c.args.q.b1 c.wide_plane-7.result c.requires.l1 c.wide_plane-7.ensures.long;
  l0 = long-zip2 bit_xor c.args.q.b0 c.wide_plane-8.result c.requires.l0 c.wide_plane-8.ensures.long;
}
