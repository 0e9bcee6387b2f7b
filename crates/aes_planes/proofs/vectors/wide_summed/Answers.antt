use Rattle.std.proofs.Common.{bit_xor, ◌∷◌, []}
use Rattle.aes_planes.proofs.WideLaws.{block-zip2, long-zip2}
use Rattle.aes_planes.proofs.vectors.wide_summed.Goals as goal

pub returns-clause-wide : goal.returns-clause-wide
returns-clause-wide c = record {
  l7 = long-zip2 bit_xor c.args.q.b7 c.args.k.b7 c.requires.first.l7 c.requires.second.l7;
  l6 = long-zip2 bit_xor c.args.q.b6 c.args.k.b6 c.requires.first.l6 c.requires.second.l6;
  l5 = long-zip2 bit_xor c.args.q.b5 c.args.k.b5 c.requires.first.l5 c.requires.second.l5;
  l4 = long-zip2 bit_xor c.args.q.b4 c.args.k.b4 c.requires.first.l4 c.requires.second.l4;
  l3 = long-zip2 bit_xor c.args.q.b3 c.args.k.b3 c.requires.first.l3 c.requires.second.l3;
  l2 = long-zip2 bit_xor c.args.q.b2 c.args.k.b2 c.requires.first.l2 c.requires.second.l2;
  l1 = long-zip2 bit_xor c.args.q.b1 c.args.k.b1 c.requires.first.l1 c.requires.second.l1;
  l0 = long-zip2 bit_xor c.args.q.b0 c.args.k.b0 c.requires.first.l0 c.requires.second.l0;
}

pub returns-clause-sides : goal.returns-clause-sides
returns-clause-sides c = λ i li. (λ t. block-zip2 bit_xor i c.args.q.b7 c.args.k.b7 t ∷ block-zip2 bit_xor i c.args.q.b6 c.args.k.b6 t ∷ block-zip2 bit_xor i c.args.q.b5 c.args.k.b5 t ∷ block-zip2 bit_xor i c.args.q.b4 c.args.k.b4 t ∷ block-zip2 bit_xor i c.args.q.b3 c.args.k.b3 t ∷ block-zip2 bit_xor i c.args.q.b2 c.args.k.b2 t ∷ block-zip2 bit_xor i c.args.q.b1 c.args.k.b1 t ∷ block-zip2 bit_xor i c.args.q.b0 c.args.k.b0 t ∷ [])
