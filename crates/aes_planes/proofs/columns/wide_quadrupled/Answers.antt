use Rattle.std.proofs.Common.{bit_xor, refl, ◌∷◌, []}
use Rattle.aes_core.specs.Blocks.{block}
use Rattle.aes_planes.proofs.WideLaws.{block-zip2, long-zip2, xored}
use Rattle.aes_planes.proofs.columns.wide_quadrupled.Goals as goal

pub returns-clause-sides : goal.returns-clause-sides
returns-clause-sides c = λ i li.
    let both = block-zip2 bit_xor i c.args.q.b6 c.args.q.b7 in
    let p4 = xored i c.args.q.b2 _ (block c.args.q.b2 i) _ refl both in
    (λ t. block c.args.q.b5 i ∷ block c.args.q.b4 i ∷ block-zip2 bit_xor i c.args.q.b3 c.args.q.b7 t ∷ p4 t ∷ block-zip2 bit_xor i c.args.q.b1 c.args.q.b6 t ∷ block-zip2 bit_xor i c.args.q.b0 c.args.q.b7 t ∷ both t ∷ block c.args.q.b6 i ∷ [])

pub returns-clause-wide : goal.returns-clause-wide
returns-clause-wide c =
    let both = long-zip2 bit_xor c.args.q.b6 c.args.q.b7 c.requires.l6 c.requires.l7 in
    record {
      l7 = c.requires.l5;
      l6 = c.requires.l4;
      l5 = long-zip2 bit_xor c.args.q.b3 c.args.q.b7 c.requires.l3 c.requires.l7;
      l4 = long-zip2 bit_xor c.args.q.b2 _ c.requires.l2 both;
      l3 = long-zip2 bit_xor c.args.q.b1 c.args.q.b6 c.requires.l1 c.requires.l6;
      l2 = long-zip2 bit_xor c.args.q.b0 c.args.q.b7 c.requires.l0 c.requires.l7;
      l1 = both;
      l0 = c.requires.l6;
    }
