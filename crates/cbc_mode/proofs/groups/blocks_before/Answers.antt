use Rattle.std.proofs.Common.{◌≡◌, ℕ, zero, suc, ◌+◌, ◌<◌, ◌∙◌, arith}
use Rattle.aes_planes.specs.Blocks.{vector_at}
use Rattle.aes_planes.specs.Wide.{side}
use Rattle.aes_planes.specs.declared.vectors.WidePlanes.{WidePlanes}
use Rattle.aes_planes.proofs.BlockLaws.{eight}
use Rattle.cbc_mode.proofs.groups.blocks_before.Goals as goal

pub returns-clause-first : goal.returns-clause-first
returns-clause-first c = c.chained-8.ensures.first ∙ c.pair.ensures.second

-- what holds of each number below seven
seven : (P : ℕ → Type 0) → P 0 → P 1 → P 2 → P 3 → P 4 → P 5 → P 6 → (j : ℕ) → j < 7 → P j
seven P a b c d e f g zero lt = a
seven P a b c d e f g (suc zero) lt = b
seven P a b c d e f g (suc (suc zero)) lt = c
seven P a b c d e f g (suc (suc (suc zero))) lt = d
seven P a b c d e f g (suc (suc (suc (suc zero)))) lt = e
seven P a b c d e f g (suc (suc (suc (suc (suc zero))))) lt = f
seven P a b c d e f g (suc (suc (suc (suc (suc (suc zero)))))) lt = g
seven P a b c d e f g (suc (suc (suc (suc (suc (suc (suc n))))))) lt = absurd (omega arith)

pub returns-clause-even : goal.returns-clause-even
returns-clause-even c =
    let m : WidePlanes = record { b7 = c.chained.result; b6 = c.chained-2.result; b5 = c.chained-3.result; b4 = c.chained-4.result; b3 = c.chained-5.result; b2 = c.chained-6.result; b1 = c.chained-7.result; b0 = c.chained-8.result } in
    seven (λ j. vector_at (side 0 m) (j + 1) ≡ vector_at (side 1 c.args.cipher) j) c.chained-7.ensures.first c.chained-6.ensures.first c.chained-5.ensures.first c.chained-4.ensures.first c.chained-3.ensures.first c.chained-2.ensures.first c.chained.ensures.first

pub returns-clause-odd : goal.returns-clause-odd
returns-clause-odd c =
    let m : WidePlanes = record { b7 = c.chained.result; b6 = c.chained-2.result; b5 = c.chained-3.result; b4 = c.chained-4.result; b3 = c.chained-5.result; b2 = c.chained-6.result; b1 = c.chained-7.result; b0 = c.chained-8.result } in
    eight (λ j. vector_at (side 1 m) j ≡ vector_at (side 0 c.args.cipher) j) c.chained-8.ensures.second c.chained-7.ensures.second c.chained-6.ensures.second c.chained-5.ensures.second c.chained-4.ensures.second c.chained-3.ensures.second c.chained-2.ensures.second c.chained.ensures.second

pub returns-clause-wide : goal.returns-clause-wide
returns-clause-wide c = record { l7 = c.chained.ensures.long; l6 = c.chained-2.ensures.long; l5 = c.chained-3.ensures.long; l4 = c.chained-4.ensures.long; l3 = c.chained-5.ensures.long; l2 = c.chained-6.ensures.long; l1 = c.chained-7.ensures.long; l0 = c.chained-8.ensures.long }
