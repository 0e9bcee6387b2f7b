use Rattle.std.proofs.Common.{◌≡◌, ℕ, map, bit_xor, refl, ◌∙◌, arith}
use Rattle.std.specs.Int.{w8, rotate_left}
use Rattle.std.specs.List.{range_with_len}
use Rattle.aes_core.specs.Aes.{inverse_affine}
use Rattle.aes_core.proofs.Boxes.{agree_at}
use Rattle.aes_core.proofs.steps.inverse_affine.Goals as goal

abbrev turned : ℕ → ℕ
turned b = bit_xor (bit_xor (bit_xor (rotate_left w8 b 1) (rotate_left w8 b 3)) (rotate_left w8 b 6)) 5

turned_is : map turned (range_with_len 0 256) ≡ map inverse_affine (range_with_len 0 256)
turned_is = refl

pub returns : goal.returns
returns c =
    (λ i. bit_xor (bit_xor (bit_xor (c.rotate_left.ensures i) (c.rotate_left-2.ensures i)) (c.rotate_left-3.ensures i)) 5)
    ∙ agree_at turned inverse_affine 256 c.args.b turned_is (omega arith)
