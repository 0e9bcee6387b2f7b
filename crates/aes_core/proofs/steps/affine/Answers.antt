use Rattle.std.proofs.Common.{◌≡◌, ℕ, map, bit_xor, refl, ◌∙◌, arith}
use Rattle.std.specs.Int.{w8, rotate_left}
use Rattle.std.specs.List.{range_with_len}
use Rattle.aes_core.specs.Aes.{affine}
use Rattle.aes_core.proofs.Boxes.{agree_at}
use Rattle.aes_core.proofs.steps.affine.Goals as goal

abbrev turned : ℕ → ℕ
turned b = bit_xor (bit_xor (bit_xor (bit_xor (bit_xor b (rotate_left w8 b 1)) (rotate_left w8 b 2)) (rotate_left w8 b 3)) (rotate_left w8 b 4)) 99

turned_is : map turned (range_with_len 0 256) ≡ map affine (range_with_len 0 256)
turned_is = refl

pub returns : goal.returns
returns c =
    (λ i. bit_xor (bit_xor (bit_xor (bit_xor (bit_xor c.args.b (c.rotate_left.ensures i)) (c.rotate_left-2.ensures i)) (c.rotate_left-3.ensures i)) (c.rotate_left-4.ensures i)) 99)
    ∙ agree_at turned affine 256 c.args.b turned_is (omega arith)
