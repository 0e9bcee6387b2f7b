-- Vectors as numbers, and the constant of the S-box.
use Rattle.std.proofs.Common.{◌≡◌, ℕ, ◌+◌, ◌*◌, ◌/◌, ◌%◌, ◌^◌, ◌<◌, List, length, bit_xor, replicate, refl, sym, ap, ◌∙◌, arith}
use Rattle.std.specs.Simd.Lanes.{zip2, digits_l, number_l}
use Rattle.aes_core.specs.State.{IsState}
use Rattle.aes_core.proofs.ColumnLaws.{digits_number}
use Rattle.aes_planes.specs.Planes.{turned}
use Rattle.aes_planes.specs.Blocks.{plane_of}
use Rattle.std.proofs.lemmas.List.{get_or-replicate}
use Rattle.aes_planes.proofs.SubLaw.{small_get}
use Rattle.aes_planes.proofs.RowLaws.{explicit}

number-lt : (v : List ℕ) → IsState v → number_l (2 ^ 8) v < 2 ^ 128
number-lt v h =
    let b0 = h.bytes 0 in let b1 = h.bytes 1 in let b2 = h.bytes 2 in let b3 = h.bytes 3 in let b4 = h.bytes 4 in let b5 = h.bytes 5 in let b6 = h.bytes 6 in let b7 = h.bytes 7 in
    let b8 = h.bytes 8 in let b9 = h.bytes 9 in let b10 = h.bytes 10 in let b11 = h.bytes 11 in let b12 = h.bytes 12 in let b13 = h.bytes 13 in let b14 = h.bytes 14 in let b15 = h.bytes 15 in
    explicit (λ x. number_l (2 ^ 8) x < 2 ^ 128) v h.long (omega (arith, b0, b1, b2, b3, b4, b5, b6, b7, b8, b9, b10, b11, b12, b13, b14, b15))

pub number_back : (v : List ℕ) (low high : ℕ) → IsState v → low ≡ number_l (2 ^ 8) v % 2 ^ 64 → high ≡ number_l (2 ^ 8) v / 2 ^ 64 % 2 ^ 64 → plane_of (high * 18446744073709551616 + low) ≡ v
number_back v low high h el eh =
    let n : ℕ = number_l (2 ^ 8) v in
    let small : n < 2 ^ 128 = number-lt v h in
    let whole : high * 18446744073709551616 + low ≡ n = omega (arith, el, eh, small) in
    ap plane_of whole ∙ ap (λ (k : ℕ). digits_l (2 ^ 8) k n) (sym h.long) ∙ digits_number v h.bytes

pub constant_added : (v : List ℕ) → length v ≡ 16 → zip2 bit_xor v (replicate 16 0x63) ≡ turned v
constant_added v l = explicit (λ x. zip2 bit_xor x (replicate 16 0x63) ≡ turned x) v l refl

pub constant_state : IsState (replicate 16 0x63)
constant_state = record {
  long = refl;
  bytes = small_get (replicate 16 0x63) (λ k lt. let z = get_or-replicate {A = ℕ} 16 k 0x63 0 lt in omega (arith, z));
}
