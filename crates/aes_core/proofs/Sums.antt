-- Sums of bytes of which each counts or not, by a bit.
use Rattle.std.proofs.Common.{◌≡◌, ℕ, ◌*◌, ◌%◌, ◌<◌, bit_xor, sym, ap, ◌∙◌, arith, inl, inr, ◌⊎◌}
use lib.Bits.{xor_assoc, xor_comm, xor_self, xor_zero_r, xor_zero_l}
use Rattle.std.proofs.lemmas.Nat.{xor_mod}
use Rattle.std.proofs.lemmas.Bool.{cases_lt}

-- a bit times a number is 0 or the number
pub bit_times : (r a : ℕ) → r < 2 → ((r ≡ 0) × (r * a ≡ 0)) ⊎ ((r ≡ 1) × (r * a ≡ a))
bit_times r a lt = elim (cases_lt r 1) [
  | inl low ↦
      let z : r ≡ 0 = omega arith in
      let none : 0 * a ≡ 0 = omega arith in
      inl (z, ap (λ (k : ℕ). k * a) z ∙ none)
  | inr high ↦
      let z : r ≡ 1 = omega arith in
      let same : 1 * a ≡ a = omega arith in
      inr (z, ap (λ (k : ℕ). k * a) z ∙ same)
]

bits_times : (p q a : ℕ) → p < 2 → q < 2 → bit_xor p q * a ≡ bit_xor (p * a) (q * a)
bits_times p q a lp lq = elim (bit_times p a lp) [
  | inl low ↦ rw (low.1, low.0, xor_zero_l q) (sym (xor_zero_l (q * a)))
  | inr high ↦ elim (bit_times q a lq) [
    | inl low ↦ rw (low.1, low.0, xor_zero_r p) (sym (xor_zero_r (p * a)))
    | inr both ↦ rw (both.1, high.1, both.0, high.0) (let none : 0 * a ≡ 0 = omega arith in none ∙ sym (xor_self a))
  ]
]

pub bit_of_xor : (x y a : ℕ) → bit_xor x y % 2 * a ≡ bit_xor (x % 2 * a) (y % 2 * a)
bit_of_xor x y a =
    let bit : bit_xor x y % 2 ≡ bit_xor (x % 2) (y % 2) = xor_mod x y 1 in
    ap (λ (k : ℕ). k * a) bit ∙ bits_times (x % 2) (y % 2) a (omega arith) (omega arith)

pub xor_swap : (p q r s : ℕ) → bit_xor (bit_xor p q) (bit_xor r s) ≡ bit_xor (bit_xor p r) (bit_xor q s)
xor_swap p q r s =
    xor_assoc p q (bit_xor r s)
    ∙ ap (bit_xor p) (sym (xor_assoc q r s) ∙ ap (λ (k : ℕ). bit_xor k s) (xor_comm q r) ∙ xor_assoc r q s)
    ∙ sym (xor_assoc p r (bit_xor q s))
