-- Hexadecimal digits, the last one first.
use Rattle.std.proofs.Common.{◌≡◌, ℕ, zero, suc, ◌-◌, ◌*◌, ◌/◌, ◌%◌, ◌^◌, ◌<◌, ◌≤◌, List, ◌∷◌, length, drop, refl, ◌∙◌, sym, arith, false, drop-cons, sub-one, lit≤, ◌≢◌}
use Rattle.std.proofs.Math.Nat.{pow-suc}
use Rattle.std.proofs.Math.ListN.{set, length-set}
use Rattle.std.proofs.lemmas.List.{get_or-set_same, drop-set-lt, drop_all}
use Rattle.std.proofs.lemmas.Bool.Decides.{nat_tests}
use Rattle.std.specs.Fmt.{digits, digits_onto, digit_glyph}

-- before the first digit is written, all digits are left
pub digits-start : (n : ℕ) (bytes : List ℕ) → length bytes ≡ 8 → (k : ℕ) × (8 ≤ k) × (digits 16 false n ≡ digits_onto k 16 false n (drop 8 bytes))
unfolding digits
digits-start n bytes long = (64, lit≤ tt, rw (drop_all 8 bytes (omega arith)) refl)

-- the last digit of what is left, if it isn't the first
digits_onto-next : (k n : ℕ) (after : List ℕ) → n / 16 ≢ 0 → digits_onto (suc k) 16 false n after ≡ digits_onto k 16 false (n / 16) (digit_glyph false (n % 16) ∷ after)
digits_onto-next k n after more = grind (arith, nat_tests)

-- the first digit, after which nothing is left
digits_onto-last : (k n : ℕ) (after : List ℕ) → n / 16 ≡ 0 → digits_onto (suc k) 16 false n after ≡ digit_glyph false (n % 16) ∷ after
digits_onto-last k n after none = rw none refl

-- a byte that is put in front of the last bytes
drop-set_front : (bytes : List ℕ) (start byte : ℕ) → 1 ≤ start → start ≤ length bytes → drop (start - 1) (set bytes (start - 1) byte) ≡ byte ∷ drop start bytes
drop-set_front bytes zero byte some inside = absurd (omega arith)
drop-set_front bytes (suc start) byte some inside =
    let first : start < length (set bytes start byte) = omega (arith, length-set bytes start byte) in
    rw (sub-one, drop-cons (set bytes start byte) start 0, drop-set-lt (suc start) bytes start byte (omega arith), get_or-set_same bytes start byte 0 (omega arith)) refl

pub small-next : (start n : ℕ) → 1 ≤ start → n < 16 ^ start → n / 16 < 16 ^ (start - 1)
small-next zero n some small = absurd (omega arith)
small-next (suc start) n some small = rw sub-one (let bound : n < 16 ^ start * 16 = rw (pow-suc 16 start) at small in omega arith)

-- if more digits are left, there is room for them
pub room-next : (start n : ℕ) → n / 16 ≢ 0 → n / 16 < 16 ^ (start - 1) → 1 ≤ start - 1
room-next zero n more small = absurd (omega arith)
room-next (suc zero) n more small = absurd (omega arith)
room-next (suc (suc start)) n more small = omega arith

-- the last digit of what is left stands in front of the others, and more are left
pub digits-next : (number n start : ℕ) (bytes : List ℕ) → 1 ≤ start → start ≤ length bytes → n / 16 ≢ 0
    → (k : ℕ) × (start ≤ k) × (digits 16 false number ≡ digits_onto k 16 false n (drop start bytes))
    → (k : ℕ) × (start - 1 ≤ k) × (digits 16 false number ≡ digits_onto k 16 false (n / 16) (drop (start - 1) (set bytes (start - 1) (digit_glyph false (n % 16)))))
digits-next number n start bytes some inside more (zero, long, is) = absurd (omega arith)
digits-next number n start bytes some inside more (suc k, long, is) =
    (k, omega arith, rw (drop-set_front bytes start (digit_glyph false (n % 16)) some inside) (is ∙ digits_onto-next k n (drop start bytes) more))

-- the last digit that is left stands in front of the others
pub digits-last : (number n start : ℕ) (bytes : List ℕ) → 1 ≤ start → start ≤ length bytes → n / 16 ≡ 0
    → (k : ℕ) × (start ≤ k) × (digits 16 false number ≡ digits_onto k 16 false n (drop start bytes))
    → drop (start - 1) (set bytes (start - 1) (digit_glyph false (n % 16))) ≡ digits 16 false number
digits-last number n start bytes some inside none (zero, long, is) = absurd (omega arith)
digits-last number n start bytes some inside none (suc k, long, is) =
    drop-set_front bytes start (digit_glyph false (n % 16)) some inside ∙ sym (digits_onto-last k n (drop start bytes) none) ∙ sym is
