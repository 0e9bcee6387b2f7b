-- Pairs of digits that spell bytes are taken without a test.
use Rattle.std.proofs.Common.{◌≡◌, ℕ, ◌+◌, ◌*◌, ◌%◌, ◌<◌, List, length, take, drop, slice_index, Option, Some, None, Result, Ok, Err, ◌⊎◌, inl, inr, refl, sym, ap, ◌∙◌, arith, IsOk}
use Rattle.hex.specs.Hex.{decode_pairs, digit_or_error, hex_digit_value, pair_value, ◌>>=◌}
use Rattle.hex.specs.declared.error.FromHexError.{FromHexError}
use Rattle.hex.proofs.Pairs.{prepend, decode_err}
use Rattle.shelf.specs.Requests.{digit_value}

-- the value of a digit
value_is : (c v : ℕ) → hex_digit_value c ≡ Some v → v ≡ digit_value c
value_is c v h = grind (arith, h)

value_small : (c v : ℕ) → hex_digit_value c ≡ Some v → v < 16
value_small c v h = grind (arith, h)

-- what two digits that read have
pub record Pair (o p : Option ℕ) (w : ℕ) : Type 0 where
  pub high : ℕ
  pub low : ℕ
  pub first : o ≡ Some high
  pub second : p ≡ Some low
  pub whole : w ≡ high * 16 + low

abbrev value_in : Result ℕ FromHexError → ℕ
value_in (Ok w) = w
value_in (Err e) = 0

parts : (o p : Option ℕ) (a b i w : ℕ)
    → (digit_or_error a i o >>= (λ h. digit_or_error b (i + 1) p >>= (λ l. Ok (h * 16 + l)))) ≡ Ok w
    → Pair o p w
parts (Some h) (Some l) a b i w e = record { high = h; low = l; first = refl; second = refl; whole = sym (ap value_in e) }
parts (Some h) None a b i w e = cc e
parts None p a b i w e = cc e

pair_is : (a b i w : ℕ) → pair_value a b i ≡ Ok w → w ≡ (digit_value a * 16 % 256 + digit_value b) % 256
pair_is a b i w e =
    let p = parts (hex_digit_value a) (hex_digit_value b) a b i w e in
    let ha = value_is a p.high p.first in
    let hb = value_is b p.low p.second in
    let la = value_small a p.high p.first in
    let lb = value_small b p.low p.second in
    let whole = p.whole in
    omega (arith, ha, hb, la, lb, whole)

ok_or_err : (r : Result ℕ FromHexError) → ((w : ℕ) × (r ≡ Ok w)) ⊎ ((e : FromHexError) × (r ≡ Err e))
ok_or_err (Ok w) = inl (w, refl)
ok_or_err (Err e) = inr (e, refl)

-- a pair of a text that spells bytes
pub pair_of : (s out : List ℕ) (i : ℕ) → 2 * i + 1 < length s → IsOk (decode_pairs 0 s)
    → decode_pairs 0 s ≡ prepend (take i out) (decode_pairs (2 * i) (drop (2 * i) s))
    → pair_value (slice_index s (2 * i)) (slice_index s (2 * i + 1)) (2 * i)
    ≡ Ok ((digit_value (slice_index s (2 * i)) * 16 % 256 + digit_value (slice_index s (2 * i + 1))) % 256)
pair_of s out i fits ok inv =
    elim (ok_or_err (pair_value (slice_index s (2 * i)) (slice_index s (2 * i + 1)) (2 * i))) [
      | inl w ↦ w.1 ∙ ap Ok (pair_is (slice_index s (2 * i)) (slice_index s (2 * i + 1)) (2 * i) w.0 w.1)
      | inr e ↦ let bad = decode_err s out i e.0 fits e.1 inv in cc (rw bad at ok)
    ]
