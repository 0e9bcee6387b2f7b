-- A number's bytes, read and written back.
use Rattle.std.proofs.Common.{◌≡◌, ℕ, zero, suc, ◌+◌, ◌/◌, ◌%◌, ◌^◌, ◌<◌, ◌≤◌, List, [], ◌∷◌, length, take, drop, slice_index, refl, ap, sym, ◌∙◌, arith, length-drop}
use Rattle.std.proofs.Math.Nat.{div-div-eq-div-mul, div-one, pow-suc}
use Rattle.std.proofs.lemmas.List.{get_or-drop}
use Rattle.std.specs.Int.{byte_at, bytes_low_first}
use Rattle.byteorder.specs.Endian.{little_from}
use Rattle.byteorder.specs.Numbers.{little_from-cons, little_from-lt, little_from-take}
use Rattle.eli_metadata.specs.Format.{field_at, number_at, number_bytes}

-- each number is a byte
abbrev pub AreBytes : List ℕ → Type 0
AreBytes xs = (k : ℕ) → slice_index xs k < 256

-- a byte of a number, by its place
byte_at-power : (k x : ℕ) → byte_at k x ≡ x / 256 ^ k % 256
byte_at-power zero x = ap (λ (y : ℕ). y % 256) (sym (div-one x))
byte_at-power (suc k) x = refl

-- the bytes of what stands above the first j bytes of x
bytes_low_first-number : (xs : List ℕ) (n j x : ℕ) → n ≤ length xs → AreBytes xs → x / 256 ^ j ≡ little_from 0 n xs → bytes_low_first j n x ≡ take n xs
bytes_low_first-number xs zero j x short fit above = refl
bytes_low_first-number [] (suc n) j x short fit above = absurd (omega arith)
bytes_low_first-number (y ∷ ys) (suc n) j x short fit above =
    let small : y < 256 = fit 0 in
    let moved : little_from 1 n (y ∷ ys) ≡ little_from 0 n ys = little_from-cons 0 n y ys in
    let first : byte_at j x ≡ y = byte_at-power j x ∙ omega (arith, above, moved, small) in
    let shift : x / 256 ^ suc j ≡ x / 256 ^ j / 256 = ap (λ (p : ℕ). x / p) (pow-suc 256 j) ∙ sym (div-div-eq-div-mul x (256 ^ j) 256) in
    let rest : x / 256 ^ suc j ≡ little_from 0 n ys = shift ∙ omega (arith, above, moved, small) in
    rw (first, bytes_low_first-number ys n (suc j) x (omega arith) (λ k. fit (suc k)) rest) refl

-- the bytes of the number at a place are those that stand there
pub number_bytes-number_at : (bytes : List ℕ) (place n : ℕ) → place + n ≤ length bytes → AreBytes bytes → number_bytes n (number_at bytes place n) ≡ field_at bytes place n
unfolding number_bytes number_at
number_bytes-number_at bytes place n inside fit =
    bytes_low_first-number (drop place bytes) n 0 _ (omega (arith, length-drop place bytes)) (λ k. rw (get_or-drop place bytes k 0) (fit (place + k)))
    (div-one _ ∙ little_from-take 0 n n (drop place bytes) (omega arith))

-- the number of n bytes is below 256 ^ n
pub number_at-fits : (bytes : List ℕ) (place n : ℕ) → AreBytes bytes → number_at bytes place n < 256 ^ n
unfolding number_at
number_at-fits bytes place n fit =
    rw (little_from-take 0 n n (drop place bytes) (omega arith)) (little_from-lt 0 n (drop place bytes) (λ k. rw (get_or-drop place bytes k 0) (fit (place + k))))
