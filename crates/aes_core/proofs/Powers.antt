-- The power that inverts a byte, by squares: a product with a fixed byte is a sum of rows, and so is one product after
-- another.
use Rattle.std.proofs.Common.{◌≡◌, ℕ, zero, suc, ◌*◌, ◌/◌, ◌%◌, ◌<◌, List, [], ◌∷◌, map, bit_xor, refl, sym, ap, ◌∙◌, arith, inl, inr}
use Rattle.std.proofs.lemmas.Nat.{xor_shr}
use Rattle.aes_core.specs.Field.{times_x, times_bits, times, power}
use Rattle.aes_core.proofs.Sums.{bit_times, bit_of_xor, xor_swap}

-- the sum of the rows at the bits of x that are set
unfoldable pub pick : List ℕ → ℕ → ℕ
pick [] x = 0
pick (r ∷ rs) x = bit_xor (x % 2 * r) (pick rs (x / 2))

-- a, a * x, a * x ^ 2, …: the rows of the product with a
unfoldable pub rows : ℕ → ℕ → List ℕ
rows a zero = []
rows a (suc n) = a ∷ rows (times_x a) n

times_bits-pick : (a b n : ℕ) → times_bits a b n ≡ pick (rows a n) b
unfolding pick rows
times_bits-pick a b zero = refl
times_bits-pick a b (suc n) = ap (bit_xor (b % 2 * a)) (times_bits-pick (times_x a) (b / 2) n)

pick-zero : (rs : List ℕ) → pick rs 0 ≡ 0
unfolding pick
pick-zero [] = refl
pick-zero (r ∷ rs) = let none : 0 * r ≡ 0 = omega arith in (λ i. bit_xor (none i) (pick-zero rs i))

pick-xor : (rs : List ℕ) (x y : ℕ) → pick rs (bit_xor x y) ≡ bit_xor (pick rs x) (pick rs y)
unfolding pick
pick-xor [] x y = refl
pick-xor (r ∷ rs) x y =
    let half : bit_xor x y / 2 ≡ bit_xor (x / 2) (y / 2) = xor_shr x y 1 in
    (λ i. bit_xor (bit_of_xor x y r i) (pick rs (half i)))
    ∙ ap (bit_xor (bit_xor (x % 2 * r) (y % 2 * r))) (pick-xor rs (x / 2) (y / 2))
    ∙ xor_swap (x % 2 * r) (y % 2 * r) (pick rs (x / 2)) (pick rs (y / 2))

pick-bit : (rs : List ℕ) (b q : ℕ) → b < 2 → pick rs (b * q) ≡ b * pick rs q
pick-bit rs b q lt = elim (bit_times b q lt) [
  | inl low ↦
      let none : 0 * pick rs q ≡ 0 = omega arith in
      ap (pick rs) low.1 ∙ pick-zero rs ∙ sym none ∙ ap (λ (k : ℕ). k * pick rs q) (sym low.0)
  | inr high ↦
      let same : 1 * pick rs q ≡ pick rs q = omega arith in
      ap (pick rs) high.1 ∙ sym same ∙ ap (λ (k : ℕ). k * pick rs q) (sym high.0)
]

-- the sums after one another have the rows' sums as rows
pick-pick : (rs qs : List ℕ) (x : ℕ) → pick rs (pick qs x) ≡ pick (map (pick rs) qs) x
unfolding pick
pick-pick rs [] x = pick-zero rs
pick-pick rs (q ∷ qs) x =
    pick-xor rs (x % 2 * q) (pick qs (x / 2)) ∙ (λ i. bit_xor (pick-bit rs (x % 2) q (omega arith) i) (pick-pick rs qs (x / 2) i))

unfoldable pub twice : List ℕ → List ℕ
twice rs = map (pick rs) rs

unfoldable again : List ℕ → ℕ → ℕ → ℕ
again rs zero x = x
again rs (suc n) x = pick rs (again rs n x)

unfoldable double : ℕ → ℕ
double zero = 0
double (suc n) = suc (suc (double n))

again-twice : (rs : List ℕ) (n x : ℕ) → again rs (double n) x ≡ again (twice rs) n x
unfolding again double twice
again-twice rs zero x = refl
again-twice rs (suc n) x = ap (λ (y : ℕ). pick rs (pick rs y)) (again-twice rs n x) ∙ pick-pick rs rs (again (twice rs) n x)

-- 2 ^ (n + 1) - 1 times, by n squares
unfoldable pub squares : List ℕ → ℕ → ℕ
squares rs zero = pick rs 1
squares rs (suc n) = pick rs (squares (twice rs) n)

unfoldable ones : ℕ → ℕ
ones zero = 1
ones (suc n) = suc (double (ones n))

squares-again : (rs : List ℕ) (n : ℕ) → squares rs n ≡ again rs (ones n) 1
unfolding squares again ones
squares-again rs zero = refl
squares-again rs (suc n) = ap (pick rs) (squares-again (twice rs) n ∙ sym (again-twice rs (ones n) 1))

power-again : (a n : ℕ) → power a n ≡ again (rows a 8) n 1
unfolding power times again
power-again a zero = refl
power-again a (suc n) = times_bits-pick a (power a n) 8 ∙ ap (pick (rows a 8)) (power-again a n)

last : 254 ≡ double (ones 6)
unfolding double ones
last = refl

-- the power 254, by seven squares
pub power_254 : (a : ℕ) → power a 254 ≡ squares (twice (rows a 8)) 6
power_254 a =
    power-again a 254 ∙ ap (λ (n : ℕ). again (rows a 8) n 1) last ∙ again-twice (rows a 8) (ones 6) 1 ∙ sym (squares-again (twice (rows a 8)) 6)
