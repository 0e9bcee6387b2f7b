-- The value of digits with one more digit at the end.
use Rattle.std.proofs.Common.{◌≡◌, ℕ, ◌+◌, ◌-◌, ◌*◌, ◌^◌, List, [], ◌∷◌, ◌++◌, length, take, get_or, sym, ◌∙◌, ap, arith, length-append, add-one}
use Rattle.std.proofs.Math.Nat.{pow-suc}
use Rattle.std.proofs.lemmas.List.{take_more, take_all}
use Rattle.word_values.specs.Values.{decimal}

power_more : (n : ℕ) → 10 ^ (n + 1) ≡ 10 ^ n * 10
power_more n = rw add-one (pow-suc 10 n)

decimal_push : (digits : List ℕ) (d : ℕ) → decimal (digits ++ d ∷ []) ≡ decimal digits * 10 + (d - 48)
decimal_push [] d = omega arith
decimal_push (x ∷ xs) d = rw (decimal_push xs d, length-append xs (d ∷ []), power_more) (omega arith)

pub decimal_last : (digits : List ℕ) (n : ℕ) → length digits ≡ n + 1 → decimal digits ≡ decimal (take n digits) * 10 + (get_or digits n 0 - 48)
decimal_last digits n h =
    ap decimal (sym (take_all (n + 1) digits (omega arith)) ∙ take_more digits n 0 (omega arith)) ∙ decimal_push (take n digits) (get_or digits n 0)
