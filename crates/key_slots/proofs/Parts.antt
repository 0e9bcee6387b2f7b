-- The front and the rest of a list that is put together of two.
use Rattle.std.proofs.Common.{◌≡◌, ℕ, ◌+◌, List, ◌++◌, length, take, drop, arith, ap, sym, ◌∙◌}
use Rattle.std.proofs.lemmas.List.{take-append-le, drop-append-le, take_all, drop_all}

pub take_front : (n : ℕ) (xs ys : List ℕ) → length xs ≡ n → take n (xs ++ ys) ≡ xs
take_front n xs ys len = take-append-le n xs ys (omega arith) ∙ take_all n xs (omega arith)

pub drop_front : (n : ℕ) (xs ys : List ℕ) → length xs ≡ n → drop n (xs ++ ys) ≡ ys
drop_front n xs ys len = drop-append-le n xs ys (omega arith) ∙ ap (λ (l : List ℕ). l ++ ys) (drop_all n xs (omega arith))

-- two lists that were put one after the other
pub put_both : (n m : ℕ) (middle new first second : List ℕ) → length first ≡ n → length second ≡ m → length new ≡ n + m
    → take (0 + length first) middle ≡ first → take (n + length second) new ≡ take n middle ++ second → new ≡ first ++ second
put_both n m middle new first second long long' whole put put' =
    let end : 0 + length first ≡ n = omega arith in
    let end' : n + length second ≡ n + m = omega arith in
    let front : take n middle ≡ first = ap (λ (i : ℕ). take i middle) (sym end) ∙ put in
    let all : take (n + m) new ≡ first ++ second = ap (λ (i : ℕ). take i new) (sym end') ∙ put' ∙ ap (λ (xs : List ℕ). xs ++ second) front in
    sym (take_all (n + m) new (omega arith)) ∙ all
