-- Parts of a list, from its front on.
use Rattle.std.proofs.Common.{◌≡◌, ℕ, zero, suc, ◌+◌, ◌*◌, ◌≤◌, List, [], ◌∷◌, ◌++◌, length, take, drop, refl, sym, ap, ◌∙◌, arith}
use Rattle.std.proofs.lemmas.List.{take-take, take-append-le, take_all, drop-take, drop-drop, drop_at, length-take-le}
use Rattle.std.proofs.lemmas.Slice.{take-put_mid_below}
use borrow.Rule.Slice.PartMut.{put_mid, post_of}
use Rattle.block_traits.specs.Parts.{parts}

-- the first n parts of some bytes, and m more
pub parts-add : (n m : ℕ) (bytes : List ℕ) → parts 512 (n + m) bytes ≡ parts 512 n bytes ++ parts 512 m (drop (512 * n) bytes)
parts-add zero m bytes =
    let none : 0 + m ≡ m = omega arith in
    let first : 0 ≡ 512 * 0 = omega arith in
    ap (λ (c : ℕ). parts 512 c bytes) none ∙ ap (λ (p : ℕ). parts 512 m (drop p bytes)) first
parts-add (suc n) m bytes =
    let count : suc n + m ≡ suc (n + m) = omega arith in
    let more : 512 + 512 * n ≡ 512 * suc n = omega arith in
    ap (λ (c : ℕ). parts 512 c bytes) count
    ∙ ap (λ (l : List (List ℕ)). take 512 bytes ∷ l) (parts-add n m (drop 512 bytes)
    ∙ ap (λ (d : List ℕ). parts 512 n (drop 512 bytes) ++ parts 512 m d) (drop-drop (512 * n) 512 bytes ∙ ap (λ (p : ℕ). drop p bytes) more))

-- the first n parts depend on the bytes in them alone
pub parts-front : (n : ℕ) (xs ys : List ℕ) → take (512 * n) xs ≡ take (512 * n) ys → parts 512 n xs ≡ parts 512 n ys
parts-front zero xs ys e = refl
parts-front (suc n) xs ys e =
    let more : 512 * suc n ≡ 512 + 512 * n = omega arith in
    let all : take (512 + 512 * n) xs ≡ take (512 + 512 * n) ys = ap (λ (m : ℕ). take m xs) (sym more) ∙ e ∙ ap (λ (m : ℕ). take m ys) more in
    let fits : 512 ≤ 512 + 512 * n = omega arith in
    let first : take 512 xs ≡ take 512 ys =
    sym (take-take 512 (512 + 512 * n) xs fits) ∙ ap (take 512) all ∙ take-take 512 (512 + 512 * n) ys fits in
    let others = parts-front n (drop 512 xs) (drop 512 ys) (sym (drop-take 512 (512 * n) xs) ∙ ap (drop 512) all ∙ drop-take 512 (512 * n) ys) in
    λ i. first i ∷ others i

-- parts that are put after others
pub parts-put-some : (n m k : ℕ) (xs ys : List ℕ) → length ys ≡ 512 * m → 512 * n ≤ length xs → parts 512 (n + m) (put_mid (512 * n) k xs ys) ≡ parts 512 n xs ++ parts 512 m ys
parts-put-some n m k xs ys len room =
    let now : List ℕ = put_mid (512 * n) k xs ys in
    let front : parts 512 n now ≡ parts 512 n xs = parts-front n now xs (take-put_mid_below (512 * n) k xs ys (512 * n) (omega arith) room) in
    let behind : drop (512 * n) now ≡ ys ++ post_of (512 * n) k xs =
    drop_at (take (512 * n) xs) (ys ++ post_of (512 * n) k xs) (512 * n) (length-take-le (512 * n) xs room) in
    let all : take (512 * m) (ys ++ post_of (512 * n) k xs) ≡ take (512 * m) ys = take-append-le (512 * m) ys (post_of (512 * n) k xs) (omega (arith, len)) in
    parts-add n m now ∙ (λ i. front i ++ (ap (parts 512 m) behind ∙ parts-front m (ys ++ post_of (512 * n) k xs) ys all) i)

-- one part that is put after others
pub parts-put : (n k : ℕ) (xs ys : List ℕ) → length ys ≡ 512 → 512 * n ≤ length xs → parts 512 (n + 1) (put_mid (512 * n) k xs ys) ≡ parts 512 n xs ++ ys ∷ []
parts-put n k xs ys len room =
    parts-put-some n 1 k xs ys (omega (arith, len)) room ∙ ap (λ (l : List ℕ). parts 512 n xs ++ l ∷ []) (take_all 512 ys (omega (arith, len)))
