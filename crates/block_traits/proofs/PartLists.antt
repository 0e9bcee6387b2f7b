-- Parts of a list, which one after the other are the list again.
use Rattle.std.proofs.Common.{◌≡◌, ℕ, zero, suc, ◌+◌, ◌*◌, ◌<◌, ◌≤◌, List, [], ◌++◌, length, get_or, take, take-add, drop, refl, sym, ap, ◌∙◌, arith}
use Rattle.std.proofs.lemmas.List.{take_all, drop-drop, length-take-le, length-drop}
use Rattle.std.specs.List.{concat}
use Rattle.block_traits.specs.Parts.{parts}
pub use Rattle.block_traits.specs.Parts.{part}

pub length-parts : (size n : ℕ) (bytes : List ℕ) → length (parts size n bytes) ≡ n
length-parts size zero bytes = refl
length-parts size (suc n) bytes = ap suc (length-parts size n (drop size bytes))

pub get_or-parts : (size n j : ℕ) (bytes : List ℕ) → j < n → get_or (parts size n bytes) j [] ≡ part size j bytes
get_or-parts size zero j bytes lt = absurd (omega arith)
get_or-parts size (suc n) zero bytes lt = let none : 0 ≡ size * 0 = omega arith in ap (λ (m : ℕ). take size (drop m bytes)) none
get_or-parts size (suc n) (suc j) bytes lt =
    let more : size + size * j ≡ size * suc j = omega arith in
    get_or-parts size n j (drop size bytes) (omega arith)
    ∙ ap (take size) (drop-drop (size * j) size bytes ∙ ap (λ (m : ℕ). drop m bytes) more)

pub length-part : (size j : ℕ) (bytes : List ℕ) → size * j + size ≤ length bytes → length (part size j bytes) ≡ size
length-part size j bytes fits = length-take-le size (drop (size * j) bytes) (omega (arith, length-drop (size * j) bytes))

-- parts that reach to the end are the list again
concat-front : (size n : ℕ) (bytes : List ℕ) → concat (parts size n bytes) ≡ take (size * n) bytes
concat-front size zero bytes = let none : size * 0 ≡ 0 = omega arith in sym (ap (λ (m : ℕ). take m bytes) none)
concat-front size (suc n) bytes =
    let more : size + size * n ≡ size * suc n = omega arith in
    ap (λ (l : List ℕ). take size bytes ++ l) (concat-front size n (drop size bytes)) ∙ sym (take-add size (size * n) bytes) ∙ ap (λ (m : ℕ). take m bytes) more

pub concat-parts : (size n : ℕ) (bytes : List ℕ) → length bytes ≤ size * n → concat (parts size n bytes) ≡ bytes
concat-parts size n bytes reach = concat-front size n bytes ∙ take_all (size * n) bytes reach
