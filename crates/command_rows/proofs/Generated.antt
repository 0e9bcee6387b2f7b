-- The words of a generator one after the other, and as bytes.
use Rattle.std.proofs.Common.{◌≡◌, ℕ, zero, suc, ◌+◌, ◌*◌, ◌/◌, ◌≤◌, List, ◌++◌, length, take, w64, refl, sym, ap, ◌∙◌, arith, append-nil, append_assoc, length-append}
use Rattle.std.specs.Int.{to_le_bytes}
use Rattle.std.proofs.lemmas.List.{take_all}
use Rattle.rand_core.specs.Steps.{fill_via_u64, word_bytes}
use Rattle.rand_pcg.specs.Lcg.{Lcg}
use Rattle.rand_pcg.specs.Pcg.{pcg64}
use Rattle.command_rows.specs.verbs.Fill.{generated}

-- the words of m and then of n more
pub generated-more : (m n : ℕ) (g : Lcg)
    → generated (m + n) g ≡ ((generated m g).0 ++ (generated n (generated m g).1).0, (generated n (generated m g).1).1)
unfolding word_bytes
generated-more m zero g =
    let count : m + zero ≡ m = omega arith in
    ap (λ (k : ℕ). generated k g) count ∙ ap (λ (l : List ℕ). (l, (generated m g).1)) (sym (append-nil (generated m g).0))
generated-more m (suc n) g =
    let count : m + suc n ≡ suc (m + n) = omega arith in
    let front = generated m g in
    let before = generated n front.1 in
    let word = pcg64 before.1 in
    ap (λ (k : ℕ). generated k g) count
    ∙ ap (λ (p : List ℕ × Lcg). (p.0 ++ to_le_bytes w64 (pcg64 p.1).0, (pcg64 p.1).1)) (generated-more m n g)
    ∙ ap (λ (l : List ℕ). (l, word.1)) (append_assoc front.0 before.0 (to_le_bytes w64 word.0))

pub length-generated : (n : ℕ) (g : Lcg) → length (generated n g).0 ≡ 8 * n
unfolding word_bytes
length-generated zero g = refl
length-generated (suc n) g =
    let before = generated n g in
    let word : length (to_le_bytes w64 (pcg64 before.1).0) ≡ 8 = refl in
    omega (arith, length-append before.0 (to_le_bytes w64 (pcg64 before.1).0), length-generated n g, word)

-- a buffer that whole words fill
pub fill-whole : (n words : ℕ) (g : Lcg) → n ≡ 8 * words → fill_via_u64 pcg64 n g ≡ generated words g
fill-whole n words g same =
    let count : (n + 7) / 8 ≡ words = omega arith in
    let all : length (generated words g).0 ≤ n = omega (arith, length-generated words g) in
    ap (λ (k : ℕ). (take n (generated k g).0, (generated k g).1)) count
    ∙ ap (λ (l : List ℕ). (l, (generated words g).1)) (take_all n (generated words g).0 all)
