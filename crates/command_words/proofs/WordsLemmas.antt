-- The first part of a line, and the parts after it.
use Rattle.std.proofs.Common.{◌≡◌, ℕ, suc, ◌+◌, List, [], ◌∷◌, length, take, drop, refl, sym, ◌∙◌, ap, arith, nat_lt, true, false, Bool, cond, not}
use Rattle.std.proofs.lemmas.Bool.Decides.{nat_tests}
use Rattle.std.specs.List.{slice_split, position_or_len, onto_first}
use Rattle.std.proofs.lemmas.List.Folds.{length-prefix_len}
use Rattle.command_words.specs.declared.spans.Sep.{Sep}
use Rattle.command_words.specs.Words.{is_between, is_word, placed_words, parts_behind}

-- zero is below a number and one
zero_below : (n : ℕ) → nat_lt 0 (suc n) ≡ true
zero_below n = grind (arith, nat_tests)

-- both sides of a comparison grow by one
both_more : (m n : ℕ) → nat_lt (suc m) (suc n) ≡ nat_lt m n
both_more m n = grind (arith, nat_tests)

one_is_suc : (n : ℕ) → 1 + n ≡ suc n
one_is_suc n = omega arith

suc_and_one : (n : ℕ) → suc n + 1 ≡ suc (n + 1)
suc_and_one n = omega arith

-- one byte more at the front
one_more : (b : Bool) (x : ℕ) (xs : List ℕ) (n : ℕ) (all : List (List ℕ)) (split : List ℕ → List (List ℕ))
    → all ≡ take n xs ∷ cond (nat_lt n (length xs)) (split (drop (n + 1) xs)) []
    → split xs ≡ all
    → cond b ([] ∷ all) (onto_first x all) ≡ take (cond (not b) (1 + n) 0) (x ∷ xs) ∷ cond (nat_lt (cond (not b) (1 + n) 0) (length (x ∷ xs))) (split (drop (cond (not b) (1 + n) 0 + 1) (x ∷ xs))) []
one_more true x xs n all split h e = rw zero_below (ap (λ rest. [] ∷ rest) (sym e))
one_more false x xs n all split h e = ap (onto_first x) h ∙ rw (one_is_suc, suc_and_one, both_more)

-- a list is cut after its first part
pub first_part : (p : ℕ → Bool) (xs : List ℕ) → slice_split p xs ≡ take (position_or_len p xs) xs ∷ cond (nat_lt (position_or_len p xs) (length xs)) (slice_split p (drop (position_or_len p xs + 1) xs)) []
first_part p [] = refl
first_part p (x ∷ xs) = one_more (p x) x xs (position_or_len p xs) (slice_split p xs) (slice_split p) (first_part p xs) refl

-- if the first part is a word, it is the first word
pub word_taken : (sep : Sep) (rest : List ℕ) (number start n : ℕ) → n ≡ position_or_len (is_between sep) rest → is_word sep (take n rest) ≡ true
    → placed_words sep number start (slice_split (is_between sep) rest) ≡ record { number = number; start = start; bytes = take n rest } ∷ placed_words sep (number + 1) (start + n + 1) (parts_behind sep n rest)
word_taken sep rest number start n e h =
    let len : length (take n rest) ≡ n = rw e (length-prefix_len _ rest) in
    let split : slice_split (is_between sep) rest ≡ take n rest ∷ parts_behind sep n rest = rw e (first_part (is_between sep) rest) in
    rw (split, h, len)
