use Rattle.std.proofs.Common.{◌≡◌, ℕ, List, [], ◌∷◌, ◌++◌, length, slice_index_or, arith, ap, ◌∙◌}
use Rattle.sha2.specs.Sha256.{sha256}
use Rattle.range_keys.proofs.derivation.digests_apart.Goals as goal

-- four lists, each by what it is
four_lists : (xs : List (List ℕ)) (a b c d : List ℕ) → length xs ≡ 4
    → slice_index_or xs 0 [] ≡ a → slice_index_or xs 1 [] ≡ b → slice_index_or xs 2 [] ≡ c → slice_index_or xs 3 [] ≡ d
    → xs ≡ a ∷ b ∷ c ∷ d ∷ []
four_lists (w ∷ x ∷ y ∷ z ∷ []) a b c d long ea eb ec ed = cc
four_lists [] a b c d long ea eb ec ed = absurd (omega arith)
four_lists (w ∷ []) a b c d long ea eb ec ed = absurd (omega arith)
four_lists (w ∷ x ∷ []) a b c d long ea eb ec ed = absurd (omega arith)
four_lists (w ∷ x ∷ y ∷ []) a b c d long ea eb ec ed = absurd (omega arith)
four_lists (w ∷ x ∷ y ∷ z ∷ v ∷ xs) a b c d long ea eb ec ed = absurd (omega arith)

pub returns : goal.returns
returns c = λ key begins.
    let digest = c.digests.ensures key begins in
    let of_bytes = λ (b : List ℕ). sha256 (key ++ b) in
    four_lists c.digests.result _ _ _ _ (omega arith)
    (digest 0 (omega arith) ∙ ap of_bytes c.to_le_bytes.ensures)
    (digest 1 (omega arith) ∙ ap of_bytes c.to_le_bytes-2.ensures)
    (digest 2 (omega arith) ∙ ap of_bytes c.to_le_bytes-3.ensures)
    (digest 3 (omega arith) ∙ ap of_bytes c.to_le_bytes-4.ensures)
