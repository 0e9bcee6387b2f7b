-- Bytes that are given from a list.
use Rattle.std.proofs.Common.{◌≡◌, ℕ, ◌+◌, List, ◌++◌, take, drop, Some, ap, ◌∙◌, sym}
use Rattle.std.proofs.lemmas.List.{take-append-drop, drop-drop}

-- the first of the bytes that are left, and then the others
pub left_split : (bytes piece : List ℕ) (given count : ℕ) → piece ≡ take count (drop given bytes) → Some (drop given bytes) ≡ Some (piece ++ drop (given + count) bytes)
left_split bytes piece given count first =
    ap (λ (left : List ℕ). Some left) (sym (take-append-drop count (drop given bytes)))
    ∙ ap (λ (rest : List ℕ). Some (take count (drop given bytes) ++ rest)) (drop-drop count given bytes)
    ∙ ap (λ (start : List ℕ). Some (start ++ drop (given + count) bytes)) (sym first)
