-- A line is its first word, and each other word after a zero byte.
use Rattle.std.proofs.Common.{◌≡◌, ℕ, List, [], ◌∷◌, ◌++◌, map, sym, ap}
use Rattle.std.proofs.lemmas.List.{append-nil}
use Rattle.std.specs.List.{join_with_byte, flat_map}

pub joined_first : {W : Type 0} (bytes : W → List ℕ) (word : W) (words : List W)
    → join_with_byte 0 (map bytes (word ∷ words)) ≡ bytes word ++ flat_map (λ next. 0 ∷ bytes next) words
joined_first bytes word [] = sym (append-nil (bytes word))
joined_first bytes word (next ∷ words) = ap (λ rest. bytes word ++ 0 ∷ rest) (joined_first bytes next words)
