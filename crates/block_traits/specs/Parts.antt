-- A list of bytes cut into parts.
use Rattle.std.specs.Prelude.{ℕ, zero, suc, ◌*◌, List, [], ◌∷◌, take, drop}

-- part j of bytes that are cut into parts of this size; at the end of the bytes a part is shorter, and then empty
abbrev pub part : ℕ → ℕ → List ℕ → List ℕ
part size j bytes = take size (drop (size * j) bytes)

-- the first n parts of this size
abbrev pub parts : ℕ → ℕ → List ℕ → List (List ℕ)
parts size zero bytes = []
parts size (suc n) bytes = take size bytes ∷ parts size n (drop size bytes)
