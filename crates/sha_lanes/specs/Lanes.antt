-- Four messages side by side: each word is a vector, with one lane for each message.
use Rattle.std.specs.Prelude.{◌≡◌, ℕ, ◌<◌, List, [], length, map, slice_index, slice_index_or}
use Rattle.std.specs.Borrow.{Bor}

-- the words in lane j of these vectors
abbrev pub lane : ℕ → List (List ℕ) → List ℕ
lane j vectors = map (λ v. slice_index v j) vectors

-- the bytes of slice j
abbrev pub bytes_of : ℕ → List (Bor (List ℕ)) → List ℕ
bytes_of j slices = slice_index_or (map (λ s. s.now) slices) j []

-- the four slices have the same length
abbrev pub HaveOneLength : List (Bor (List ℕ)) → Type 0
HaveOneLength slices = (j : ℕ) → j < 4 → length (bytes_of j slices) ≡ length (bytes_of 0 slices)
