-- A place whose bytes are destroyed by writing over them several times.
use Rattle.std.specs.Prelude.{ℕ, ◌*◌, List, [], ◌∷◌, take, drop, replicate}
use Rattle.block_traits.specs.declared.disk.Event.{Event}
use Rattle.block_traits.specs.declared.disk.Event.TheVariants.{Write, Flush}

-- each of these values is written to sector n and flushed, one after another
abbrev pub overwrite_events : ℕ → List (List ℕ) → List Event
overwrite_events n [] = []
overwrite_events n (value ∷ values) = Write n value ∷ Flush ∷ overwrite_events n values

-- n zero bytes
unfoldable pub zeros : ℕ → List ℕ
zeros n = replicate n 0

-- a piece, by its number, of random bytes that are cut into pieces of n bytes
abbrev pub piece_of : ℕ → List ℕ → ℕ → List ℕ
piece_of n random place = take n (drop (n * place) random)

-- what six passes put in the place of n bytes: five pieces of random bytes, in order, and then zeros
abbrev pub passes_of : ℕ → List ℕ → List (List ℕ)
passes_of n random =
    piece_of n random 0 ∷ piece_of n random 1 ∷ piece_of n random 2 ∷ piece_of n random 3 ∷ piece_of n random 4 ∷ zeros n ∷ []
