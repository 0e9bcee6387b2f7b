-- A column of a state (FIPS 197, 3.4) as a word, and MixColumns (5.1.3) on it.
use Rattle.std.specs.Prelude.{ℕ, ◌+◌, ◌*◌, List, [], ◌∷◌, bit_xor, slice_index}
use Rattle.aes_core.specs.Field.{times}

-- four bytes as a word, the lowest first
abbrev pub word_of : ℕ → ℕ → ℕ → ℕ → ℕ
word_of a b c d = ((d * 256 + c) * 256 + b) * 256 + a

-- the word of the four bytes from place i on
abbrev pub word_at : List ℕ → ℕ → ℕ
word_at s i = word_of (slice_index s i) (slice_index s (i + 1)) (slice_index s (i + 2)) (slice_index s (i + 3))

-- the four columns of a state
abbrev pub words_of : List ℕ → List ℕ
words_of s = word_at s 0 ∷ word_at s 4 ∷ word_at s 8 ∷ word_at s 12 ∷ []

-- a byte of MixColumns: a stands in the byte's own row, the others in those below
abbrev pub mixed_byte : ℕ → ℕ → ℕ → ℕ → ℕ
mixed_byte a b c d = bit_xor (bit_xor (bit_xor (times 2 a) (times 3 b)) (times 1 c)) (times 1 d)

-- MixColumns of a column, as a word
abbrev pub mixed_word : ℕ → ℕ → ℕ → ℕ → ℕ
mixed_word a b c d = word_of (mixed_byte a b c d) (mixed_byte b c d a) (mixed_byte c d a b) (mixed_byte d a b c)
