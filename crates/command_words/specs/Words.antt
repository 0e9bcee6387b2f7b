-- The words of a line.
use Rattle.std.specs.Prelude.{ℕ, ◌+◌, List, [], ◌∷◌, length, Bool, true, false, ◌==◌, ◌||◌, if◌then◌else◌, drop, nat_lt}
use Rattle.std.specs.List.{slice_split}
use Rattle.command_words.specs.declared.spans.Sep.{Sep}
use Rattle.command_words.specs.declared.spans.Sep.TheVariants.{Blanks, Zeros}

-- a word, or the part of one that is the value of an option: the number of the word from 0, where in the line
-- the bytes start, and the bytes
pub record Word : Type 0 where
  pub number : ℕ
  pub start : ℕ
  pub bytes : List ℕ

-- whether a byte stands between words: a space or a tab, or a zero byte
abbrev pub is_between : Sep → ℕ → Bool
is_between Blanks b = b == 32 || b == 9
is_between Zeros b = b == 0

-- whether the bytes from one separator to the next are a word: if blanks separate words, a word isn't empty
abbrev pub is_word : Sep → List ℕ → Bool
is_word Blanks [] = false
is_word Blanks (b ∷ bs) = true
is_word Zeros bs = true

-- The words among the parts of a line, each with its number and its place. One separator stands between two parts.
abbrev pub placed_words : Sep → ℕ → ℕ → List (List ℕ) → List Word
placed_words sep number start [] = []
placed_words sep number start (part ∷ parts) =
    if is_word sep part
    then record { number = number; start = start; bytes = part } ∷ placed_words sep (number + 1) (start + length part + 1) parts
    else placed_words sep number (start + length part + 1) parts

-- The words of a line. The empty line has none.
abbrev pub words : Sep → List ℕ → List Word
words sep [] = []
words sep (b ∷ bs) = placed_words sep 0 0 (slice_split (is_between sep) (b ∷ bs))

-- the parts after one of so many bytes at the front
abbrev pub parts_behind : Sep → ℕ → List ℕ → List (List ℕ)
parts_behind sep len bytes = if nat_lt len (length bytes) then slice_split (is_between sep) (drop (len + 1) bytes) else []
