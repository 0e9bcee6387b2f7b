-- What a cursor over the words of a line has taken, and what is left.
use Rattle.std.specs.Prelude.{List, [], if◌then◌else◌}
use Rattle.std.specs.List.{slice_split}
use Rattle.command_words.specs.declared.cursor.Piece.{Piece}
use Rattle.command_words.specs.declared.cursor.WordsLeft.{WordsLeft}
use Rattle.command_words.specs.Words.{Word, is_between, placed_words}

-- a piece of the line as a word
abbrev pub seen : Piece → Word
seen piece = record { number = piece.number; start = piece.start; bytes = piece.bytes.now }

-- the words that are left
abbrev pub left : WordsLeft → List Word
left w = if w.ended then [] else placed_words w.sep w.number w.start (slice_split (is_between w.sep) w.rest.now)
