-- That spans lie in a line, and within which bounds its numbers and digits lie.
use Rattle.std.specs.Prelude.{All, IsTrue, List, slice_range, ℕ, ◌%◌, ◌≡◌, ◌≤◌}
use Rattle.command_words.specs.declared.commands.JobWords.{JobWords}
use Rattle.command_words.specs.declared.commands.JobWords.TheVariants as jobs
use Rattle.command_words.specs.declared.spans.KeyWords.{KeyWords}
use Rattle.command_words.specs.declared.spans.Span.{Span}
use Rattle.word_values.specs.Values.{is_hexadecimal}

-- whether a span lies in a line of so many bytes
abbrev pub IsWithin : ℕ → Span → Type 0
IsWithin len span = (span.start ≤ span.end) × (span.end ≤ len)

-- the spans of a key lie in the line
abbrev pub KeyIsWithin : ℕ → KeyWords → Type 0
KeyIsWithin len key = All (IsWithin len) key.files × All (IsWithin len) key.pass

-- the spans of a request lie in the line
abbrev pub JobIsWithin : ℕ → JobWords → Type 0
JobIsWithin len (jobs.Read sector count) = Unit {0}
JobIsWithin len (jobs.Write sector hex) = IsWithin len hex
JobIsWithin len jobs.Flush = Unit {0}

-- the bytes of a span
abbrev pub bytes_at : List ℕ → Span → List ℕ
bytes_at line span = slice_range line span.start span.end

-- what numbers of sectors keep to: the number of the first sector, and how many sectors there are, at most so many
abbrev pub AreSectors : ℕ → ℕ → ℕ → Type 0
AreSectors most first count = (first ≤ 9223372036854775807) × (1 ≤ count) × (count ≤ most)

-- what the size of an image before it grew keeps to
abbrev pub IsOldSize : ℕ → Type 0
IsOldSize size = (1024 ≤ size) × (size ≤ 9007199254740480) × (size % 512 ≡ 0)

-- the numbers of a request lie within their bounds, and its digits are hexadecimal
abbrev pub IsBoundedJob : List ℕ → JobWords → Type 0
IsBoundedJob line (jobs.Read sector count) = AreSectors 256 sector count
IsBoundedJob line (jobs.Write sector hex) = (sector ≤ 9223372036854775807) × IsTrue (is_hexadecimal (bytes_at line hex))
IsBoundedJob line jobs.Flush = Unit {0}
