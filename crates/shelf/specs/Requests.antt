-- The value of a digit.
use Rattle.std.specs.Prelude.{ℕ, ◌+◌, ◌*◌, ◌/◌, ◌%◌}

-- the value of a digit in either case, if it is one
abbrev pub digit_value : ℕ → ℕ
digit_value digit = digit % 16 + 9 * (digit / 64)
