-- Counters of 64 bits.
use Rattle.std.specs.Prelude.{ℕ, ◌+◌, ◌-◌, ◌^◌, min}

-- one more, unless the counter has its last value
abbrev pub one_more : ℕ → ℕ
one_more count = min (count + 1) (2 ^ 64 - 1)

-- so many more, but no more than the last value of a counter
abbrev pub raised : ℕ → ℕ → ℕ
raised many count = min (count + many) (2 ^ 64 - 1)
