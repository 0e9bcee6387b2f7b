-- A tweak as its two halves of 64 bits, the low one first.
use Rattle.std.specs.Prelude.{ℕ, ◌^◌, List}
use Rattle.std.specs.Simd.Lanes.{number_l}

-- the number with these halves
abbrev pub of_halves : List ℕ → ℕ
of_halves t = number_l (2 ^ 64) t
