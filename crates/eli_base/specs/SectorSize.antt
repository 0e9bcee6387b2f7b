-- The sizes of logical sectors.
use Rattle.std.specs.Prelude.{ℕ, Bool, [], ◌∷◌, ◌==◌, ◌^◌}
use Rattle.std.specs.List.{list_any}

-- whether a number is a power of two from 512 to 65,536, the sector sizes of geli(8), option -s
abbrev pub is_sector_size : ℕ → Bool
is_sector_size size = list_any (λ k. size == 2 ^ k) (9 ∷ 10 ∷ 11 ∷ 12 ∷ 13 ∷ 14 ∷ 15 ∷ 16 ∷ [])
