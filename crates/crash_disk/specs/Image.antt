-- Images as lists of sectors.
use Rattle.std.specs.Prelude.{ℕ, ◌*◌, ◌/◌, ◌++◌, ◌∷◌, [], List, length, map, take, drop, replicate, zero, suc}

-- 512 zeros
unfoldable pub zero_sector : List ℕ
zero_sector = replicate 512 0

-- the numbers below a number, in order
abbrev pub numbers_below : ℕ → List ℕ
numbers_below zero = []
numbers_below (suc n) = numbers_below n ++ n ∷ []

-- the whole 512-byte pieces of an image; bytes after the last one are dropped
abbrev pub sectors_of : List ℕ → List (List ℕ)
sectors_of image = map (λ n. take 512 (drop (512 * n) image)) (numbers_below (length image / 512))
