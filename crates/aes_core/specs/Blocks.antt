-- A list of bytes as blocks of 16.
use Rattle.std.specs.Prelude.{ℕ, zero, suc, ◌*◌, List, [], ◌++◌}
use Rattle.std.specs.Simd.Lanes.{chunk}

-- block j of a list of bytes
abbrev pub block : List ℕ → ℕ → List ℕ
block p j = chunk (16 * j) 16 p

-- the blocks f 0, …, f (n - 1), one after the other
unfoldable pub blocks : (ℕ → List ℕ) → ℕ → List ℕ
blocks f zero = []
blocks f (suc n) = blocks f n ++ f n
