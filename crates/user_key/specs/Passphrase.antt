-- The passphrase of a provider, which is read from files (geli(8), the options -J and -j).
use Rattle.std.specs.Prelude.{ℕ, ◌==◌, List, flat_map}
use Rattle.std.specs.List.{before_first}

-- the first line of a file: the bytes before the first newline, or all of them
abbrev pub first_line : List ℕ → List ℕ
first_line file = before_first (λ byte. byte == 10) file

-- the passphrase that several files make: their first lines, joined in order
abbrev pub joined_passphrase : List (List ℕ) → List ℕ
joined_passphrase files = flat_map first_line files
