-- The bytes that hexadecimal digits spell.
use Rattle.std.specs.Prelude.{ℕ, ◌≤◌, List, [], Result, Ok, Err, IsOk, length}
use Rattle.hex.specs.Hex.{decode_of}
use Rattle.hex.specs.declared.error.FromHexError.{FromHexError}

abbrev pub decoded : Result (List ℕ) FromHexError → List ℕ
decoded (Ok bytes) = bytes
decoded (Err fault) = []

abbrev pub bytes_spelled : List ℕ → List ℕ
bytes_spelled digits = decoded (decode_of digits)

-- the digits spell bytes, at most as many as a request may have
pub record SpellsBytes (digits : List ℕ) : Type 0 where
  pub spells : IsOk (decode_of digits)
  pub bound : length digits ≤ 262144
