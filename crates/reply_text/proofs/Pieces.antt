-- Hexadecimal digits of bytes, piece by piece.
use Rattle.std.proofs.Common.{◌≡◌, ℕ, ◌+◌, List, [], ◌∷◌, ◌++◌, take, drop, refl, ap, sym, ◌∙◌}
use Rattle.std.proofs.Math.Seq.{take-add}
use Rattle.std.proofs.lemmas.List.{take-append-drop}
use Rattle.hex.specs.Hex.{encode_with, encode_lower, lower_digits}

encode-append : (digits bytes more : List ℕ) → encode_with digits (bytes ++ more) ≡ encode_with digits bytes ++ encode_with digits more
unfolding encode_with
encode-append digits [] more = refl
encode-append digits (byte ∷ bytes) more = rw (encode-append digits bytes more) refl

-- the digits of no bytes are none
pub encode-nothing : encode_lower [] ≡ []
unfolding encode_with
encode-nothing = refl

-- the digits after one more piece
pub encode-more : (bytes : List ℕ) (given count : ℕ) → encode_lower (take (given + count) bytes) ≡ encode_lower (take given bytes) ++ encode_lower (take count (drop given bytes))
encode-more bytes given count = rw (take-add given count bytes) (encode-append lower_digits (take given bytes) (take count (drop given bytes)))

-- the digits of the bytes that were given, and of the rest
pub encode-split : (bytes : List ℕ) (given : ℕ) → encode_lower bytes ≡ encode_lower (take given bytes) ++ encode_lower (drop given bytes)
encode-split bytes given = ap encode_lower (sym (take-append-drop given bytes)) ∙ encode-append lower_digits (take given bytes) (drop given bytes)
