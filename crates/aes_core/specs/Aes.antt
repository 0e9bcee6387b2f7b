-- AES (FIPS 197) as functions on lists of bytes. Section numbers are the standard's.
use Rattle.std.specs.Prelude.{ℕ, zero, suc, ◌+◌, ◌-◌, ◌*◌, ◌/◌, ◌%◌, ◌^◌, ◌==◌, ◌&&◌, List, [], ◌∷◌, ◌++◌, length, map, take, drop, bit_xor, if◌then◌else◌, slice_index}
use Rattle.std.specs.List.{range_with_len}
use Rattle.std.specs.Simd.Lanes.{zip2, chunk}
use Rattle.aes_core.specs.Field.{times, power, inverse}

-- ---- the S-box (5.1.1)

-- bit i of n
abbrev pub bit : ℕ → ℕ → ℕ
bit n i = n / 2 ^ i % 2

-- the byte with these bits
abbrev pub byte_of_bits : (ℕ → ℕ) → ℕ
byte_of_bits b = b 0 + 2 * b 1 + 4 * b 2 + 8 * b 3 + 16 * b 4 + 32 * b 5 + 64 * b 6 + 128 * b 7

-- the affine map (5.1.1)
abbrev pub affine : ℕ → ℕ
affine b = byte_of_bits (λ i. (bit b i + bit b ((i + 4) % 8) + bit b ((i + 5) % 8) + bit b ((i + 6) % 8) + bit b ((i + 7) % 8) + bit 0x63 i) % 2)

-- the inverse of the affine map (5.3.2)
abbrev pub inverse_affine : ℕ → ℕ
inverse_affine b = byte_of_bits (λ i. (bit b ((i + 2) % 8) + bit b ((i + 5) % 8) + bit b ((i + 7) % 8) + bit 0x05 i) % 2)

-- the S-box (5.1.1)
unfoldable pub sbox : ℕ → ℕ
sbox b = affine (inverse b)

-- the inverse S-box (5.3.2)
unfoldable pub inverse_sbox : ℕ → ℕ
inverse_sbox b = inverse (inverse_affine b)

-- ---- the steps of a round, on a state of 16 bytes: row r of column c is byte r + 4 * c (3.4)

-- the n bytes f 0, …, f (n - 1)
abbrev pub bytes_by : ℕ → (ℕ → ℕ) → List ℕ
bytes_by n f = map f (range_with_len 0 n)

-- the sum of two lists of bytes, byte by byte
abbrev pub xor : List ℕ → List ℕ → List ℕ
xor = zip2 bit_xor

-- SubBytes (5.1.1)
abbrev pub sub_bytes : List ℕ → List ℕ
sub_bytes s = map sbox s

-- ShiftRows (5.1.2): row r moves left by r columns
abbrev pub shift_rows : List ℕ → List ℕ
shift_rows s = bytes_by 16 (λ k. slice_index s ((k + 4 * (k % 4)) % 16))

-- byte k of the state s whose columns are multiplied by the circulant matrix with this first row:
-- row r of the matrix is the first row moved right by r
abbrev pub circulant_byte : List ℕ → List ℕ → ℕ → ℕ
circulant_byte row s k =
    let term : ℕ → ℕ = λ i. times (slice_index row i) (slice_index s (k / 4 * 4 + (k + i) % 4)) in
    bit_xor (bit_xor (bit_xor (term 0) (term 1)) (term 2)) (term 3)

-- each column times the circulant matrix with this first row
abbrev pub times_circulant : List ℕ → List ℕ → List ℕ
times_circulant row s = bytes_by 16 (circulant_byte row s)

-- MixColumns (5.1.3)
abbrev pub mix_columns : List ℕ → List ℕ
mix_columns s = times_circulant (2 ∷ 3 ∷ 1 ∷ 1 ∷ []) s

-- InvSubBytes (5.3.2)
abbrev pub inverse_sub_bytes : List ℕ → List ℕ
inverse_sub_bytes s = map inverse_sbox s

-- InvShiftRows (5.3.1): row r moves right by r columns
abbrev pub inverse_shift_rows : List ℕ → List ℕ
inverse_shift_rows s = bytes_by 16 (λ k. slice_index s ((k + 12 * (k % 4)) % 16))

-- InvMixColumns (5.3.3)
abbrev pub inverse_mix_columns : List ℕ → List ℕ
inverse_mix_columns s = times_circulant (14 ∷ 11 ∷ 13 ∷ 9 ∷ []) s

-- ---- the key expansion (5.2), with nk words of key

-- word i of a list of bytes
abbrev pub word : List ℕ → ℕ → List ℕ
word w i = chunk (4 * i) 4 w

-- RotWord: the first byte becomes the last
abbrev pub rotated : List ℕ → List ℕ
rotated w = drop 1 w ++ take 1 w

-- the round constant Rcon j, a word
abbrev pub round_constant : ℕ → List ℕ
round_constant j = power 2 (j - 1) ∷ 0 ∷ 0 ∷ 0 ∷ []

-- what is added to word i - nk to give word i, from the words w before it
abbrev pub key_term : ℕ → List ℕ → ℕ → List ℕ
key_term nk w i =
    (if i % nk == 0 then xor (sub_bytes (rotated (word w (i - 1)))) (round_constant (i / nk))
    else if nk == 8 && i % 8 == 4 then sub_bytes (word w (i - 1))
    else word w (i - 1))

-- the key and n words after it
unfoldable pub expanded : List ℕ → ℕ → ℕ → List ℕ
expanded key nk zero = key
expanded key nk (suc n) =
    let w = expanded key nk n in w ++ xor (word w n) (key_term nk w (nk + n))

-- the number of words in a key
abbrev pub key_words : List ℕ → ℕ
key_words key = length key / 4

-- the number of rounds under a key
abbrev pub rounds : List ℕ → ℕ
rounds key = key_words key + 6

-- the round keys 0, …, rounds of a key, one after the other
abbrev pub key_schedule : List ℕ → List ℕ
key_schedule key = expanded key (key_words key) (4 * (rounds key + 1) - key_words key)

-- round key r
abbrev pub round_key : List ℕ → ℕ → List ℕ
round_key w r = chunk (16 * r) 16 w

-- ---- the cipher and its inverse, under the round keys w

-- the state after n rounds with a MixColumns (5.1)
unfoldable pub after_rounds : List ℕ → List ℕ → ℕ → List ℕ
after_rounds w b zero = xor b (round_key w 0)
after_rounds w b (suc n) = xor (mix_columns (shift_rows (sub_bytes (after_rounds w b n)))) (round_key w (n + 1))

-- the state after n + 1 rounds, the last of them without MixColumns
abbrev pub enciphered : List ℕ → ℕ → List ℕ → List ℕ
enciphered w n b = xor (shift_rows (sub_bytes (after_rounds w b n))) (round_key w (n + 1))

-- the state after n inverse rounds, with m rounds before the last (5.3)
unfoldable pub after_inverse_rounds : List ℕ → ℕ → List ℕ → ℕ → List ℕ
after_inverse_rounds w m b zero = xor b (round_key w (m + 1))
after_inverse_rounds w m b (suc n) =
    inverse_mix_columns (xor (inverse_sub_bytes (inverse_shift_rows (after_inverse_rounds w m b n))) (round_key w (m - n)))

-- the state after m + 1 inverse rounds, the last of them without InvMixColumns
abbrev pub deciphered : List ℕ → ℕ → List ℕ → List ℕ
deciphered w m b = xor (inverse_sub_bytes (inverse_shift_rows (after_inverse_rounds w m b m))) (round_key w 0)

-- the cipher, on a block of 16 bytes under a key of 16, 24 or 32 bytes (5.1)
unfoldable pub encrypt : List ℕ → List ℕ → List ℕ
encrypt key b = enciphered (key_schedule key) (rounds key - 1) b

-- the inverse cipher, on a block of 16 bytes under a key of 16, 24 or 32 bytes (5.3)
unfoldable pub decrypt : List ℕ → List ℕ → List ℕ
decrypt key b = deciphered (key_schedule key) (rounds key - 1) b
