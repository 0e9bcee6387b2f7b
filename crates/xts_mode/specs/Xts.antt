-- XTS over AES, on whole blocks (IEEE 1619, 5).
use Rattle.std.specs.Prelude.{ℕ, zero, suc, ◌*◌, ◌/◌, ◌%◌, ◌^◌, List, ◌++◌, length, replicate, bit_xor}
use Rattle.std.specs.Int.{w64, w128, to_le_bytes, from_le_bytes}
use Rattle.aes_core.specs.Aes.{xor, encrypt, decrypt}
use Rattle.aes_core.specs.Blocks.{block, blocks}

-- a tweak times x, as a number of 128 bits whose lowest byte comes first (5.2)
abbrev pub doubled : ℕ → ℕ
doubled t = bit_xor (2 * t % 2 ^ 128) (t / 2 ^ 127 * 0x87)

-- the tweak of block j, from that of block 0
unfoldable pub tweak_at : ℕ → ℕ → ℕ
tweak_at t zero = t
tweak_at t (suc j) = doubled (tweak_at t j)

-- the tweak of block 0 of the data unit with this number (5.1 and 5.3.1)
unfoldable pub first_tweak : List ℕ → ℕ → ℕ
first_tweak key2 unit = from_le_bytes w128 (encrypt key2 (to_le_bytes w64 unit ++ replicate 8 0))

-- block j, with its tweak added before and after f
abbrev pub tweaked_block : (List ℕ → List ℕ) → ℕ → List ℕ → ℕ → List ℕ
tweaked_block f t p j = let mask = to_le_bytes w128 (tweak_at t j) in xor (f (xor (block p j) mask)) mask

-- the ciphertext of p, under the key of the data and that of the tweak (5.3)
abbrev pub xts_seal : List ℕ → List ℕ → ℕ → List ℕ → List ℕ
xts_seal key1 key2 unit p = blocks (tweaked_block (encrypt key1) (first_tweak key2 unit) p) (length p / 16)

-- the plaintext of c, under the key of the data and that of the tweak (5.4)
abbrev pub xts_open : List ℕ → List ℕ → ℕ → List ℕ → List ℕ
xts_open key1 key2 unit c = blocks (tweaked_block (decrypt key1) (first_tweak key2 unit) c) (length c / 16)
