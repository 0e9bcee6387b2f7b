-- Vector 2 of IEEE 1619, annex B, under keys of 128 bits.
use Rattle.std.specs.Prelude.{ℕ, List, [], ◌∷◌, replicate}

-- the key of the data
abbrev pub example_key1 : List ℕ
example_key1 = replicate 16 0x11

-- the key of the tweak
abbrev pub example_key2 : List ℕ
example_key2 = replicate 16 0x22

-- the number of the data unit
abbrev pub example_unit : ℕ
example_unit = 0x3333333333

abbrev pub xts_example_plain : List ℕ
xts_example_plain = replicate 32 0x44

abbrev pub xts_example_cipher : List ℕ
xts_example_cipher =
    0xC4 ∷ 0x54 ∷ 0x18 ∷ 0x5E ∷ 0x6A ∷ 0x16 ∷ 0x93 ∷ 0x6E ∷ 0x39 ∷ 0x33 ∷ 0x40 ∷ 0x38 ∷ 0xAC ∷ 0xEF ∷ 0x83 ∷ 0x8B ∷
    0xFB ∷ 0x18 ∷ 0x6F ∷ 0xFF ∷ 0x74 ∷ 0x80 ∷ 0xAD ∷ 0xC4 ∷ 0x28 ∷ 0x93 ∷ 0x82 ∷ 0xEC ∷ 0xD6 ∷ 0xD3 ∷ 0x94 ∷ 0xF0 ∷ []
