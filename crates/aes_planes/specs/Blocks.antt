-- Eight vectors, as eight blocks by rows, and as planes of the bits of eight blocks.
use Rattle.std.specs.Prelude.{◌≡◌, ℕ, ◌+◌, ◌-◌, ◌*◌, ◌^◌, ◌<◌, ◌≤◌, List, [], ◌∷◌, map, slice_index, slice_index_or}
use Rattle.std.specs.Int.{bit_at}
use Rattle.std.specs.Prelude.{bit_xor}
use Rattle.std.specs.Simd.Lanes.{zip2, digits_l}
use Rattle.std.specs.List.{range_with_len}
use Rattle.aes_core.specs.State.{IsState}
use Rattle.aes_core.specs.Aes.{round_key}
use Rattle.aes_planes.specs.declared.vectors.Planes.{Planes}
use Rattle.aes_planes.specs.declared.round_keys.KeyPlanes.{KeyPlanes}
use Rattle.aes_planes.specs.Planes.{planes_of, rows, turned}

-- the number with these eight bits, bit 7 first
abbrev pub from_bits : List ℕ → ℕ
from_bits b = slice_index b 7 + 2 * slice_index b 6 + 4 * slice_index b 5 + 8 * slice_index b 4 + 16 * slice_index b 3 + 32 * slice_index b 2 + 64 * slice_index b 1 + 128 * slice_index b 0

-- bit j of lane p
abbrev pub bit_in : ℕ → ℕ → List ℕ → ℕ
bit_in p j v = bit_at (slice_index v p) j

-- block j of eight planes
abbrev pub block_at : List (List ℕ) → ℕ → List ℕ
block_at ps j = map (λ p. from_bits (map (bit_in p j) ps)) (range_with_len 0 16)

-- vector j
abbrev pub vector_at : Planes → ℕ → List ℕ
vector_at q j = slice_index_or (planes_of q) (7 - j) []

-- each of the vectors has 16 bytes
pub record AreStates (q : Planes) : Type 0 where
  pub s7 : IsState q.b7
  pub s6 : IsState q.b6
  pub s5 : IsState q.b5
  pub s4 : IsState q.b4
  pub s3 : IsState q.b3
  pub s2 : IsState q.b2
  pub s1 : IsState q.b1
  pub s0 : IsState q.b0

-- each of the eight blocks of the planes k is this one
pub record AreOf (b : List ℕ) (k : Planes) : Type 0 where
  pub states : AreStates k
  pub blocks : (j : ℕ) → j < 8 → block_at (planes_of k) j ≡ b

-- the planes with a key added
abbrev pub added : Planes → Planes → List (List ℕ)
added q k = zip2 bit_xor q.b7 k.b7 ∷ zip2 bit_xor q.b6 k.b6 ∷ zip2 bit_xor q.b5 k.b5 ∷ zip2 bit_xor q.b4 k.b4 ∷ zip2 bit_xor q.b3 k.b3 ∷ zip2 bit_xor q.b2 k.b2 ∷ zip2 bit_xor q.b1 k.b1 ∷ zip2 bit_xor q.b0 k.b0 ∷ []

-- the 16 bytes of a number, the lowest first
abbrev pub plane_of : ℕ → List ℕ
plane_of n = digits_l (2 ^ 8) 16 n

-- the planes in a round key's numbers
abbrev pub key_at : KeyPlanes → Planes
key_at k = record { b7 = plane_of k.b7; b6 = plane_of k.b6; b5 = plane_of k.b5; b4 = plane_of k.b4; b3 = plane_of k.b3; b2 = plane_of k.b2; b1 = plane_of k.b1; b0 = plane_of k.b0 }

-- the planes are those of the round keys 0, …, m + 1 of w: the first one as it is, the others with the constant of the
-- S-box added, and those between by rows
pub record AreKeys (w : List ℕ) (m : ℕ) (keys : List KeyPlanes) : Type 0 where
  pub first : (d : KeyPlanes) → AreOf (round_key w 0) (key_at (slice_index_or keys 0 d))
  pub between : (r : ℕ) → r < m → (d : KeyPlanes) → AreOf (rows (turned (round_key w (r + 1)))) (key_at (slice_index_or keys (r + 1) d))
  pub last : (d : KeyPlanes) → AreOf (turned (round_key w (m + 1))) (key_at (slice_index_or keys (m + 1) d))
  pub states : (r : ℕ) → r ≤ m + 1 → IsState (round_key w r)
