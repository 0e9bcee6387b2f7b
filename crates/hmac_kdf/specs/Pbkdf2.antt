-- PBKDF2 with HMAC-SHA-512 and 64 bytes out, which are one block (RFC 8018, 5.2).
use Rattle.std.specs.Prelude.{ℕ, zero, suc, ◌-◌, List, [], ◌∷◌, ◌++◌, bit_xor}
use Rattle.std.specs.Simd.Lanes.{zip2}
use Rattle.hmac_kdf.specs.Hmac.{hmac512}

-- two lists of bytes added bit by bit
abbrev pub xor_lists : List ℕ → List ℕ → List ℕ
xor_lists xs ys = zip2 bit_xor xs ys

-- INT (1), the number of the block in four bytes, most significant first
abbrev pub block_number : List ℕ
block_number = 0 ∷ 0 ∷ 0 ∷ 1 ∷ []

-- U_1 at 0, U_2 at 1 and so on: the first is the HMAC of the salt and the block's number, each later one that of the
-- one before
unfoldable pub iterate : List ℕ → List ℕ → ℕ → List ℕ
iterate password salt zero = hmac512 password (salt ++ block_number)
iterate password salt (suc n) = hmac512 password (iterate password salt n)

-- U_1 xor U_2 xor .. up to the iterate at n
unfoldable pub sum_of_iterates : List ℕ → List ℕ → ℕ → List ℕ
sum_of_iterates password salt zero = iterate password salt 0
sum_of_iterates password salt (suc n) = xor_lists (sum_of_iterates password salt n) (iterate password salt (suc n))

-- the 64 bytes for a password, a salt and a count of iterations, at least 1
abbrev pub pbkdf2 : List ℕ → List ℕ → ℕ → List ℕ
pbkdf2 password salt count = sum_of_iterates password salt (count - 1)
