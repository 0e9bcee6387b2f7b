-- Cipher block chaining over AES, on whole blocks (NIST SP 800-38A, 6.2).
use Rattle.std.specs.Prelude.{ℕ, zero, suc, ◌+◌, ◌/◌, List, ◌++◌, length}
use Rattle.aes_core.specs.Aes.{xor, encrypt, decrypt}
use Rattle.aes_core.specs.Blocks.{block, blocks}

-- block j - 1 of the ciphertext of p, which for j = 0 is the initialization vector
unfoldable pub chained : List ℕ → List ℕ → List ℕ → ℕ → List ℕ
chained key iv p zero = iv
chained key iv p (suc j) = encrypt key (xor (block p j) (chained key iv p j))

-- block j of the ciphertext of p
abbrev pub sealed : List ℕ → List ℕ → List ℕ → ℕ → List ℕ
sealed key iv p j = chained key iv p (j + 1)

-- the ciphertext of p
abbrev pub cbc_seal : List ℕ → List ℕ → List ℕ → List ℕ
cbc_seal key iv p = blocks (sealed key iv p) (length p / 16)

-- block j of the plaintext of c; the block before block j of c is block j of iv ++ c
abbrev pub opened_block : List ℕ → List ℕ → List ℕ → ℕ → List ℕ
opened_block key iv c j = xor (decrypt key (block c j)) (block (iv ++ c) j)

-- the plaintext of c
abbrev pub cbc_open : List ℕ → List ℕ → List ℕ → List ℕ
cbc_open key iv c = blocks (opened_block key iv c) (length c / 16)
