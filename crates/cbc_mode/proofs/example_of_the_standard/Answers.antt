use Rattle.std.proofs.Common.{◌≡◌, ℕ, zero, suc, ◌+◌, ◌/◌, List, length, refl, ap, ◌∙◌}
use Rattle.aes_core.specs.Field.{times, power}
use Rattle.aes_core.specs.Aes.{xor, encrypt}
use Rattle.aes_core.specs.Blocks.{block, blocks}
use Rattle.aes_core.proofs.Cached.{encrypt_cached}
use Rattle.cbc_mode.specs.Cbc.{chained}
use Rattle.cbc_mode.specs.Examples.{cbc_example_key, example_iv, cbc_example_plain}
use Rattle.cbc_mode.proofs.example_of_the_standard.Goals as goal

-- the chain with its cipher as a parameter
abbrev chained_by : (List ℕ → List ℕ) → List ℕ → List ℕ → ℕ → List ℕ
chained_by f iv p zero = iv
chained_by f iv p (suc j) = f (xor (block p j) (chained_by f iv p j))

chained_is : (key iv p : List ℕ) (j : ℕ) → chained key iv p j ≡ chained_by (encrypt key) iv p j
unfolding chained
chained_is key iv p zero = refl
chained_is key iv p (suc j) = ap (λ (l : List ℕ). encrypt key (xor (block p j) l)) (chained_is key iv p j)

pub returns : goal.returns
unfolding times power blocks
returns c =
    (λ i. blocks (λ j. chained_is cbc_example_key example_iv cbc_example_plain (j + 1) i) (length cbc_example_plain / 16))
    ∙ (λ i. blocks (λ j. chained_by (λ x. encrypt_cached cbc_example_key x i) example_iv cbc_example_plain (j + 1)) (length cbc_example_plain / 16))
