-- The iterates of PBKDF2 and their sum, one more at a time.
use Rattle.std.proofs.Common.{◌≡◌, ℕ, suc, List, ◌++◌, ap, ◌∙◌}
use Rattle.hmac_kdf.specs.Hmac.{hmac512}
use Rattle.hmac_kdf.specs.Pbkdf2.{xor_lists, block_number, iterate, sum_of_iterates}

pub first_iterate : (p s u : List ℕ) → u ≡ hmac512 p (s ++ block_number) → u ≡ iterate p s 0
unfolding iterate
first_iterate p s u e = e

pub next_iterate : (p s u v : List ℕ) (n : ℕ) → u ≡ iterate p s n → v ≡ hmac512 p u → v ≡ iterate p s (suc n)
unfolding iterate
next_iterate p s u v n eu ev = ev ∙ ap (hmac512 p) eu

pub first_sum : (p s u : List ℕ) → u ≡ iterate p s 0 → u ≡ sum_of_iterates p s 0
unfolding sum_of_iterates
first_sum p s u e = e

pub next_sum : (p s o r v : List ℕ) (n : ℕ) → o ≡ sum_of_iterates p s n → v ≡ iterate p s (suc n) → r ≡ xor_lists o v → r ≡ sum_of_iterates p s (suc n)
unfolding sum_of_iterates
next_sum p s o r v n eo ev er = er ∙ (λ i. xor_lists (eo i) (ev i))
