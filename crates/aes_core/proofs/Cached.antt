-- The cipher with its S-box as a parameter, so that the examples are computed with the table.
use Rattle.std.proofs.Common.{◌≡◌, ℕ, zero, suc, ◌+◌, ◌-◌, ◌*◌, ◌/◌, ◌%◌, ◌==◌, ◌&&◌, List, ◌++◌, map, get_or, refl, ap, ◌∙◌, if◌then◌else◌, nat_lt, arith}
use Rattle.std.proofs.lemmas.Bool.Decides.{nat_tests}
use Rattle.aes_core.specs.Aes.{sbox, xor, shift_rows, mix_columns, word, rotated, round_constant, key_words, rounds, round_key, expanded, after_rounds, encrypt}
use Rattle.aes_core.proofs.Boxes.{sbox_table, sbox_entry}

module _ (f : ℕ → ℕ) where
  abbrev pub key_term_by : ℕ → List ℕ → ℕ → List ℕ
  key_term_by nk w i =
      (if i % nk == 0 then xor (map f (rotated (word w (i - 1)))) (round_constant (i / nk))
      else if nk == 8 && i % 8 == 4 then map f (word w (i - 1))
      else word w (i - 1))

  abbrev pub expanded_by : List ℕ → ℕ → ℕ → List ℕ
  expanded_by key nk zero = key
  expanded_by key nk (suc n) = let w = expanded_by key nk n in w ++ xor (word w n) (key_term_by nk w (nk + n))

  abbrev pub after_rounds_by : List ℕ → List ℕ → ℕ → List ℕ
  after_rounds_by w b zero = xor b (round_key w 0)
  after_rounds_by w b (suc n) = xor (mix_columns (shift_rows (map f (after_rounds_by w b n)))) (round_key w (n + 1))

  abbrev pub encrypt_by : List ℕ → List ℕ → List ℕ
  encrypt_by key b =
      let w = expanded_by key (key_words key) (4 * (rounds key + 1) - key_words key) in
      xor (shift_rows (map f (after_rounds_by w b (rounds key - 1)))) (round_key w (rounds key - 1 + 1))

expanded_is : (key : List ℕ) (nk n : ℕ) → expanded key nk n ≡ expanded_by sbox key nk n
unfolding expanded
expanded_is key nk zero = refl
expanded_is key nk (suc n) = ap (λ (w : List ℕ). w ++ xor (word w n) (key_term_by sbox nk w (nk + n))) (expanded_is key nk n)

after_rounds_is : (w b : List ℕ) (n : ℕ) → after_rounds w b n ≡ after_rounds_by sbox w b n
unfolding after_rounds
after_rounds_is w b zero = refl
after_rounds_is w b (suc n) = ap (λ (s : List ℕ). xor (mix_columns (shift_rows (map sbox s))) (round_key w (n + 1))) (after_rounds_is w b n)

encrypt_is : (key b : List ℕ) → encrypt key b ≡ encrypt_by sbox key b
unfolding encrypt
encrypt_is key b =
    let n : ℕ = rounds key - 1 in
    ap (λ (w : List ℕ). xor (shift_rows (map sbox (after_rounds w b n))) (round_key w (n + 1))) (expanded_is key (key_words key) (4 * (rounds key + 1) - key_words key))
    ∙ ap (λ (s : List ℕ). xor (shift_rows (map sbox s)) (round_key (expanded_by sbox key (key_words key) (4 * (rounds key + 1) - key_words key)) (n + 1)))
    (after_rounds_is (expanded_by sbox key (key_words key) (4 * (rounds key + 1) - key_words key)) b n)

-- the S-box, from its table for the bytes that the table has
abbrev pub cached_sbox : ℕ → ℕ
cached_sbox b = if nat_lt b 256 then get_or sbox_table b 0 else sbox b

cached_is : (b : ℕ) → sbox b ≡ cached_sbox b
cached_is b = let h = sbox_entry b in grind (arith, nat_tests, h)

pub encrypt_cached : (key b : List ℕ) → encrypt key b ≡ encrypt_by cached_sbox key b
encrypt_cached key b = encrypt_is key b ∙ (λ i. encrypt_by (λ x. cached_is x i) key b)
