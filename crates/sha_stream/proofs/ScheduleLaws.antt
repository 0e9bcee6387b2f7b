-- The message schedule of a block, four words at a time, and the rounds with them.
use Rattle.std.proofs.Common.{◌≡◌, ℕ, ◌+◌, ◌-◌, ◌*◌, ◌<◌, ◌≤◌, List, [], ◌∷◌, slice_index, ap, arith, refl, sym, ◌∙◌}
use Rattle.sha2.specs.Sha256.{add32, round, round_constants, rounds, schedule, small_sigma0, small_sigma1, word_at}
use Rattle.sha2.proofs.Schedule256.{rounds_next, slice_index-schedule_first, slice_index-schedule_next}
use Rattle.sha_stream.specs.Schedule.{AreWordsAt}
use Rattle.sha_stream.proofs.LaneLaws.{below_four}

-- the first words of a schedule are the block's
pub first_words_at : (b : List ℕ) (t x0 x1 x2 x3 : ℕ) → t + 4 ≤ 16 → x0 ≡ word_at b (4 * t) → x1 ≡ word_at b (4 * t + 4) → x2 ≡ word_at b (4 * t + 8)
    → x3 ≡ word_at b (4 * t + 12) → AreWordsAt (schedule b 48) t (x0 ∷ x1 ∷ x2 ∷ x3 ∷ [])
first_words_at b t x0 x1 x2 x3 room e0 e1 e2 e3 =
    let word : (j i x : ℕ) → j < 4 → x ≡ word_at b i → i ≡ 4 * (t + j) → x ≡ slice_index (schedule b 48) (t + j) =
    λ j i x lt e at. e ∙ ap (word_at b) at ∙ sym (slice_index-schedule_first b 48 (t + j) (omega arith)) in
    below_four _ (word 0 _ x0 (omega arith) e0 (omega arith)) (word 1 _ x1 (omega arith) e1 (omega arith)) (word 2 _ x2 (omega arith) e2 (omega arith))
    (word 3 _ x3 (omega arith) e3 (omega arith))

-- words at a place are also those at a place equal to it
pub words_at_same : (ws x : List ℕ) (t t' : ℕ) → t ≡ t' → AreWordsAt ws t x → AreWordsAt ws t' x
words_at_same ws x t t' e are = rw (← e) are

-- the sum of a word, in the order of the vectors and in the standard's
sum_order : (oldest s0 seventh s1 : ℕ) → add32 (add32 (add32 oldest s0) seventh) s1 ≡ add32 (add32 (add32 s1 seventh) s0) oldest
sum_order oldest s0 seventh s1 = omega arith

-- word t of a schedule, from four words before it
word_from : (b : List ℕ) (t x2 x7 x15 x16 : ℕ) → 16 ≤ t → t < 64 → x2 ≡ slice_index (schedule b 48) (t - 2) → x7 ≡ slice_index (schedule b 48) (t - 7)
    → x15 ≡ slice_index (schedule b 48) (t - 15) → x16 ≡ slice_index (schedule b 48) (t - 16)
    → add32 (add32 (add32 x16 (small_sigma0 x15)) x7) (small_sigma1 x2) ≡ slice_index (schedule b 48) t
word_from b t x2 x7 x15 x16 low high e2 e7 e15 e16 =
    rw (e2, e7, e15, e16) (sum_order _ _ _ _ ∙ sym (slice_index-schedule_next b 48 t low high))

-- a sum with σ 1 of no word added, as it stands in the lanes that wait for theirs or have it already
nothing_added : (x y : ℕ) → add32 (add32 x y) (small_sigma1 0) ≡ add32 x y
nothing_added x y = omega arith

-- the next four words of a schedule, by what is known before them, and by what the first two are
pub next_words_at : (b : List ℕ) (t : ℕ) (p q r s known first next : List ℕ) → t + 20 ≤ 64
    → AreWordsAt (schedule b 48) t p → AreWordsAt (schedule b 48) (t + 4) q → AreWordsAt (schedule b 48) (t + 8) r → AreWordsAt (schedule b 48) (t + 12) s
    → ((j : ℕ) → j < 4 → slice_index known j
    ≡ add32 (add32 (slice_index p j) (small_sigma0 (slice_index (slice_index p 1 ∷ slice_index p 2 ∷ slice_index p 3 ∷ slice_index q 0 ∷ []) j)))
    (slice_index (slice_index r 1 ∷ slice_index r 2 ∷ slice_index r 3 ∷ slice_index s 0 ∷ []) j))
    → ((j : ℕ) → j < 4 → slice_index first j ≡ add32 (slice_index known j) (small_sigma1 (slice_index (slice_index s 2 ∷ slice_index s 3 ∷ 0 ∷ 0 ∷ []) j)))
    → ((j : ℕ) → j < 4 → slice_index next j ≡ add32 (slice_index first j) (small_sigma1 (slice_index (0 ∷ 0 ∷ slice_index first 0 ∷ slice_index first 1 ∷ []) j)))
    → AreWordsAt (schedule b 48) (t + 16) next
next_words_at b t p q r s known first next room hp hq hr hs ek ef en =
    let ws : List ℕ = schedule b 48 in
    let at : (x i k : ℕ) → x ≡ slice_index ws i → i ≡ k → x ≡ slice_index ws k = λ x i k e ik. e ∙ ap (slice_index ws) ik in
    let f0 : slice_index first 0 ≡ slice_index ws (t + 16 + 0) =
    ef 0 (omega arith) ∙ rw (ek 0 (omega arith)) (word_from b (t + 16 + 0) _ _ _ _ (omega arith) (omega arith) (at _ _ _ (hs 2 (omega arith)) (omega arith))
    (at _ _ _ (hr 1 (omega arith)) (omega arith)) (at _ _ _ (hp 1 (omega arith)) (omega arith)) (at _ _ _ (hp 0 (omega arith)) (omega arith))) in
    let f1 : slice_index first 1 ≡ slice_index ws (t + 16 + 1) =
    ef 1 (omega arith) ∙ rw (ek 1 (omega arith)) (word_from b (t + 16 + 1) _ _ _ _ (omega arith) (omega arith) (at _ _ _ (hs 3 (omega arith)) (omega arith))
    (at _ _ _ (hr 2 (omega arith)) (omega arith)) (at _ _ _ (hp 2 (omega arith)) (omega arith)) (at _ _ _ (hp 1 (omega arith)) (omega arith))) in
    let n0 : slice_index next 0 ≡ slice_index first 0 = en 0 (omega arith) ∙ rw (ef 0 (omega arith)) (nothing_added _ _) in
    let n1 : slice_index next 1 ≡ slice_index first 1 = en 1 (omega arith) ∙ rw (ef 1 (omega arith)) (nothing_added _ _) in
    let f2 : slice_index first 2 ≡ slice_index known 2 = ef 2 (omega arith) ∙ rw (ek 2 (omega arith)) (nothing_added _ _) in
    let f3 : slice_index first 3 ≡ slice_index known 3 = ef 3 (omega arith) ∙ rw (ek 3 (omega arith)) (nothing_added _ _) in
    let w2 : slice_index next 2 ≡ slice_index ws (t + 16 + 2) =
    en 2 (omega arith) ∙ rw (f2, ek 2 (omega arith)) (word_from b (t + 16 + 2) _ _ _ _ (omega arith) (omega arith) (at _ _ _ f0 (omega arith))
    (at _ _ _ (hr 3 (omega arith)) (omega arith)) (at _ _ _ (hp 3 (omega arith)) (omega arith)) (at _ _ _ (hp 2 (omega arith)) (omega arith))) in
    let w3 : slice_index next 3 ≡ slice_index ws (t + 16 + 3) =
    en 3 (omega arith) ∙ rw (f3, ek 3 (omega arith)) (word_from b (t + 16 + 3) _ _ _ _ (omega arith) (omega arith) (at _ _ _ f1 (omega arith))
    (at _ _ _ (hs 0 (omega arith)) (omega arith)) (at _ _ _ (hq 0 (omega arith)) (omega arith)) (at _ _ _ (hp 3 (omega arith)) (omega arith))) in
    below_four _ (n0 ∙ f0) (n1 ∙ f1) w2 w3

-- one more round, with its parts given by equations
pub next_round : (h ws v next words : List ℕ) (t t' j : ℕ) → j < 4 → v ≡ rounds h ws t' → t' ≡ t + j → AreWordsAt ws t words
    → next ≡ round v (slice_index round_constants (t + j)) (slice_index words j) → next ≡ rounds h ws (t + j + 1)
next_round h ws v next words t t' j lt ev et are en =
    rw en (rw (rounds_next h ws (t + j), ← et, ← ev, et, are j lt) refl)
