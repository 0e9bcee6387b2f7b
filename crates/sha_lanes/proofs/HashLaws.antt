-- The hash of a message after a block of 64 bytes, block by block.
use Rattle.std.proofs.Common.{◌≡◌, ℕ, ◌+◌, ◌*◌, ◌/◌, ◌≤◌, List, ◌++◌, length, take, drop, append_assoc, arith, length-append, length-drop, refl, sym, ap, ◌∙◌}
use Rattle.std.proofs.lemmas.List.{drop-append-le, drop-drop, length-take-le, take-append-le, take-take, take_all}
use Rattle.std.proofs.Math.Seq.{drop-append-add}
use Rattle.sha2.specs.Sha256.{compress, final_hash, hash_after, padded_message, padding}
use Rattle.sha2.proofs.Absorbing256.{hash_after_next}
use Rattle.sha_lanes.specs.Tails.{tail_size}
use Rattle.sha_lanes.proofs.BlockLaws.{IsTail}

-- the message and its padding, after a block
abbrev rest : List ℕ → List ℕ
rest m = m ++ padding (64 + length m)

padded_is : (before m : List ℕ) → length before ≡ 64 → padded_message (before ++ m) ≡ before ++ rest m
padded_is before m long =
    let n : length (before ++ m) ≡ 64 + length m = length-append before m ∙ ap (λ (k : ℕ). k + length m) long in
    rw (n, append_assoc) refl

-- v is the hash value after the block and i more blocks
pub record IsAfter (h before m v : List ℕ) (i : ℕ) : Type 0 where
  pub after : v ≡ hash_after h (before ++ rest m) (i + 1)

pub after_first : (h before m v : List ℕ) → length before ≡ 64 → v ≡ compress h before → IsAfter h before m v 0
unfolding hash_after
after_first h before m v long e =
    let block : take 64 (before ++ rest m) ≡ before = take-append-le 64 before (rest m) (omega arith) ∙ take_all 64 before (omega arith) in
    record { after = e ∙ sym (hash_after_next h (before ++ rest m) 0 ∙ ap (compress h) block) }

-- the hash value after one block more
after_next : (h before m v w block : List ℕ) (i : ℕ) → length before ≡ 64 → IsAfter h before m v i → w ≡ compress v block
    → block ≡ take 64 (drop (i * 64) (rest m)) → IsAfter h before m w (i + 1)
after_next h before m v w block i long held e eb =
    let p = before ++ rest m in
    let place : (i + 1) * 64 ≡ length before + i * 64 = omega arith in
    let at : take 64 (drop ((i + 1) * 64) p) ≡ block = rw (place, drop-append-add before (rest m) (i * 64)) (sym eb) in
    record { after = e ∙ rw (held.after, ← at) (sym (hash_after_next h p (i + 1))) }

-- the hash value after a whole block of the message
pub after_whole : (h before m v w : List ℕ) (i : ℕ) → length before ≡ 64 → IsAfter h before m v i → 64 * i + 64 ≤ length m
    → w ≡ compress v (take 64 (drop (64 * i) m)) → IsAfter h before m w (i + 1)
after_whole h before m v w i long held fits e =
    let place : i * 64 ≡ 64 * i = omega arith in
    let pad = padding (64 + length m) in
    after_next h before m v w _ i long held e
    (rw (place, drop-append-le (64 * i) m pad (omega arith)) (sym (take-append-le 64 (drop (64 * i) m) pad (omega (arith, length-drop (64 * i) m)))))

-- what remains after the whole blocks
tail_at : (m t : List ℕ) → IsTail t m → drop (length m / 64 * 64) (rest m) ≡ take (tail_size (length m)) t
tail_at m t held = drop-append-le (length m / 64 * 64) m (padding (64 + length m)) (omega arith) ∙ sym held

-- the hash value after the first of the last blocks
pub after_tail : (h before m t v w : List ℕ) → length before ≡ 64 → length t ≡ 128 → IsTail t m → IsAfter h before m v (length m / 64)
    → w ≡ compress v (take 64 (drop 0 t)) → IsAfter h before m w (length m / 64 + 1)
after_tail h before m t v w long size held before_it e =
    after_next h before m v w _ (length m / 64) long before_it e
    (rw (tail_at m t held) (sym (take-take 64 (tail_size (length m)) t (omega arith))))

-- the hash value after the second of the last blocks
pub after_second : (h before m t v w : List ℕ) → length before ≡ 64 → length t ≡ 128 → IsTail t m → tail_size (length m) ≡ 128
    → IsAfter h before m v (length m / 64 + 1) → w ≡ compress v (take 64 (drop 64 t)) → IsAfter h before m w (length m / 64 + 2)
after_second h before m t v w long size held two before_it e =
    let q : ℕ = length m / 64 in
    let place : (q + 1) * 64 ≡ q * 64 + 64 = omega arith in
    let whole : drop (q * 64) (rest m) ≡ t = tail_at m t held ∙ rw two (take_all 128 t (omega arith)) in
    let block : take 64 (drop 64 t) ≡ take 64 (drop ((q + 1) * 64) (rest m)) = rw (place, ← drop-drop 64 (q * 64) (rest m), whole) refl in
    let end : q + 1 + 1 ≡ q + 2 = omega arith in
    rw end at (after_next h before m v w _ (q + 1) long before_it e block)

-- the hash value after all of the last blocks
pub after_all : (h before m t v : List ℕ) (i : ℕ) → length before ≡ 64 → length t ≡ 128 → IsTail t m → i * 64 ≡ length m / 64 * 64 + tail_size (length m)
    → IsAfter h before m v i → v ≡ final_hash h (before ++ m)
after_all h before m t v i long size held end at =
    let q : ℕ = length m / 64 in
    let behind : length (drop (q * 64) (rest m)) ≡ tail_size (length m) = ap length (tail_at m t held) ∙ length-take-le (tail_size (length m)) t (omega arith) in
    let some : q * 64 ≤ length (rest m) = omega (arith, length-append m (padding (64 + length m))) in
    let all : length (rest m) ≡ i * 64 = omega (arith, length-drop (q * 64) (rest m)) in
    let blocks : length (before ++ rest m) / 64 ≡ i + 1 = omega (arith, length-append before (rest m)) in
    at.after ∙ rw (padded_is before m long, blocks) refl
