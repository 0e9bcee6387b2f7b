-- Blocks of a text: their words, the block of a key, and the last blocks of a message.
use Rattle.std.proofs.Common.{◌≡◌, ℕ, zero, suc, ◌+◌, ◌-◌, ◌*◌, ◌/◌, ◌%◌, ◌^◌, ◌<◌, ◌≤◌, List, ◌∷◌, ◌++◌, length, map, take, drop, replicate, slice_index, bit_xor, append_assoc, arith, length-drop, refl, sym, ap, ◌∙◌}
use Rattle.std.proofs.lemmas.List.{map-append, take-append-drop}
use Rattle.std.proofs.lemmas.Simd.{get_or-chunk, length-replicate}
use Rattle.std.specs.Int.{w64, to_be_bytes}
use Rattle.sha2.specs.Sha256.{padding, sha256, word_at}
use Rattle.sha2.proofs.Absorbing256.{padding-take}
use Rattle.hmac_kdf.specs.Hmac.{key_block, masked}
use Rattle.sha_lanes.specs.Tails.{tail_size}
use lib.Bits.{xor_zero_r}

-- a word of the block that begins at this byte of a text
pub word_of_block : (text : List ℕ) (at k : ℕ) → k < 16 → word_at text (at + 4 * k) ≡ word_at (take 64 (drop at text)) (4 * k)
word_of_block text at k below =
    let one : (i : ℕ) → i < 4 → slice_index (take 64 (drop at text)) (4 * k + i) ≡ slice_index text (at + (4 * k + i)) =
    λ i h. get_or-chunk at 64 text (4 * k + i) 0 (omega arith) in
    let e1 : at + 4 * k + 1 ≡ at + (4 * k + 1) = omega arith in
    let e2 : at + 4 * k + 2 ≡ at + (4 * k + 2) = omega arith in
    let e3 : at + 4 * k + 3 ≡ at + (4 * k + 3) = omega arith in
    rw (e1, e2, e3, get_or-chunk at 64 text (4 * k) 0 (omega arith), one 1 (omega arith), one 2 (omega arith), one 3 (omega arith)) refl

map-replicate : (f : ℕ → ℕ) (n x : ℕ) → map f (replicate n x) ≡ replicate n (f x)
map-replicate f zero x = refl
map-replicate f (suc n) x = ap (λ (l : List ℕ). f x ∷ l) (map-replicate f n x)

-- a block whose first bytes are those of the key, and the others zeros, each with the pad added
pub masked_key_is : (pad : ℕ) (key block : List ℕ) → length key ≡ 32 → take 32 block ≡ map (bit_xor pad) key → drop 32 block ≡ replicate 32 pad
    → block ≡ masked pad (key_block sha256 64 key)
masked_key_is pad key block long front back =
    let filled : key_block sha256 64 key ≡ key ++ replicate 32 0 = rw (long, long) refl in
    let zeros : map (bit_xor pad) (replicate 32 0) ≡ replicate 32 pad = map-replicate (bit_xor pad) 32 0 ∙ ap (λ (x : ℕ). replicate 32 x) (xor_zero_r pad) in
    let whole : masked pad (key_block sha256 64 key) ≡ map (bit_xor pad) key ++ replicate 32 pad =
    ap (masked pad) filled ∙ map-append (bit_xor pad) key (replicate 32 0) ∙ ap (λ (l : List ℕ). map (bit_xor pad) key ++ l) zeros in
    sym (take-append-drop 32 block) ∙ rw (front, back) (sym whole)

-- the padding's first bytes, after the bytes of a message that follows a block
padding_first : (n used field z : ℕ) → used ≡ n % 64 → field ≡ tail_size n - 8 → z ≡ (119 - (64 + n) % 64) % 64
    → take {A = ℕ} (field - used) (0x80 ∷ replicate 63 0) ≡ 0x80 ∷ replicate z 0
padding_first n used field z eu ef ez =
    let e : field - used ≡ z + 1 = omega arith in
    rw e (padding-take 0x80 0 z (omega arith))

-- the last blocks of a message m that follows a block
abbrev pub IsTail : List ℕ → List ℕ → Type 0
IsTail t m = take (tail_size (length m)) t ≡ drop (length m / 64 * 64) m ++ padding (64 + length m)

-- the last blocks are put together from the message's last bytes, the first bytes of the padding and the length in bits
pub tail_is : (m t0 t1 t2 t3 front zeros bits : List ℕ) (used field : ℕ) → used ≡ length m % 64 → field ≡ tail_size (length m) - 8
    → take (0 + length front) t1 ≡ take 0 t0 ++ front → front ≡ drop (length m - used) m
    → take (used + length zeros) t2 ≡ take used t1 ++ zeros → zeros ≡ take {A = ℕ} (field - used) (0x80 ∷ replicate 63 0)
    → take (field + length bits) t3 ≡ take field t2 ++ bits → bits ≡ to_be_bytes w64 ((64 + length m) * 8 % 2 ^ 64)
    → IsTail t3 m
tail_is m t0 t1 t2 t3 front zeros bits used field eu ef p1 e1 p2 e2 p3 e3 =
    let n : ℕ = length m in
    let z : ℕ = (119 - (64 + n) % 64) % 64 in
    let le : used ≤ n = omega arith in
    let l1 : length front ≡ used = ap length e1 ∙ length-drop (n - used) m ∙ omega arith in
    let start : n - used ≡ n / 64 * 64 = omega arith in
    let z2 : zeros ≡ 0x80 ∷ replicate z 0 = e2 ∙ padding_first n used field z eu ef refl in
    let l2 : length zeros ≡ z + 1 = ap length z2 ∙ omega (arith, length-replicate {A = ℕ} z 0) in
    let l3 : length bits ≡ 8 = ap length e3 in
    let end1 : 0 + length front ≡ used = omega arith in
    let at1 : take used t1 ≡ front = rw end1 at p1 in
    let end2 : used + length zeros ≡ field = omega arith in
    let at2 : take field t2 ≡ front ++ zeros = rw (end2, at1) at p2 in
    let end3 : field + length bits ≡ tail_size n = omega arith in
    let at3 : take (tail_size n) t3 ≡ (front ++ zeros) ++ bits = rw (end3, at2) at p3 in
    at3 ∙ append_assoc front zeros bits ∙ rw (e1, start, z2, e3) refl
