-- The tweaks of a data unit, block by block, and that opening undoes sealing.
use Rattle.std.proofs.Common.{◌≡◌, ℕ, zero, suc, ◌+◌, ◌*◌, ◌/◌, ◌%◌, ◌<◌, ◌≤◌, List, length, refl, sym, ap, ◌∙◌, arith, lit<}
use Rattle.std.specs.Int.{w128, bytes_low_first, to_le_bytes}
use Rattle.aes_core.specs.Aes.{xor, encrypt, decrypt}
use Rattle.aes_core.specs.Blocks.{block, blocks}
use Rattle.aes_core.specs.Schedule.{AreBytes, IsKey}
use Rattle.aes_core.proofs.Inverse.{IsState, IsState-xor, xor-xor}
use Rattle.aes_core.proofs.KeyBytes.{IsState-block, IsState-encrypt, byte_at-lt, decrypt-encrypt}
use Rattle.aes_core.proofs.BlockLists.{AreBlocks, length-blocks, block-blocks, blocks-same, blocks-block}
use Rattle.xts_mode.specs.Xts.{doubled, tweak_at, first_tweak, tweaked_block, xts_seal, xts_open}

pub tweak_start : (t : ℕ) → tweak_at t 0 ≡ t
unfolding tweak_at
tweak_start t = refl

-- the tweak i blocks after block j
pub tweak_at-add : (t j i : ℕ) → tweak_at (tweak_at t j) i ≡ tweak_at t (j + i)
unfolding tweak_at
tweak_at-add t j zero =
    let same : j + zero ≡ j = omega arith in
    sym (ap (tweak_at t) same)
tweak_at-add t j (suc i) =
    let more : j + suc i ≡ suc (j + i) = omega arith in
    ap doubled (tweak_at-add t j i) ∙ sym (ap (tweak_at t) more)

-- block i of a part that begins with block j
pub tweaked_block-part : (f : List ℕ → List ℕ) (p part : List ℕ) (t now j i : ℕ) → now ≡ tweak_at t j → block part i ≡ block p (j + i) → tweaked_block f now part i ≡ tweaked_block f t p (j + i)
tweaked_block-part f p part t now j i et eb =
    let e : tweak_at now i ≡ tweak_at t (j + i) = ap (λ (x : ℕ). tweak_at x i) et ∙ tweak_at-add t j i in
    (λ k. let mask = to_le_bytes w128 (e k) in xor (f (xor (eb k) mask)) mask)

AreBytes-low_first : (i k n : ℕ) → AreBytes (bytes_low_first i k n)
AreBytes-low_first i zero n m = lit< tt
AreBytes-low_first i (suc k) n zero = byte_at-lt i n
AreBytes-low_first i (suc k) n (suc m) = AreBytes-low_first (suc i) k n m

IsState-mask : (t : ℕ) → IsState (to_le_bytes w128 t)
IsState-mask t = record { long = refl; bytes = AreBytes-low_first 0 16 t }

IsState-tweaked_block : (key p : List ℕ) (t j : ℕ) → IsKey key → AreBytes p → 16 * j + 16 ≤ length p → IsState (tweaked_block (encrypt key) t p j)
IsState-tweaked_block key p t j hk small le =
    let mask : List ℕ = to_le_bytes w128 (tweak_at t j) in
    let hm = IsState-mask (tweak_at t j) in
    IsState-xor (encrypt key (xor (block p j) mask)) mask
    (IsState-encrypt key (xor (block p j) mask) hk (IsState-xor (block p j) mask (IsState-block p j small le) hm)) hm

-- one block opens to what it was
opened-sealed : (key p : List ℕ) (t n j : ℕ) → IsKey key → AreBytes p → length p ≡ 16 * n → j < n
    → tweaked_block (decrypt key) t (blocks (tweaked_block (encrypt key) t p) n) j ≡ block p j
opened-sealed key p t n j hk small len lt =
    let f : ℕ → List ℕ = tweaked_block (encrypt key) t p in
    let are : AreBlocks f n = λ i below. (IsState-tweaked_block key p t i hk small (omega arith)).long in
    let mask : List ℕ = to_le_bytes w128 (tweak_at t j) in
    let hm = IsState-mask (tweak_at t j) in
    let plain = IsState-block p j small (omega arith) in
    let mixed = IsState-xor (block p j) mask plain hm in
    let sealed = IsState-encrypt key (xor (block p j) mask) hk mixed in
    ap (λ (b : List ℕ). xor (decrypt key (xor b mask)) mask) (block-blocks f n j are lt)
    ∙ ap (λ (b : List ℕ). xor (decrypt key b) mask) (xor-xor (encrypt key (xor (block p j) mask)) mask (sealed.long ∙ sym hm.long))
    ∙ ap (λ (b : List ℕ). xor b mask) (decrypt-encrypt key (xor (block p j) mask) hk mixed.long mixed.bytes)
    ∙ xor-xor (block p j) mask (plain.long ∙ sym hm.long)

-- what is sealed opens to what it was
pub xts_open-xts_seal : (key1 key2 p : List ℕ) (unit : ℕ) → IsKey key1 → AreBytes p → length p % 16 ≡ 0 → xts_open key1 key2 unit (xts_seal key1 key2 unit p) ≡ p
xts_open-xts_seal key1 key2 p unit hk small whole =
    let n : ℕ = length p / 16 in
    let t : ℕ = first_tweak key2 unit in
    let f : ℕ → List ℕ = tweaked_block (encrypt key1) t p in
    let lp : length p ≡ 16 * n = omega arith in
    let are : AreBlocks f n = λ i below. (IsState-tweaked_block key1 p t i hk small (omega arith)).long in
    let lc = length-blocks f n are in
    let count : length (blocks f n) / 16 ≡ n = omega arith in
    ap (λ (m : ℕ). blocks (tweaked_block (decrypt key1) t (blocks f n)) m) count
    ∙ blocks-same (tweaked_block (decrypt key1) t (blocks f n)) (block p) n (λ j lt. opened-sealed key1 p t n j hk small lp lt)
    ∙ blocks-block p n lp
