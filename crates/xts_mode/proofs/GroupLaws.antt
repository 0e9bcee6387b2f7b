-- Groups of eight and of sixteen blocks under their tweaks, and the run of groups over a data unit.
use Rattle.std.proofs.Common.{◌≡◌, ℕ, suc, ◌+◌, ◌-◌, ◌*◌, ◌/◌, ◌%◌, ◌<◌, ◌≤◌, List, [], ◌∷◌, ◌++◌, get_or, length, take, drop, sym, ap, subst, ◌∙◌, arith}
use Rattle.std.proofs.lemmas.Simd.{length-chunk}
use Rattle.std.specs.Int.{w128, to_le_bytes}
use borrow.Rule.Slice.PartMut.{put_mid}
use Rattle.aes_core.specs.Aes.{xor}
use Rattle.aes_core.specs.Blocks.{block}
use Rattle.aes_core.proofs.InPlace.{IsDone, IsDone-part, IsDone-more, block-take}
use Rattle.aes_core.proofs.KeyWords.{chunk-append}
use Rattle.aes_planes.specs.Planes.{planes_of}
use Rattle.aes_planes.specs.Blocks.{vector_at, added, plane_of}
use Rattle.aes_planes.specs.Wide.{side}
use Rattle.aes_planes.specs.declared.vectors.Planes.{Planes}
use Rattle.aes_planes.specs.declared.vectors.WidePlanes.{WidePlanes}
use Rattle.aes_planes.proofs.BlockLaws.{eight, summed_at}
use Rattle.aes_planes.proofs.WideLaws.{two}
use Rattle.xts_mode.specs.Halves.{of_halves}
use Rattle.xts_mode.specs.Xts.{doubled, tweak_at, tweaked_block}
use Rattle.xts_mode.proofs.Halves.{digits_are_bytes}
use Rattle.xts_mode.proofs.Tweaks.{tweak_start, tweak_at-add, tweaked_block-part}

-- the tweaks of eight blocks, of which each is the one before it times x
pub masks_are : (q : Planes) (t t1 t2 t3 t4 t5 t6 t7 : List ℕ)
    → planes_of q ≡ plane_of (of_halves t7) ∷ plane_of (of_halves t6) ∷ plane_of (of_halves t5) ∷ plane_of (of_halves t4) ∷ plane_of (of_halves t3) ∷ plane_of (of_halves t2) ∷ plane_of (of_halves t1) ∷ plane_of (of_halves t) ∷ []
    → of_halves t1 ≡ tweak_at (of_halves t) 1 → of_halves t2 ≡ tweak_at (of_halves t) 2 → of_halves t3 ≡ tweak_at (of_halves t) 3 → of_halves t4 ≡ tweak_at (of_halves t) 4
    → of_halves t5 ≡ tweak_at (of_halves t) 5 → of_halves t6 ≡ tweak_at (of_halves t) 6 → of_halves t7 ≡ tweak_at (of_halves t) 7
    → (j : ℕ) → j < 8 → vector_at q j ≡ to_le_bytes w128 (tweak_at (of_halves t) j)
unfolding tweak_at
masks_are q t t1 t2 t3 t4 t5 t6 t7 e e1 e2 e3 e4 e5 e6 e7 j lj =
    let P : ℕ → Type 0 = λ j. vector_at q j ≡ to_le_bytes w128 (tweak_at (of_halves t) j) in
    let at : (n : ℕ) → get_or (planes_of q) n [] ≡ get_or (plane_of (of_halves t7) ∷ plane_of (of_halves t6) ∷ plane_of (of_halves t5) ∷ plane_of (of_halves t4) ∷ plane_of (of_halves t3) ∷ plane_of (of_halves t2) ∷ plane_of (of_halves t1) ∷ plane_of (of_halves t) ∷ []) n [] =
    λ n. ap (λ (l : List (List ℕ)). get_or l n []) e in
    eight P (at 7 ∙ digits_are_bytes (of_halves t)) (at 6 ∙ digits_are_bytes (of_halves t1) ∙ ap (to_le_bytes w128) e1) (at 5 ∙ digits_are_bytes (of_halves t2) ∙ ap (to_le_bytes w128) e2)
    (at 4 ∙ digits_are_bytes (of_halves t3) ∙ ap (to_le_bytes w128) e3) (at 3 ∙ digits_are_bytes (of_halves t4) ∙ ap (to_le_bytes w128) e4) (at 2 ∙ digits_are_bytes (of_halves t5) ∙ ap (to_le_bytes w128) e5)
    (at 1 ∙ digits_are_bytes (of_halves t6) ∙ ap (to_le_bytes w128) e6) (at 0 ∙ digits_are_bytes (of_halves t7) ∙ ap (to_le_bytes w128) e7) j lj

-- the tweak n + 1 blocks on
pub next_tweak : (t now next n : ℕ) → now ≡ tweak_at t n → next ≡ doubled now → next ≡ tweak_at t (n + 1)
unfolding tweak_at
next_tweak t now next n e en =
    let more : n + 1 ≡ suc n = omega arith in
    en ∙ ap doubled e ∙ sym (ap (tweak_at t) more)

-- the masks of two blocks, and the tweak after them
pub two_masks : (t now : ℕ) (mask : List ℕ) (n : ℕ) → now ≡ tweak_at t n → block mask 0 ≡ to_le_bytes w128 now → block mask 1 ≡ to_le_bytes w128 (tweak_at now 1)
    → (i : ℕ) → i < 2 → block mask i ≡ to_le_bytes w128 (tweak_at t (n + i))
two_masks t now mask n e first second i li =
    let same : n ≡ n + 0 = omega arith in
    two (λ i. block mask i ≡ to_le_bytes w128 (tweak_at t (n + i))) (first ∙ ap (to_le_bytes w128) (e ∙ ap (tweak_at t) same))
    (second ∙ ap (to_le_bytes w128) (ap (λ (x : ℕ). tweak_at x 1) e ∙ tweak_at-add t n 1)) i li

pub two_on : (t now next n : ℕ) → now ≡ tweak_at t n → next ≡ tweak_at now 2 → next ≡ tweak_at t (n + 2)
two_on t now next n e en = en ∙ ap (λ (x : ℕ). tweak_at x 2) e ∙ tweak_at-add t n 2

-- what the vectors of a group become
pub group_masked : (f : List ℕ → List ℕ) (q m p r s : Planes) (out old : List ℕ) (t : ℕ)
    → ((j : ℕ) → j < 8 → vector_at m j ≡ to_le_bytes w128 (tweak_at t j)) → ((j : ℕ) → j < 8 → vector_at q j ≡ block old j) → planes_of p ≡ added q m
    → ((j : ℕ) → j < 8 → vector_at r j ≡ f (vector_at p j)) → planes_of s ≡ added r m → ((j : ℕ) → j < 8 → block out j ≡ vector_at s j)
    → (j : ℕ) → j < 8 → block out j ≡ tweaked_block f t old j
group_masked f q m p r s out old t masks load ep ef es eo j lj =
    let inner = ef j lj ∙ ap f (summed_at q m p ep j lj ∙ (λ i. xor (load j lj i) (masks j lj i))) in
    eo j lj ∙ summed_at r m s es j lj ∙ (λ i. xor (inner i) (masks j lj i))

-- what the vectors of two blocks become
pub wide_masked : (f : List ℕ → List ℕ) (q m p r s : WidePlanes) (out old : List ℕ) (t : ℕ)
    → ((i : ℕ) → i < 2 → (j : ℕ) → j < 8 → vector_at (side i m) j ≡ to_le_bytes w128 (tweak_at t (2 * j + i)))
    → ((i : ℕ) → i < 2 → (j : ℕ) → j < 8 → vector_at (side i q) j ≡ block old (2 * j + i)) → ((i : ℕ) → i < 2 → planes_of (side i p) ≡ added (side i q) (side i m))
    → ((i : ℕ) → i < 2 → (j : ℕ) → j < 8 → vector_at (side i r) j ≡ f (vector_at (side i p) j)) → ((i : ℕ) → i < 2 → planes_of (side i s) ≡ added (side i r) (side i m))
    → ((i : ℕ) → i < 2 → (j : ℕ) → j < 8 → block out (2 * j + i) ≡ vector_at (side i s) j)
    → (n : ℕ) → n < 16 → block out n ≡ tweaked_block f t old n
wide_masked f q m p r s out old t masks load ep ef es eo n ln =
    let i : ℕ = n % 2 in
    let j : ℕ = n / 2 in
    let li : i < 2 = omega arith in
    let lj : j < 8 = omega arith in
    let at : 2 * j + i ≡ n = omega arith in
    let inner = ef i li j lj ∙ ap f (summed_at (side i q) (side i m) (side i p) (ep i li) j lj ∙ (λ k. xor (load i li j lj k) (masks i li j lj k))) in
    subst (λ (b : ℕ). block out b ≡ tweaked_block f t old b) at
    (eo i li j lj ∙ summed_at (side i r) (side i m) (side i s) (es i li) j lj ∙ (λ k. xor (inner k) (masks i li j lj k)))

-- blocks in a group, with other bytes after them
pub rest_masked : (f : List ℕ → List ℕ) (rest behind group sealed out : List ℕ) (t j m : ℕ) → group ≡ rest ++ behind → out ≡ take (length rest) sealed
    → ((j : ℕ) → j < m → block sealed j ≡ tweaked_block f t group j) → length rest ≤ 16 * m → 16 * j + 16 ≤ length rest → block out j ≡ tweaked_block f t rest j
rest_masked f rest behind group sealed out t j m eg eo es few le =
    let same : block group j ≡ block rest j = ap (λ (l : List ℕ). block l j) eg ∙ chunk-append (16 * j) 16 rest behind le in
    let none : 0 + j ≡ j = omega arith in
    ap (λ (l : List ℕ). block l j) eo ∙ block-take sealed j (length rest) le ∙ es j (omega arith)
    ∙ tweaked_block-part f rest group t t 0 j (sym (tweak_start t)) (same ∙ sym (ap (block rest) none)) ∙ ap (tweaked_block f t rest) none

-- m blocks of a data unit, from block j on
pub part_same : (f : List ℕ → List ℕ) (p now ys : List ℕ) (t tweak s k j m : ℕ) → tweak ≡ tweak_at t j → IsDone (tweaked_block f t p) p now j → s ≡ 16 * j → k ≡ 16 * m
    → ((i : ℕ) → i < m → block ys i ≡ tweaked_block f tweak (take k (drop s now)) i) → (i : ℕ) → i < m → block ys i ≡ tweaked_block f t p (j + i)
part_same f p now ys t tweak s k j m et done es ek new i li =
    new i li ∙ tweaked_block-part f p (take k (drop s now)) t tweak j i et (IsDone-part (tweaked_block f t p) p now s k j i done es (omega arith))

pub part_step : (f : List ℕ → List ℕ) (p now ys : List ℕ) (t tweak s k j m : ℕ) → tweak ≡ tweak_at t j → IsDone (tweaked_block f t p) p now j → s ≡ 16 * j → k ≡ 16 * m → length ys ≡ 16 * m
    → ((i : ℕ) → i < m → block ys i ≡ tweaked_block f tweak (take k (drop s now)) i) → IsDone (tweaked_block f t p) p (put_mid s k now ys) (j + m)
part_step f p now ys t tweak s k j m et done es ek ly new =
    IsDone-more (tweaked_block f t p) p now ys s k j m done es ek ly (part_same f p now ys t tweak s k j m et done es ek new)

-- the next sixteen blocks of a data unit
pub group_step : (f : List ℕ → List ℕ) (p now ys : List ℕ) (t tweak s k g : ℕ) → tweak ≡ tweak_at t (16 * g) → IsDone (tweaked_block f t p) p now (16 * g) → s ≡ 256 * g → k ≡ 256 → length ys ≡ 256
    → ((j : ℕ) → j < 16 → block ys j ≡ tweaked_block f tweak (take k (drop s now)) j) → IsDone (tweaked_block f t p) p (put_mid s k now ys) (16 * (g + 1))
group_step f p now ys t tweak s k g et done es ek ly new =
    let at : s ≡ 16 * (16 * g) = omega arith in
    let more : 16 * g + 16 ≡ 16 * (g + 1) = omega arith in
    subst (IsDone (tweaked_block f t p) p (put_mid s k now ys)) more (part_step f p now ys t tweak s k (16 * g) 16 et done at ek ly new)

-- the blocks after the last whole group
pub rest_step : (f : List ℕ → List ℕ) (p now ys : List ℕ) (t tweak s k g : ℕ) → tweak ≡ tweak_at t (16 * g) → IsDone (tweaked_block f t p) p now (16 * g) → s ≡ 256 * g → s ≤ length p
    → k ≡ length p - s → length p % 16 ≡ 0 → s + k ≤ length now → length ys ≡ k
    → ((j : ℕ) → 16 * j + 16 ≤ length (take k (drop s now)) → block ys j ≡ tweaked_block f tweak (take k (drop s now)) j) → IsDone (tweaked_block f t p) p (put_mid s k now ys) (length p / 16)
rest_step f p now ys t tweak s k g et done es low ek whole fits ly new =
    let m : ℕ = length p / 16 - 16 * g in
    let at : s ≡ 16 * (16 * g) = omega arith in
    let len : k ≡ 16 * m = omega arith in
    let more : 16 * g + m ≡ length p / 16 = omega arith in
    let long = length-chunk s k now fits in
    subst (IsDone (tweaked_block f t p) p (put_mid s k now ys)) more
    (part_step f p now ys t tweak s k (16 * g) m et done at len (ly ∙ len) (λ i li. new i (omega (arith, long))))
