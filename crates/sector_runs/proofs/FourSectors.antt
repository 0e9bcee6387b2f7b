-- Four logical sectors with authentication, whose units of one number are sealed side by side.
use Rattle.std.proofs.Common.{◌≡◌, ℕ, zero, suc, ◌+◌, ◌*◌, ◌<◌, List, [], ◌++◌, length, get_or, take, drop, sym, ap, ◌∙◌, arith, append-nil}
use Rattle.std.proofs.lemmas.List.{take_all, take_at, drop_at}
use Rattle.block_traits.specs.Parts.{parts}
use Rattle.block_traits.proofs.PartLists.{get_or-parts}
use Rattle.eli_base.specs.Keying.{Keying}
use Rattle.sealing.specs.Data.{sealed_sectors}
use Rattle.sealing.specs.Sectors.{device_sectors, seal, units}
use Rattle.sector_runs.proofs.Cuts.{parts-add, parts-front}

-- one of the device sectors of four that were sealed side by side
pub piece_of_four : (m : ℕ) (bytes piece : List ℕ) (pieces : List (List ℕ)) → m < 4 → parts 512 4 bytes ≡ pieces → piece ≡ take 512 (drop (512 * m) bytes) → piece ≡ get_or pieces m []
piece_of_four m bytes piece pieces lt so is = is ∙ sym (get_or-parts 512 4 m bytes lt) ∙ ap (λ (l : List (List ℕ)). get_or l m []) so

-- the device sectors of one logical sector, and of those after it
sealed_before : (k : Keying) (sector m : ℕ) (bytes plain out rest : List ℕ) → plain ≡ take k.sectorsize bytes → length out ≡ 512 * units k → device_sectors k out ≡ seal k sector plain
    → parts 512 (m * units k) rest ≡ sealed_sectors k (sector + 1) m (drop k.sectorsize bytes) → parts 512 (suc m * units k) (out ++ rest) ≡ sealed_sectors k sector (suc m) bytes
sealed_before k sector m bytes plain out rest is long sealed so =
    let u : ℕ = units k in
    let all : suc m * u ≡ u + m * u = omega arith in
    let first : parts 512 u (out ++ rest) ≡ parts 512 u out = parts-front u (out ++ rest) out (take_at out rest (512 * u) long ∙ sym (take_all (512 * u) out (omega (arith, long)))) in
    let behind : drop (512 * u) (out ++ rest) ≡ rest = drop_at out rest (512 * u) long in
    (λ i. parts 512 (all i) (out ++ rest))
    ∙ parts-add u (m * u) (out ++ rest)
    ∙ (λ i. (first ∙ sealed ∙ ap (seal k sector) is) i ++ parts 512 (m * u) (behind i))
    ∙ ap (λ (l : List (List ℕ)). seal k sector (take k.sectorsize bytes) ++ l) so

-- the device sectors of four logical sectors
pub sealed_four : (k : Keying) (sector : ℕ) (bytes a b c d first second third fourth : List ℕ)
    → a ≡ take k.sectorsize bytes → b ≡ take k.sectorsize (drop k.sectorsize bytes) → c ≡ take k.sectorsize (drop k.sectorsize (drop k.sectorsize bytes))
    → d ≡ take k.sectorsize (drop k.sectorsize (drop k.sectorsize (drop k.sectorsize bytes)))
    → length first ≡ 512 * units k → length second ≡ 512 * units k → length third ≡ 512 * units k → length fourth ≡ 512 * units k
    → device_sectors k first ≡ seal k sector a → device_sectors k second ≡ seal k (sector + 1) b → device_sectors k third ≡ seal k (sector + 2) c → device_sectors k fourth ≡ seal k (sector + 3) d
    → parts 512 (4 * units k) (first ++ (second ++ (third ++ fourth))) ≡ sealed_sectors k sector 4 bytes
sealed_four k sector bytes a b c d first second third fourth ea eb ec ed la lb lc ld sa sb sc sd =
    let s : ℕ = k.sectorsize in
    let third_at : sector + 2 ≡ sector + 1 + 1 = omega arith in
    let fourth_at : sector + 3 ≡ sector + 1 + 1 + 1 = omega arith in
    let none : 0 * units k ≡ 0 = omega arith in
    let last : parts 512 (1 * units k) (fourth ++ []) ≡ sealed_sectors k (sector + 1 + 1 + 1) 1 (drop s (drop s (drop s bytes))) =
    sealed_before k (sector + 1 + 1 + 1) 0 (drop s (drop s (drop s bytes))) d fourth [] ed ld (sd ∙ ap (λ (n : ℕ). seal k n d) fourth_at) (ap (λ (n : ℕ). parts 512 n []) none) in
    let alone : parts 512 (1 * units k) fourth ≡ sealed_sectors k (sector + 1 + 1 + 1) 1 (drop s (drop s (drop s bytes))) = ap (parts 512 (1 * units k)) (sym (append-nil fourth)) ∙ last in
    sealed_before k sector 3 bytes a first (second ++ (third ++ fourth)) ea la sa
    (sealed_before k (sector + 1) 2 (drop s bytes) b second (third ++ fourth) eb lb sb
    (sealed_before k (sector + 1 + 1) 1 (drop s (drop s bytes)) c third fourth ec lc (sc ∙ ap (λ (n : ℕ). seal k n c) third_at) alone))

-- ---- where the units of one number stand

pub record AreApart (k : Keying) (sector j offset step : ℕ) : Type 0 where
  pub second : offset + step ≡ 512 * ((sector + 1) * units k + j)
  pub third : offset + 2 * step ≡ 512 * ((sector + 2) * units k + j)
  pub fourth : offset + 3 * step ≡ 512 * ((sector + 3) * units k + j)

pub are_apart : (k : Keying) (sector j offset step : ℕ) → offset ≡ 512 * (sector * units k + j) → step ≡ 512 * units k → AreApart k sector j offset step
are_apart k sector j offset step at wide = record { second = omega (arith, at, wide); third = omega (arith, at, wide); fourth = omega (arith, at, wide) }

-- ---- what holds of each of four

pub each_of_four : (P : ℕ → Type 0) → P 0 → P 1 → P 2 → P 3 → (i : ℕ) → i < 4 → P i
each_of_four P a b c d zero lt = a
each_of_four P a b c d (suc zero) lt = b
each_of_four P a b c d (suc (suc zero)) lt = c
each_of_four P a b c d (suc (suc (suc zero))) lt = d
each_of_four P a b c d (suc (suc (suc (suc i)))) lt = absurd (omega arith)
