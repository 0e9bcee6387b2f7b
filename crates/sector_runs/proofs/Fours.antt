-- Whole units of a logical sector, four at a time.
use Rattle.std.proofs.Common.{◌≡◌, ◌≢◌, ℕ, suc, ◌+◌, ◌-◌, ◌*◌, ◌/◌, ◌%◌, ◌<◌, ◌≤◌, min, List, [], ◌∷◌, ◌++◌, length, get_or, take, take-add, drop, sym, ap, ◌∙◌, arith}
use Rattle.std.proofs.Math.Nat.{div-add-mod, div-mul-le_self, mul-le-mul_left, mul-le-mul_right}
use Rattle.std.proofs.lemmas.Nat.{mod-mul-add}
use Rattle.std.proofs.Math.Seq.{drop-cons}
use borrow.Rule.Slice.PartMut.{put_mid}
use Rattle.block_traits.specs.Parts.{parts}
use Rattle.eli_base.specs.declared.algorithms.Auth.{Auth}
use Rattle.eli_base.specs.declared.algorithms.Auth.TheVariants.{Off, Sha256, Sha384, Sha512}
use Rattle.eli_base.specs.Keying.{Keying}
use Rattle.eli_base.specs.Units.{unit_bytes_of, units_per_sector}
use Rattle.sealing.specs.TaggedUnits.{sealed_tagged}
use Rattle.sealing.specs.Sectors.{seal, unit_size, unit_size_at, units}
use Rattle.sealing.proofs.TaggedUnitLaws.{sealed_unit-tagged}
use Rattle.sealing.proofs.Sectors.{length-seal}
use Rattle.sector_runs.specs.Verdicts.{HasWholeFour}
use Rattle.sector_runs.proofs.Cuts.{parts-put-some}

-- a logical sector has at least as many units as whole units
pub wholes_within : (auth : Auth) (size m : ℕ) → unit_bytes_of auth * m ≤ size → m ≤ units_per_sector auth size
wholes_within Off size m fits = omega arith
wholes_within Sha256 size m fits = omega arith
wholes_within Sha384 size m fits = omega arith
wholes_within Sha512 size m fits = omega arith

-- the bytes of four whole units have their place among those of the sector
pub four_fit : (u fours i size : ℕ) → i < fours → fours * (4 * u) ≤ size → u * (4 * i + 4) ≤ size
four_fit u fours i size more fits =
    let some : i + 1 ≤ fours = omega arith in
    omega (arith, mul-le-mul_right (4 * u) some, fits)

-- ---- what whole units are sealed to

four_of : (l : List (List ℕ)) (n : ℕ) → n + 4 ≤ length l → take 4 (drop n l) ≡ get_or l n [] ∷ get_or l (n + 1) [] ∷ get_or l (n + 2) [] ∷ get_or l (n + 3) [] ∷ []
four_of l n fits =
    let one : suc n ≡ n + 1 = omega arith in
    let two : suc (n + 1) ≡ n + 2 = omega arith in
    let three : suc (n + 2) ≡ n + 3 = omega arith in
    ap (take 4) (drop-cons l n [] (omega arith))
    ∙ (λ i. get_or l n [] ∷ take 3 ((ap (λ (m : ℕ). drop m l) one ∙ drop-cons l (n + 1) [] (omega arith)) i))
    ∙ (λ i. get_or l n [] ∷ get_or l (n + 1) [] ∷ take 2 ((ap (λ (m : ℕ). drop m l) two ∙ drop-cons l (n + 2) [] (omega arith)) i))
    ∙ (λ i. get_or l n [] ∷ get_or l (n + 1) [] ∷ get_or l (n + 2) [] ∷ take 1 ((ap (λ (m : ℕ). drop m l) three ∙ drop-cons l (n + 3) [] (omega arith)) i))

-- what a whole unit is sealed to
whole_sealed : (k now : Keying) (sector j offset at width : ℕ) (bytes piece : List ℕ) → k.auth ≢ Off → now ≡ k → j < units k → offset ≡ 512 * (sector * units k + j) → at ≡ unit_bytes_of k.auth * j
    → width ≡ unit_bytes_of k.auth → piece ≡ take width (drop at bytes) → get_or (seal k sector bytes) j [] ≡ sealed_tagged now offset piece
whole_sealed k now sector j offset at width bytes piece on same lt place starts wide is =
    let there : 512 * (sector * units k) + 512 * j ≡ offset = omega (arith, place) in
    sealed_unit-tagged k sector j bytes on lt
    ∙ (λ i. sealed_tagged (sym same i) (there i) (take (sym wide i) (drop (sym starts i) bytes)))
    ∙ ap (sealed_tagged now offset) (sym is)

-- sealed units, with a group of four put after those before
pub group_put : (k now : Keying) (sector i offset at width room : ℕ) (bytes out sealed a b c d : List ℕ) → k.auth ≢ Off → now ≡ k → width ≡ unit_bytes_of k.auth → unit_bytes_of k.auth * (4 * i + 4) ≤ k.sectorsize
    → offset ≡ 512 * (sector * units k + 4 * i) → at ≡ unit_bytes_of k.auth * (4 * i)
    → a ≡ take width (drop at bytes) → b ≡ take width (drop (at + width) bytes) → c ≡ take width (drop (at + 2 * width) bytes) → d ≡ take width (drop (at + 3 * width) bytes)
    → parts 512 4 sealed ≡ sealed_tagged now offset a ∷ sealed_tagged now (offset + 512) b ∷ sealed_tagged now (offset + 2 * 512) c ∷ sealed_tagged now (offset + 3 * 512) d ∷ []
    → length sealed ≡ 2048 → 2048 * i ≤ length out → parts 512 (4 * i) out ≡ take (4 * i) (seal k sector bytes)
    → parts 512 (4 * (i + 1)) (put_mid (2048 * i) room out sealed) ≡ take (4 * (i + 1)) (seal k sector bytes)
group_put k now sector i offset at width room bytes out sealed a b c d on same wide fits place starts ea eb ec ed is long fit so =
    let every : List (List ℕ) = seal k sector bytes in
    let n : ℕ = 4 * i in
    let all = wholes_within k.auth k.sectorsize (n + 4) fits in
    let more : 4 * (i + 1) ≡ n + 4 = omega arith in
    let front : 2048 * i ≡ 512 * n = omega arith in
    let first = whole_sealed k now sector n offset at width bytes a on same (omega (arith, all)) place starts wide ea in
    let second = whole_sealed k now sector (n + 1) (offset + 512) (at + width) width bytes b on same (omega (arith, all)) (omega (arith, place)) (omega (arith, starts, wide)) wide eb in
    let third = whole_sealed k now sector (n + 2) (offset + 2 * 512) (at + 2 * width) width bytes c on same (omega (arith, all)) (omega (arith, place)) (omega (arith, starts, wide)) wide ec in
    let fourth = whole_sealed k now sector (n + 3) (offset + 3 * 512) (at + 3 * width) width bytes d on same (omega (arith, all)) (omega (arith, place)) (omega (arith, starts, wide)) wide ed in
    let here : take 4 (drop n every) ≡ parts 512 4 sealed =
    four_of every n (omega (arith, length-seal k sector bytes, all)) ∙ (λ j. first j ∷ second j ∷ third j ∷ fourth j ∷ []) ∙ sym is in
    (λ j. parts 512 (more j) (put_mid (front j) room out sealed))
    ∙ parts-put-some n 4 room out sealed long (omega (arith, fit))
    ∙ (λ j. so j ++ sym here j)
    ∙ sym (take-add n 4 every)
    ∙ ap (λ (m : ℕ). take m every) (sym more)

-- ---- the sizes of whole units

-- each of four whole units of one logical sector has the size of a whole unit
pub whole_size : (k : Keying) (n m : ℕ) → HasWholeFour k n → m < 4 → unit_size_at k (n + m) ≡ unit_bytes_of k.auth
whole_size k n m whole lt =
    let u : ℕ = unit_bytes_of k.auth in
    let j : ℕ = n % units k in
    let room : (j + 4) * u ≤ k.sectorsize / u * u = mul-le-mul_right u whole in
    let all : k.sectorsize / u * u ≤ k.sectorsize = div-mul-le_self k.sectorsize u in
    let turned : u * (j + 4) ≡ (j + 4) * u = omega arith in
    let within = wholes_within k.auth k.sectorsize (j + 4) (omega (arith, turned, room, all)) in
    let at : n + m ≡ n / units k * units k + (j + m) = omega (arith, div-add-mod n (units k)) in
    let which : (n + m) % units k ≡ j + m = ap (λ (x : ℕ). x % units k) at ∙ mod-mul-add (n / units k) (units k) (j + m) (omega (arith, within)) in
    let more : u * (j + m + 1) ≤ u * (j + 4) = mul-le-mul_left u (let le : j + m + 1 ≤ j + 4 = omega arith in le) in
    let last : u * (j + m + 1) ≡ u * (j + m) + u = omega arith in
    let wide : min u (k.sectorsize - u * (j + m)) ≡ u = omega (arith, turned, room, all, more, last) in
    ap (unit_size k) which ∙ wide
