-- The steps of a write, one after the other, and the device sectors of a request.
use Rattle.std.proofs.Common.{◌≡◌, ℕ, zero, suc, ◌+◌, ◌*◌, ◌<◌, List, [], ◌∷◌, ◌++◌, length, get_or, take, drop, refl, sym, ap, ◌∙◌, arith, length-append}
use Rattle.std.proofs.lemmas.List.{map-append}
use Rattle.std.proofs.lemmas.List.FromFn.{length-map-range_with_len}
use Rattle.eli_base.specs.Keying.{Keying}
use Rattle.sealing.specs.Sectors.{units}
use Rattle.readings.specs.Writings.{Writing, Put, Raw, all_device_bytes, device_bytes}
use Rattle.readings.specs.Steps.{Step, Place, Flush}
use Rattle.readings.specs.Survivors.{placed}
use Rattle.readings.specs.Writes.{data_steps, places_from, puts_of, sector_steps}
use Rattle.readings.proofs.Survivors.{placed-append}
use Rattle.readings.proofs.Writes.{device_bytes-puts, placed-places_from}
use Rattle.sealing.specs.Data.{sealed_sectors}

places-append : (n : ℕ) (xs ys : List Writing) → places_from n (xs ++ ys) ≡ places_from n xs ++ places_from (n + length xs) ys
places-append n [] ys = let at : n ≡ n + 0 = omega arith in ap (λ (m : ℕ). places_from m ys) at
places-append n (x ∷ xs) ys =
    let at : n + 1 + length xs ≡ n + suc (length xs) = omega arith in
    ap (λ (l : List Step). Place n x ∷ l) (places-append (n + 1) xs ys ∙ ap (λ (m : ℕ). places_from (n + 1) xs ++ places_from m ys) at)

length-puts : (number : ℕ) (k : Keying) (sector : ℕ) (bytes : List ℕ) → length (puts_of number k sector bytes) ≡ units k
length-puts number k sector bytes =
    length-map-range_with_len (λ (j : ℕ). Put (record { number = number; keying = k; sector = sector; bytes = bytes; unit = j })) 0 (units k)

placed-data : (number : ℕ) (k : Keying) (sector count : ℕ) (bytes : List ℕ)
    → placed (data_steps number k sector (suc count) bytes) ≡ puts_of number k sector (take k.sectorsize bytes) ++ placed (data_steps number k (sector + 1) count (drop k.sectorsize bytes))
placed-data number k sector count bytes =
    let first : List Step = sector_steps number k sector (take k.sectorsize bytes) in
    let more : List Step = data_steps number k (sector + 1) count (drop k.sectorsize bytes) in
    placed-append first more ∙ ap (λ (l : List Writing). l ++ placed more) (placed-places_from (sector * units k) (puts_of number k sector (take k.sectorsize bytes)))

-- a write has so many units
pub length-placed : (number : ℕ) (k : Keying) (sector count : ℕ) (bytes : List ℕ) → length (placed (data_steps number k sector count bytes)) ≡ count * units k
length-placed number k sector zero bytes = omega arith
length-placed number k sector (suc count) bytes =
    let S : ℕ = k.sectorsize in
    let first = length-puts number k sector (take S bytes) in
    let more = length-placed number k (sector + 1) count (drop S bytes) in
    let both = length-append (puts_of number k sector (take S bytes)) (placed (data_steps number k (sector + 1) count (drop S bytes))) in
    let all : suc count * units k ≡ units k + count * units k = omega arith in
    ap (λ (l : List Writing). length l) (placed-data number k sector count bytes) ∙ omega arith

-- the units are placed in ascending order, the first where its logical sector begins
data_steps-places : (number : ℕ) (k : Keying) (sector count : ℕ) (bytes : List ℕ) → data_steps number k sector count bytes ≡ places_from (sector * units k) (placed (data_steps number k sector count bytes))
data_steps-places number k sector zero bytes = refl
data_steps-places number k sector (suc count) bytes =
    let S : ℕ = k.sectorsize in
    let puts : List Writing = puts_of number k sector (take S bytes) in
    let rest : List Writing = placed (data_steps number k (sector + 1) count (drop S bytes)) in
    let at : (sector + 1) * units k ≡ sector * units k + length puts = let n = length-puts number k sector (take S bytes) in omega arith in
    ap (λ (l : List Step). sector_steps number k sector (take S bytes) ++ l) (data_steps-places number k (sector + 1) count (drop S bytes))
    ∙ ap (λ (m : ℕ). places_from (sector * units k) puts ++ places_from m rest) at
    ∙ sym (places-append (sector * units k) puts rest)
    ∙ ap (places_from (sector * units k)) (sym (placed-data number k sector count bytes))

length-places : (n : ℕ) (ws : List Writing) → length (places_from n ws) ≡ length ws
length-places n [] = refl
length-places n (w ∷ ws) = ap suc (length-places (n + 1) ws)

place_at : (n : ℕ) (ws : List Writing) (j : ℕ) → j < length ws → get_or (places_from n ws) j Flush ≡ Place (n + j) (get_or ws j (Raw []))
place_at n [] j lt = absurd (omega arith)
place_at n (w ∷ ws) zero lt = let at : n ≡ n + 0 = omega arith in ap (λ (m : ℕ). Place m w) at
place_at n (w ∷ ws) (suc j) lt = let at : n + 1 + j ≡ n + suc j = omega arith in place_at (n + 1) ws j (omega arith) ∙ ap (λ (m : ℕ). Place m (get_or ws j (Raw []))) at

-- unit j is placed at its device sector
pub unit_placed : (number : ℕ) (k : Keying) (sector count : ℕ) (bytes : List ℕ) (j : ℕ) → j < count * units k
    → get_or (data_steps number k sector count bytes) j Flush ≡ Place (sector * units k + j) (get_or (placed (data_steps number k sector count bytes)) j (Raw []))
unit_placed number k sector count bytes j lt =
    let long = length-placed number k sector count bytes in
    ap (λ (l : List Step). get_or l j Flush) (data_steps-places number k sector count bytes)
    ∙ place_at (sector * units k) (placed (data_steps number k sector count bytes)) j (omega arith)

pub length-steps : (number : ℕ) (k : Keying) (sector count : ℕ) (bytes : List ℕ) → length (data_steps number k sector count bytes) ≡ count * units k
length-steps number k sector count bytes =
    ap (λ (l : List Step). length l) (data_steps-places number k sector count bytes) ∙ length-places (sector * units k) (placed (data_steps number k sector count bytes)) ∙ length-placed number k sector count bytes

-- what a write is sealed to are the device bytes of what it places
pub sealed-shown : (number : ℕ) (k : Keying) (sector count : ℕ) (bytes : List ℕ) → sealed_sectors k sector count bytes ≡ all_device_bytes (placed (data_steps number k sector count bytes))
sealed-shown number k sector zero bytes = refl
sealed-shown number k sector (suc count) bytes =
    let S : ℕ = k.sectorsize in
    let puts : List Writing = puts_of number k sector (take S bytes) in
    let rest : List Writing = placed (data_steps number k (sector + 1) count (drop S bytes)) in
    (λ i. sym (device_bytes-puts number k sector (take S bytes)) i ++ sealed-shown number k (sector + 1) count (drop S bytes) i)
    ∙ sym (map-append device_bytes puts rest)
    ∙ ap all_device_bytes (sym (placed-data number k sector count bytes))
