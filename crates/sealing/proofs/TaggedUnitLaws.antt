-- Sealing and opening with authentication: each device sector is a unit of its own.
use Rattle.std.proofs.Common.{◌≡◌, ◌≢◌, ℕ, ◌+◌, ◌-◌, ◌*◌, ◌%◌, ◌<◌, ◌≤◌, min, List, [], ◌++◌, length, map, get_or, take, drop, replicate, cond, true, Result, Ok, Err, bytes_eq, refl, sym, ap, ◌∙◌, arith, append_assoc, length-append}
use Rattle.std.proofs.lemmas.Bool.{cond-true}
use Rattle.std.proofs.lemmas.List.{length-replicate, take_at, drop_at}
use Rattle.std.proofs.lemmas.List.FromFn.{get_or-map-range_with_len, length-map-range_with_len}
use Rattle.std.specs.List.{range_with_len}
use Rattle.std.proofs.lemmas.Nat.{mod-mul-add}
use Rattle.std.proofs.lemmas.Slice.Eq.{bytes_eq-Decides}
use Rattle.aes_core.specs.Schedule.{AreBytes}
use Rattle.block_traits.specs.Parts.{part}
use Rattle.eli_base.specs.declared.algorithms.Auth.{Auth}
use Rattle.eli_base.specs.declared.algorithms.Auth.TheVariants.{Off, Sha256, Sha384, Sha512}
use Rattle.eli_base.specs.Keying.{Keying}
use Rattle.eli_base.specs.Units.{tag_bytes, unit_bytes_of}
use Rattle.eli_base.proofs.Units.{tag_and_unit}
use Rattle.range_keys.specs.Keys.{tag_key}
use Rattle.range_keys.specs.Ring.{IsKeying}
use Rattle.sealing.specs.Runs.{sealed_run, opened_run}
use Rattle.sealing.specs.TaggedUnits.{tag_of, tagged, sealed_tagged, kept_tag, cipher_text_in, opened_tagged}
use Rattle.sealing.specs.Sectors.{units, unit_place, unit_size, sealed_unit, seal, sealed_with, unit_reading, opened_with, unit_readings, unit_reading_at}
use Rattle.sealing.proofs.Keys.{length-hmac_of}
use Rattle.sealing.proofs.Runs.{length-sealed_run, opened-sealed_run}

-- ---- one unit

length-tag_of : (k : Keying) (offset : ℕ) (cipher_text : List ℕ) → length (tag_of k offset cipher_text) ≡ tag_bytes k.auth
length-tag_of k offset cipher_text = length-hmac_of k.auth (tag_key k offset) cipher_text

-- a unit has 512 bytes
pub length-tagged : (k : Keying) (offset : ℕ) (cipher_text : List ℕ) → length cipher_text ≤ unit_bytes_of k.auth → length (tagged k offset cipher_text) ≡ 512
length-tagged k offset cipher_text fits =
    let tag : List ℕ = tag_of k offset cipher_text in
    let zeros : List ℕ = replicate (unit_bytes_of k.auth - length cipher_text) 0 in
    let a : length tag ≡ tag_bytes k.auth = length-tag_of k offset cipher_text in
    let b : length zeros ≡ unit_bytes_of k.auth - length cipher_text = length-replicate (unit_bytes_of k.auth - length cipher_text) 0 in
    let c = length-append tag cipher_text in
    let d = length-append (tag ++ cipher_text) zeros in
    let all = tag_and_unit k.auth in
    omega arith

-- a unit whose tag is that of its ciphertext is opened
pub opened_tagged-good : (k : Keying) (offset size : ℕ) (sector cipher_text : List ℕ) → kept_tag k sector ≡ tag_of k offset cipher_text → cipher_text_in k size sector ≡ cipher_text
    → opened_tagged k offset size sector ≡ Ok (opened_run k offset cipher_text)
opened_tagged-good k offset size sector cipher_text tag same =
    let good : bytes_eq (tag_of k offset cipher_text) (tag_of k offset cipher_text) ≡ true = (bytes_eq-Decides (tag_of k offset cipher_text) (tag_of k offset cipher_text)).1 refl in
    (λ i. cond (bytes_eq (tag i) (tag_of k offset (same i))) (Ok (opened_run k offset (same i))) (Err offset))
    ∙ cond-true (bytes_eq (tag_of k offset cipher_text) (tag_of k offset cipher_text)) (Ok (opened_run k offset cipher_text)) (Err offset) good

kept_tag-tagged : (k : Keying) (offset : ℕ) (cipher_text : List ℕ) → kept_tag k (tagged k offset cipher_text) ≡ tag_of k offset cipher_text
kept_tag-tagged k offset cipher_text =
    let tag : List ℕ = tag_of k offset cipher_text in
    let zeros : List ℕ = replicate (unit_bytes_of k.auth - length cipher_text) 0 in
    ap (take (tag_bytes k.auth)) (append_assoc tag cipher_text zeros) ∙ take_at tag (cipher_text ++ zeros) (tag_bytes k.auth) (length-tag_of k offset cipher_text)

cipher_text_in-tagged : (k : Keying) (offset size : ℕ) (cipher_text : List ℕ) → length cipher_text ≡ size → cipher_text_in k size (tagged k offset cipher_text) ≡ cipher_text
cipher_text_in-tagged k offset size cipher_text len =
    let tag : List ℕ = tag_of k offset cipher_text in
    let zeros : List ℕ = replicate (unit_bytes_of k.auth - length cipher_text) 0 in
    ap (λ (l : List ℕ). take size (drop (tag_bytes k.auth) l)) (append_assoc tag cipher_text zeros)
    ∙ ap (take size) (drop_at tag (cipher_text ++ zeros) (tag_bytes k.auth) (length-tag_of k offset cipher_text))
    ∙ take_at cipher_text zeros size len

-- a sealed unit opens to its plain bytes
pub opened_tagged-sealed : (k : Keying) (offset size : ℕ) (plain : List ℕ) → IsKeying k → AreBytes plain → length plain % 16 ≡ 0 → length plain ≡ size
    → opened_tagged k offset size (sealed_tagged k offset plain) ≡ Ok plain
opened_tagged-sealed k offset size plain is small whole len =
    let cipher_text : List ℕ = sealed_run k offset plain in
    let long = length-sealed_run k offset plain is small whole in
    opened_tagged-good k offset size (sealed_tagged k offset plain) cipher_text (kept_tag-tagged k offset cipher_text) (cipher_text_in-tagged k offset size cipher_text (long ∙ len))
    ∙ ap Ok (opened-sealed_run k offset plain is small whole)

-- ---- a logical sector with authentication is its units, by their numbers

sealed_with-tagged : (a : Auth) (k : Keying) (sector : ℕ) (bytes : List ℕ) → a ≢ Off → sealed_with a k sector bytes ≡ map (sealed_unit k sector bytes) (range_with_len 0 (units k))
sealed_with-tagged Off k sector bytes on = absurd (on refl)
sealed_with-tagged Sha256 k sector bytes on = refl
sealed_with-tagged Sha384 k sector bytes on = refl
sealed_with-tagged Sha512 k sector bytes on = refl

opened_with-tagged : (a : Auth) (k : Keying) (sector : ℕ) (sectors : List (List ℕ)) → a ≢ Off → opened_with a k sector sectors ≡ map (unit_reading k sector sectors) (range_with_len 0 (length sectors))
opened_with-tagged Off k sector sectors on = absurd (on refl)
opened_with-tagged Sha256 k sector sectors on = refl
opened_with-tagged Sha384 k sector sectors on = refl
opened_with-tagged Sha512 k sector sectors on = refl

-- the byte offset of unit j
unit_offset : (k : Keying) (sector j : ℕ) → 512 * unit_place k sector j ≡ 512 * (sector * units k) + 512 * j
unit_offset k sector j = omega arith

-- there are as many device sectors as units
pub length-seal-tagged : (k : Keying) (sector : ℕ) (bytes : List ℕ) → k.auth ≢ Off → length (seal k sector bytes) ≡ units k
length-seal-tagged k sector bytes on =
    ap (λ (l : List (List ℕ)). length l) (sealed_with-tagged k.auth k sector bytes on) ∙ length-map-range_with_len (sealed_unit k sector bytes) 0 (units k)

-- the device sector of unit j
pub sealed_unit-place : (k : Keying) (sector j : ℕ) (bytes : List ℕ) → k.auth ≢ Off → j < units k → get_or (seal k sector bytes) j [] ≡ sealed_unit k sector bytes j
sealed_unit-place k sector j bytes on lt =
    ap (λ (l : List (List ℕ)). get_or l j []) (sealed_with-tagged k.auth k sector bytes on)
    ∙ get_or-map-range_with_len (sealed_unit k sector bytes) 0 (units k) j j [] lt (omega arith)

pub sealed_unit-tagged : (k : Keying) (sector j : ℕ) (bytes : List ℕ) → k.auth ≢ Off → j < units k
    → get_or (seal k sector bytes) j [] ≡ sealed_tagged k (512 * (sector * units k) + 512 * j) (part (unit_bytes_of k.auth) j bytes)
sealed_unit-tagged k sector j bytes on lt =
    sealed_unit-place k sector j bytes on lt
    ∙ ap (λ (offset : ℕ). sealed_tagged k offset (part (unit_bytes_of k.auth) j bytes)) (unit_offset k sector j)

pub length-unit_readings-tagged : (k : Keying) (sector : ℕ) (sectors : List (List ℕ)) → k.auth ≢ Off → length (unit_readings k sector sectors) ≡ length sectors
length-unit_readings-tagged k sector sectors on =
    ap (λ (l : List (Result (List ℕ) ℕ)). length l) (opened_with-tagged k.auth k sector sectors on)
    ∙ length-map-range_with_len (unit_reading k sector sectors) 0 (length sectors)

-- what unit j reads as
pub unit_reading-tagged : (k : Keying) (sector j : ℕ) (sectors : List (List ℕ)) → k.auth ≢ Off → j < length sectors
    → get_or (unit_readings k sector sectors) j (Ok [])
    ≡ opened_tagged k (512 * (sector * units k) + 512 * j) (min (unit_bytes_of k.auth) (k.sectorsize - unit_bytes_of k.auth * j)) (get_or sectors j [])
unit_reading-tagged k sector j sectors on lt =
    ap (λ (l : List (Result (List ℕ) ℕ)). get_or l j (Ok [])) (opened_with-tagged k.auth k sector sectors on)
    ∙ get_or-map-range_with_len (unit_reading k sector sectors) 0 (length sectors) j j (Ok []) lt (omega arith)
    ∙ ap (λ (offset : ℕ). opened_tagged k offset (unit_size k j) (get_or sectors j [])) (unit_offset k sector j)

-- what unit j reads as depends on the number and the bytes of its device sector alone
pub unit_reading-alone : (k : Keying) (sector j : ℕ) (sectors : List (List ℕ)) → k.auth ≢ Off → length sectors ≡ units k → j < units k
    → get_or (unit_readings k sector sectors) j (Ok []) ≡ unit_reading_at k (sector * units k + j) (get_or sectors j [])
unit_reading-alone k sector j sectors on count lt =
    let which : j ≡ unit_place k sector j % units k = sym (mod-mul-add sector (units k) j lt) in
    ap (λ (l : List (Result (List ℕ) ℕ)). get_or l j (Ok [])) (opened_with-tagged k.auth k sector sectors on)
    ∙ get_or-map-range_with_len (unit_reading k sector sectors) 0 (length sectors) j j (Ok []) (rw count lt) (omega arith)
    ∙ ap (λ (i : ℕ). opened_tagged k (512 * unit_place k sector j) (unit_size k i) (get_or sectors j [])) which
