-- Opening the device bytes of writings without authentication.
use Rattle.std.proofs.Common.{◌≡◌, ℕ, ◌+◌, ◌-◌, ◌*◌, ◌<◌, ◌≤◌, ◌==◌, not, nat_lt, inl, inr, List, [], ◌++◌, length, get_or, take, drop, cond, Bool, true, false, Option, Some, Result, Ok, Contains, refl, sym, ap, subst, ◌∙◌, arith, true≢false, take-append-drop}
use Rattle.std.proofs.lemmas.Bool.{and_from, cases_Bool, eqb-true, lt-ltb}
use Rattle.std.proofs.lemmas.List.{get_or-map, length-map}
use Rattle.std.proofs.lemmas.List.Elements.{All-get_or, Contains-get_or}
use Rattle.std.specs.List.{concat}
use Rattle.block_traits.specs.Parts.{parts}
use Rattle.block_traits.proofs.PartLists.{part, length-parts, get_or-parts}
use Rattle.eli_base.specs.declared.algorithms.Auth.{Auth}
use Rattle.eli_base.specs.declared.algorithms.Auth.TheVariants.{Off}
use Rattle.eli_base.specs.declared.algorithms.Cipher.{Cipher}
use Rattle.eli_base.specs.declared.algorithms.Cipher.TheVariants.{AesCbc, AesXts}
use Rattle.eli_base.specs.Keying.{Keying}
use Rattle.range_keys.specs.Keys.{first_key, second_key, iv, tweak}
use Rattle.range_keys.specs.Ring.{IsKeying}
use Rattle.sealing.specs.Runs.{opened_by, sealed_run, opened_run}
use Rattle.sealing.specs.Sectors.{units, opened_with}
use Rattle.sealing.proofs.Plain.{units_fill}
use Rattle.readings.specs.Writings.{PutUnit, Writing, Put, Raw, IsPut, IsWriting, AreWritings, device_bytes, all_device_bytes, plain_bytes}
use Rattle.readings.specs.Read.{Matches, matching, writing_in, opened_unit, are_chained, is_of_write, loses_front, unit_from, read_unit}
use Rattle.sealing.proofs.Keys.{IsKey-first_key, IsState-iv}
use Rattle.sealing.proofs.Runs.{length-sealed_run, opened-sealed_run}
use Rattle.readings.proofs.PartLists.{length-concat_sectors, part-concat}
use Rattle.readings.proofs.Local.{xts_open-part, cbc_open-part, cbc_open-rest}
use Rattle.readings.proofs.Matching.{matching-cases}
use Rattle.readings.proofs.Sectors.{device_bytes-off, plain_bytes-off, AreSectors-writings}

-- ---- runs whose ciphertext has a part in common

opened_by-rest : (c : Cipher) (k : Keying) (offset j : ℕ) (xs ys : List ℕ) → IsKeying k → length xs ≡ length ys → 512 * j + 512 ≤ length xs
    → part 512 j xs ≡ part 512 j ys → drop 16 (part 512 j (opened_by c k offset xs)) ≡ drop 16 (part 512 j (opened_by c k offset ys))
opened_by-rest AesXts k offset j xs ys is len fits same =
    ap (drop 16) (xts_open-part (first_key k offset) (second_key k offset) (tweak offset) j xs ys (IsKey-first_key k offset is).long len fits same)
opened_by-rest AesCbc k offset j xs ys is len fits same =
    cbc_open-rest (first_key k offset) (iv k offset) j xs ys (IsKey-first_key k offset is).long (IsState-iv k offset).long len fits same

opened_by-part : (c : Cipher) (k : Keying) (offset j : ℕ) (xs ys : List ℕ) → IsKeying k → length xs ≡ length ys → 512 * j + 512 ≤ length xs
    → part 512 j xs ≡ part 512 j ys → (are_chained c Off ≡ true → 0 < j → part 512 (j - 1) xs ≡ part 512 (j - 1) ys)
    → part 512 j (opened_by c k offset xs) ≡ part 512 j (opened_by c k offset ys)
opened_by-part AesXts k offset j xs ys is len fits same left =
    xts_open-part (first_key k offset) (second_key k offset) (tweak offset) j xs ys (IsKey-first_key k offset is).long len fits same
opened_by-part AesCbc k offset j xs ys is len fits same left =
    cbc_open-part (first_key k offset) (iv k offset) j xs ys (IsKey-first_key k offset is).long (IsState-iv k offset).long len fits same (left refl)

-- ---- what unit j opens to

pub opened_unit-off : (k : Keying) (sector j : ℕ) (ws : List Writing) → k.auth ≡ Off → j < units k
    → opened_unit k sector ws j ≡ Ok (part 512 j (opened_run k (sector * k.sectorsize) (concat (all_device_bytes ws))))
opened_unit-off k sector j ws off lt =
    let run : List ℕ = opened_run k (sector * k.sectorsize) (concat (all_device_bytes ws)) in
    let count : length (parts 512 (units k) run) ≡ units k = length-parts 512 (units k) run in
    let ok : List ℕ → Result (List ℕ) ℕ = λ b. Ok b in
    ap (λ (a : Auth). get_or (opened_with a k sector (all_device_bytes ws)) j (Ok [])) off
    ∙ get_or-map ok (parts 512 (units k) run) j [] (Ok []) (omega arith)
    ∙ ap Ok (get_or-parts 512 (units k) j run lt)

-- what a unit opens to is right if the rest is right, and the front is too unless it is lost
front_or_all : (lost : Bool) (opened plain : List ℕ) → drop 16 opened ≡ drop 16 plain → (lost ≡ false → opened ≡ plain)
    → opened ≡ cond lost (take 16 opened ++ drop 16 plain) plain
front_or_all true opened plain rest all = sym (take-append-drop 16 opened) ∙ ap (λ (l : List ℕ). take 16 opened ++ l) rest
front_or_all false opened plain rest all = all refl

-- part j of the device bytes one after the other
part-all : (k : Keying) (ws : List Writing) (j : ℕ) → AreWritings k ws → j < units k → part 512 j (concat (all_device_bytes ws)) ≡ device_bytes (writing_in ws j)
part-all k ws j are lt =
    let count = are.count in
    let same : length (all_device_bytes ws) ≡ length ws = length-map ws device_bytes in
    part-concat (all_device_bytes ws) j (AreSectors-writings ws are.each) (omega arith)
    ∙ get_or-map device_bytes ws j (Raw []) [] (omega arith)

length-all : (k : Keying) (ws : List Writing) → AreWritings k ws → length (concat (all_device_bytes ws)) ≡ 512 * units k
length-all k ws are =
    let count = are.count in
    length-concat_sectors (all_device_bytes ws) (AreSectors-writings ws are.each) ∙ ap (λ (n : ℕ). 512 * n) (length-map ws device_bytes ∙ count)

Contains-matching : (k : Keying) (sector j : ℕ) (ws : List Writing) (p : PutUnit) → AreWritings k ws → j < units k → Matches k sector j (writing_in ws j) p → Contains ws (Put p)
Contains-matching k sector j ws p are lt m = let count = are.count in subst (Contains ws) m.is (Contains-get_or ws j (Raw []) (omega arith))

-- if the front isn't lost, the unit before is of the same write
left_same : (k : Keying) (sector j : ℕ) (ws : List Writing) (p : PutUnit) → k.auth ≡ Off → AreWritings k ws → j < units k → Matches k sector j (writing_in ws j) p
    → loses_front k j (matching k sector (j - 1) (writing_in ws (j - 1))) p ≡ false → are_chained k.cipher Off ≡ true → 0 < j
    → part 512 (j - 1) (concat (all_device_bytes ws)) ≡ part 512 (j - 1) (sealed_run k (sector * k.sectorsize) p.bytes)
left_same k sector j ws p off are lt m kept chained above =
    let left : Option PutUnit = matching k sector (j - 1) (writing_in ws (j - 1)) in
    let small : j - 1 < units k = omega arith in
    let chains : are_chained k.cipher k.auth ≡ true = ap (are_chained k.cipher) off ∙ chained in
    let lost = λ (no : is_of_write p.number left ≡ false). and_from (are_chained k.cipher k.auth) _ chains (and_from (nat_lt 0 j) _ (lt-ltb 0 j above) (ap not no)) in
    elim (matching-cases k sector (j - 1) (writing_in ws (j - 1))) [
      | inl none ↦ absurd (true≢false (sym (lost (ap (is_of_write p.number) none)) ∙ kept))
      | inr some ↦
          let q : PutUnit = some.0 in
          elim (cases_Bool (q.number == p.number)) [
            | inl same ↦
                let one = are.numbered q p (Contains-matching k sector (j - 1) ws q are small some.2) (Contains-matching k sector j ws p are lt m) (some.2.of_sector ∙ sym m.of_sector) (eqb-true q.number p.number same) in
                part-all k ws (j - 1) are small ∙ device_bytes-off k sector (j - 1) (writing_in ws (j - 1)) q off small some.2
                ∙ ap (λ (b : List ℕ). part 512 (j - 1) (sealed_run k (sector * k.sectorsize) b)) one.1
            | inr other ↦ absurd (true≢false (sym (lost (ap (is_of_write p.number) some.1 ∙ other)) ∙ kept))
          ]
    ]

unit-put : (k : Keying) (sector j : ℕ) (ws : List Writing) (p : PutUnit) → IsKeying k → k.auth ≡ Off → AreWritings k ws → j < units k → Matches k sector j (writing_in ws j) p
    → part 512 j (opened_run k (sector * k.sectorsize) (concat (all_device_bytes ws)))
    ≡ cond (loses_front k j (matching k sector (j - 1) (writing_in ws (j - 1))) p)
    (take 16 (part 512 j (opened_run k (sector * k.sectorsize) (concat (all_device_bytes ws)))) ++ drop 16 (plain_bytes p)) (plain_bytes p)
unit-put k sector j ws p is off are lt m =
    let offset : ℕ = sector * k.sectorsize in
    let there : List ℕ = concat (all_device_bytes ws) in
    let sealed : List ℕ = sealed_run k offset p.bytes in
    let whole = is.whole in
    let count = are.count in
    let fill : 512 * units k ≡ k.sectorsize = units_fill k off is.at_least whole in
    let put : IsPut p = subst IsWriting m.is (All-get_or IsWriting ws j (Raw []) (omega arith) are.each) in
    let size : length p.bytes ≡ k.sectorsize = put.size ∙ ap (λ (a : Keying). a.sectorsize) m.keying in
    let long : length sealed ≡ length p.bytes = length-sealed_run k offset p.bytes is put.bytes (omega arith) in
    let all : length there ≡ 512 * units k = length-all k ws are in
    let len : length there ≡ length sealed = omega arith in
    let fits : 512 * j + 512 ≤ length there = omega arith in
    let back : opened_run k offset sealed ≡ p.bytes = opened-sealed_run k offset p.bytes is put.bytes (omega arith) in
    let same : part 512 j there ≡ part 512 j sealed = part-all k ws j are lt ∙ device_bytes-off k sector j (writing_in ws j) p off lt m in
    let plain : part 512 j (opened_run k offset sealed) ≡ plain_bytes p = ap (part 512 j) back ∙ sym (plain_bytes-off k sector j (writing_in ws j) p off lt m) in
    front_or_all (loses_front k j (matching k sector (j - 1) (writing_in ws (j - 1))) p) (part 512 j (opened_run k offset there)) (plain_bytes p)
    (opened_by-rest k.cipher k offset j there sealed is len fits same ∙ ap (drop 16) plain)
    (λ kept. opened_by-part k.cipher k offset j there sealed is len fits same (left_same k sector j ws p off are lt m kept) ∙ plain)

-- what unit j opens to is what it reads as
pub opened_unit-plain : (k : Keying) (sector j : ℕ) (ws : List Writing) → IsKeying k → k.auth ≡ Off → AreWritings k ws → j < units k
    → opened_unit k sector ws j ≡ read_unit k sector ws j
opened_unit-plain k sector j ws is off are lt =
    let left : Option PutUnit = matching k sector (j - 1) (writing_in ws (j - 1)) in
    elim (matching-cases k sector j (writing_in ws j)) [
      | inl none ↦ sym (ap (λ (o : Option PutUnit). unit_from k j o left (opened_unit k sector ws j)) none)
      | inr some ↦
          let p : PutUnit = some.0 in
          let opens = opened_unit-off k sector j ws off lt in
          opens ∙ ap Ok (unit-put k sector j ws p is off are lt some.2)
          ∙ sym (ap (λ (o : Option PutUnit). unit_from k j o left (opened_unit k sector ws j)) some.1 ∙ ap (unit_from k j (Some p) left) opens)
    ]
