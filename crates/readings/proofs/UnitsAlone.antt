-- Opening the device bytes of writings with authentication.
use Rattle.std.proofs.Common.{◌≡◌, ◌≢◌, ℕ, ◌+◌, ◌-◌, ◌*◌, ◌<◌, min, inl, inr, List, [], length, false, Option, Result, Ok, refl, sym, ap, subst, ◌∙◌, arith}
use Rattle.std.proofs.lemmas.Bool.{and_left, cond-false}
use Rattle.std.proofs.lemmas.List.{get_or-map, length-map}
use Rattle.std.proofs.lemmas.List.Elements.{All-get_or}
use Rattle.eli_base.specs.declared.algorithms.Auth.{Auth}
use Rattle.eli_base.specs.declared.algorithms.Auth.TheVariants.{Off, Sha256, Sha384, Sha512}
use Rattle.eli_base.specs.declared.algorithms.Cipher.{Cipher}
use Rattle.eli_base.specs.declared.algorithms.Cipher.TheVariants.{AesCbc, AesXts}
use Rattle.eli_base.specs.Keying.{Keying}
use Rattle.eli_base.specs.Units.{unit_bytes_of}
use Rattle.aes_core.proofs.KeyBytes.{AreBytes-chunk}
use Rattle.block_traits.proofs.PartLists.{part}
use Rattle.range_keys.specs.Ring.{IsKeying}
use Rattle.sealing.specs.TaggedUnits.{opened_tagged}
use Rattle.sealing.specs.Sectors.{units}
use Rattle.sealing.proofs.TaggedUnitLaws.{opened_tagged-sealed, unit_reading-tagged}
use Rattle.sealing.proofs.Sectors.{length-unit, blocks_of_unit}
use Rattle.readings.specs.Writings.{PutUnit, Writing, Raw, IsPut, IsWriting, AreWritings, device_bytes, all_device_bytes, plain_bytes}
use Rattle.readings.specs.Read.{Matches, matching, writing_in, opened_unit, are_chained, loses_front, unit_from, read_unit}
use Rattle.readings.proofs.Matching.{matching-cases}
use Rattle.readings.proofs.Sectors.{device_bytes-tagged, plain_bytes-unit}

-- unit j is read at its own offset alone
opened_unit-alone : (k : Keying) (sector j : ℕ) (ws : List Writing) → k.auth ≢ Off → j < length ws
    → opened_unit k sector ws j
    ≡ opened_tagged k (512 * (sector * units k) + 512 * j) (min (unit_bytes_of k.auth) (k.sectorsize - unit_bytes_of k.auth * j)) (device_bytes (writing_in ws j))
opened_unit-alone k sector j ws on lt =
    let same : length (all_device_bytes ws) ≡ length ws = length-map ws device_bytes in
    unit_reading-tagged k sector j (all_device_bytes ws) on (rw same lt)
    ∙ ap (opened_tagged k (512 * (sector * units k) + 512 * j) (min (unit_bytes_of k.auth) (k.sectorsize - unit_bytes_of k.auth * j))) (get_or-map device_bytes ws j (Raw []) [] lt)

-- no front is lost
unchained : (c : Cipher) (a : Auth) → a ≢ Off → are_chained c a ≡ false
unchained AesXts a on = refl
unchained AesCbc Off on = absurd (on refl)
unchained AesCbc Sha256 on = refl
unchained AesCbc Sha384 on = refl
unchained AesCbc Sha512 on = refl

kept_front : (k : Keying) (j : ℕ) (left : Option PutUnit) (p : PutUnit) → k.auth ≢ Off → loses_front k j left p ≡ false
kept_front k j left p on = and_left (are_chained k.cipher k.auth) _ (unchained k.cipher k.auth on)

opened_put : (k : Keying) (sector j : ℕ) (ws : List Writing) (p : PutUnit) → IsKeying k → k.auth ≢ Off → AreWritings k ws → j < units k → Matches k sector j (writing_in ws j) p
    → opened_unit k sector ws j ≡ Ok (plain_bytes p)
opened_put k sector j ws p is on are lt m =
    let offset : ℕ = 512 * (sector * units k) + 512 * j in
    let d : ℕ = unit_bytes_of k.auth in
    let size : ℕ = min d (k.sectorsize - d * j) in
    let count = are.count in
    let put : IsPut p = subst IsWriting m.is (All-get_or IsWriting ws j (Raw []) (omega arith) are.each) in
    let long : length p.bytes ≡ k.sectorsize = put.size ∙ ap (λ (a : Keying). a.sectorsize) m.keying in
    opened_unit-alone k sector j ws on (omega arith)
    ∙ ap (opened_tagged k offset size) (device_bytes-tagged k sector j (writing_in ws j) p on lt m)
    ∙ opened_tagged-sealed k offset size (part d j p.bytes) is (AreBytes-chunk (d * j) d p.bytes put.bytes) (blocks_of_unit k j p.bytes is long) (length-unit k j p.bytes long)
    ∙ ap Ok (sym (plain_bytes-unit k sector j (writing_in ws j) p lt m))

-- what unit j opens to is what it reads as
pub opened_unit-tagged : (k : Keying) (sector j : ℕ) (ws : List Writing) → IsKeying k → k.auth ≢ Off → AreWritings k ws → j < units k
    → opened_unit k sector ws j ≡ read_unit k sector ws j
opened_unit-tagged k sector j ws is on are lt =
    let left : Option PutUnit = matching k sector (j - 1) (writing_in ws (j - 1)) in
    let opened : Result (List ℕ) ℕ = opened_unit k sector ws j in
    elim (matching-cases k sector j (writing_in ws j)) [
      | inl none ↦ sym (ap (λ (o : Option PutUnit). unit_from k j o left opened) none)
      | inr some ↦
          let p : PutUnit = some.0 in
          opened_put k sector j ws p is on are lt some.2
          ∙ ap Ok (sym (cond-false (loses_front k j left p) _ (plain_bytes p) (kept_front k j left p on)))
          ∙ sym (ap (λ (o : Option PutUnit). unit_from k j o left opened) some.1)
    ]
