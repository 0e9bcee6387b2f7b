-- Logical sectors of 512 bytes under AES-XTS, each of which is one device sector.
use Rattle.std.proofs.Common.{◌≡◌, ℕ, ◌*◌, List, [], ◌∷◌, length, Ok, ap, ◌∙◌, arith}
use Rattle.std.proofs.lemmas.List.{take_all, append-nil}
use Rattle.block_traits.specs.Parts.{parts}
use Rattle.eli_base.specs.declared.algorithms.Cipher.{Cipher}
use Rattle.eli_base.specs.Keying.{Keying}
use Rattle.range_keys.specs.Keys.{first_key, second_key, tweak}
use Rattle.range_keys.specs.Ring.{IsKeying}
use Rattle.sealing.specs.Runs.{sealed_by, opened_by}
use Rattle.sealing.specs.Sectors.{units, seal, reading, IsSingle}
use Rattle.sealing.proofs.Keys.{IsKey-first_key}
use Rattle.sealing.proofs.Plain.{units_fill, seal-plain, reading-plain}
use Rattle.sealing.proofs.Runs.{length-xts_seal, length-xts_open}
use Rattle.xts_mode.specs.Xts.{xts_seal, xts_open}

at_place : (k : Keying) (number : ℕ) → IsSingle k → number * k.sectorsize ≡ number * 512
at_place k number single = ap (λ (size : ℕ). number * size) single.size

pub reads_alone : (k : Keying) (number : ℕ) (sector : List ℕ) → IsKeying k → IsSingle k → length sector ≡ 512
    → reading k number (sector ∷ []) ≡ Ok (xts_open (first_key k (number * 512)) (second_key k (number * 512)) (tweak (number * 512)) sector)
reads_alone k number sector is single len =
    let offset : ℕ = number * 512 in
    let size = single.size in
    let run = ap (λ (c : Cipher). opened_by c k offset sector) single.xts in
    let long = length-xts_open (first_key k offset) (second_key k offset) (tweak offset) sector (IsKey-first_key k offset is).long (omega arith) in
    reading-plain k number offset (sector ∷ []) sector _ single.off (omega arith) (omega arith) (at_place k number single) (append-nil sector) run (omega arith)

pub sealed_alone : (k : Keying) (number : ℕ) (sector : List ℕ) → IsKeying k → IsSingle k → length sector ≡ 512
    → seal k number sector ≡ xts_seal (first_key k (number * 512)) (second_key k (number * 512)) (tweak (number * 512)) sector ∷ []
sealed_alone k number sector is single len =
    let offset : ℕ = number * 512 in
    let size = single.size in
    let run = ap (λ (c : Cipher). sealed_by c k offset sector) single.xts in
    let fill = units_fill k single.off (omega arith) (omega arith) in
    let one : units k ≡ 1 = omega arith in
    let cipher_text : List ℕ = xts_seal (first_key k offset) (second_key k offset) (tweak offset) sector in
    let long = length-xts_seal (first_key k offset) (second_key k offset) (tweak offset) sector (IsKey-first_key k offset is).long (omega arith) in
    seal-plain k number offset sector single.off (at_place k number single)
    ∙ (λ i. parts 512 (one i) (run i))
    ∙ ap (λ (l : List ℕ). l ∷ []) (take_all 512 cipher_text (omega arith))
