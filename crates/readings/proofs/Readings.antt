-- What the units of a logical sector open to is what they read as.
use Rattle.std.proofs.Common.{◌≡◌, ◌≢◌, inl, inr, ℕ, ◌*◌, List, [], length, Result, Ok, ap, ◌∙◌}
use Rattle.std.proofs.lemmas.List.{length-map}
use Rattle.std.proofs.lemmas.List.FromFn.{fill_by_all}
use Rattle.eli_base.specs.declared.algorithms.Auth.{Auth}
use Rattle.eli_base.specs.declared.algorithms.Auth.TheVariants.{Off}
use Rattle.eli_base.specs.Keying.{Keying}
use Rattle.eli_base.proofs.Units.{off_or_not}
use Rattle.range_keys.specs.Ring.{IsKeying}
use Rattle.sealing.specs.Runs.{opened_run}
use Rattle.sealing.specs.Sectors.{units, opened_with, unit_readings}
use Rattle.std.specs.List.{concat}
use Rattle.block_traits.specs.Parts.{parts}
use Rattle.block_traits.proofs.PartLists.{length-parts}
use Rattle.readings.specs.Writings.{Writing, AreWritings, device_bytes, all_device_bytes}
use Rattle.readings.specs.Read.{read_unit, read}
use Rattle.readings.proofs.Plain.{opened_unit-plain}
use Rattle.sealing.proofs.TaggedUnitLaws.{length-unit_readings-tagged}
use Rattle.readings.proofs.UnitsAlone.{opened_unit-tagged}

length-off : (k : Keying) (sector : ℕ) (sectors : List (List ℕ)) → k.auth ≡ Off → length (unit_readings k sector sectors) ≡ units k
length-off k sector sectors off =
    let run : List ℕ = opened_run k (sector * k.sectorsize) (concat sectors) in
    let ok : List ℕ → Result (List ℕ) ℕ = λ b. Ok b in
    ap (λ (a : Auth). length (opened_with a k sector sectors)) off
    ∙ length-map (parts 512 (units k) run) ok ∙ length-parts 512 (units k) run

unit_readings-plain : (k : Keying) (sector : ℕ) (ws : List Writing) → IsKeying k → k.auth ≡ Off → AreWritings k ws
    → unit_readings k sector (all_device_bytes ws) ≡ read k sector ws
unit_readings-plain k sector ws is off are =
    fill_by_all (read_unit k sector ws) (unit_readings k sector (all_device_bytes ws)) (units k) (Ok []) (length-off k sector (all_device_bytes ws) off)
    (λ j lt. opened_unit-plain k sector j ws is off are lt)

unit_readings-tagged : (k : Keying) (sector : ℕ) (ws : List Writing) → IsKeying k → k.auth ≢ Off → AreWritings k ws
    → unit_readings k sector (all_device_bytes ws) ≡ read k sector ws
unit_readings-tagged k sector ws is on are =
    let count = length-unit_readings-tagged k sector (all_device_bytes ws) on ∙ length-map ws device_bytes ∙ are.count in
    fill_by_all (read_unit k sector ws) (unit_readings k sector (all_device_bytes ws)) (units k) (Ok []) count
    (λ j lt. opened_unit-tagged k sector j ws is on are lt)

pub unit_readings-read : (k : Keying) (sector : ℕ) (ws : List Writing) → IsKeying k → AreWritings k ws → unit_readings k sector (all_device_bytes ws) ≡ read k sector ws
unit_readings-read k sector ws is are = elim (off_or_not k.auth) [
  | inl off ↦ unit_readings-plain k sector ws is off are
  | inr on ↦ unit_readings-tagged k sector ws is on are
]
