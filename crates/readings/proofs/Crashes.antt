-- What is promised of a disk if power fails.
use Rattle.std.proofs.Common.{◌≡◌, ◌∙◌, ℕ, ◌+◌, ◌*◌, ◌<◌, ◌≤◌, List, [], ◌∷◌, length, take, get_or, refl, sym, ap, subst, arith, Result, Ok}
use Rattle.block_traits.specs.Content.{Content, IsContentOf}
use Rattle.block_traits.specs.Crash.{IsTorn, IsUnsettled}
use Rattle.eli_base.specs.Keying.{Keying}
use Rattle.range_keys.specs.Ring.{IsKeying}
use Rattle.sealing.specs.Sectors.{unit_place, units}
use Rattle.readings.specs.Writings.{PutUnit, Writing, Put}
use Rattle.readings.specs.Steps.{Step, cell}
use Rattle.readings.specs.Read.{Matches, read_unit, writing_in}
use Rattle.readings.specs.Survivors.{AreSteps, ReadFromCells, ReadsAsPut, content_media, moment}
use Rattle.readings.specs.Ever.{ever}
use Rattle.readings.specs.Crashes.{Endures, IsFlushed, ReadsWithCauses, image_unit}
use Rattle.readings.proofs.Readings.{unit_readings-read}
use Rattle.readings.proofs.Survivors.{AreSteps-take, altered-reads_at, image-reads_at, moment-after, room, some-units, torn-reads_at}
use Rattle.readings.proofs.Settled.{cell-flushed, fault-cause, opened_unit-read, settled-reads, tagged-image}

-- what a unit of the image opens to is what the writings say
unit-from : (k : Keying) (sector j : ℕ) (cells : ℕ → List Writing) (may : ℕ → Type 0) (image : List (List ℕ)) → IsKeying k → j < units k
    → (from : ReadFromCells k sector cells may image) → image_unit k sector image j ≡ read_unit k sector from.writings j
unit-from k sector j cells may image is lt from =
    ap (λ (l : List (Result (List ℕ) ℕ)). get_or l j (Ok [])) (from.readings ∙ sym (unit_readings-read k sector from.writings is from.fits))
    ∙ opened_unit-read k sector j from.writings is from.fits lt

causes : (k : Keying) (sector : ℕ) (cells : ℕ → List Writing) (may : ℕ → Type 0) (known : ℕ → List Writing) (image : List (List ℕ)) → IsKeying k
    → sector * units k + units k ≤ length image → ReadFromCells k sector cells may image → ReadsWithCauses k sector cells may known image
causes k sector cells may known image is fits from = record {
  from = from;
  fault = λ j offset lt e.
      let c = fault-cause k sector j from.writings offset is from.fits lt (sym (unit-from k sector j cells may image is lt from) ∙ e) in
      record { tagged = c.1; place = c.2; writing = writing_in from.writings j; stands = from.each j lt; not_put = c.0 };
  accepted = λ on j lt. tagged-image k sector j image (known (unit_place k sector j)) on fits lt;
}

flushed-reads : (c : Content) (steps : List Step) (t : ℕ) (k : Keying) (sector j : ℕ) (p : PutUnit) (image : List (List ℕ))
    → IsContentOf (length c.base) c → AreSteps steps → IsKeying k → sector < content_media k c → j < units k → IsFlushed (take t steps) (unit_place k sector j) (Put p)
    → Matches k sector j (Put p) p → IsTorn (moment t steps c) image → ReadsAsPut k p (image_unit k sector image j)
flushed-reads c steps t k sector j p image content are is below lt f m torn =
    let n : ℕ = unit_place k sector j in
    let one : cell c (take t steps) n ≡ Put p ∷ [] = ap (λ (l : List Step). cell c l n) f.are ∙ cell-flushed c f.earlier f.between f.since n (Put p) f.last f.still in
    settled-reads c (take t steps) image k sector j p content (AreSteps-take t steps are) is below lt
    (subst (λ (d : Content). IsTorn d image) (moment-after t steps c) torn) one m

pub endures : (c : Content) (steps : List Step) (t : ℕ) (k : Keying) (sector : ℕ)
    → IsContentOf (length c.base) c → AreSteps steps → IsKeying k → sector < content_media k c → Endures c steps t k sector
endures c steps t k sector content are is below =
    let fits = room (units k) sector (length c.base) (some-units k is) below in
    let base : length (moment t steps c).base ≡ length c.base = refl in
    record {
      whole = λ choice image image_is. image-reads_at c steps t choice image k sector content are is below image_is;
      torn = λ image torn.
          let size = torn.same.size in
          causes k sector (cell c (take t steps)) (IsUnsettled (moment t steps c)) (ever c (take t steps)) image is (omega (arith, size, fits)) (torn-reads_at c steps t image k sector content are is below torn);
      altered = λ image altered.
          let size = altered.same.size in
          causes k sector (cell c (take t steps)) (λ n. Unit {0}) (ever c (take t steps)) image is (omega (arith, size, fits)) (altered-reads_at c steps t image k sector content are is below altered);
      flushed = λ j p lt f m image torn. flushed-reads c steps t k sector j p image content are is below lt f m torn;
    }
