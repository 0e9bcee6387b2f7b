-- What is promised of a disk on which some steps were done, if power fails after the first of them.
use Rattle.std.specs.Prelude.{◌≡◌, ◌≢◌, ◌⊎◌, ℕ, ◌*◌, ◌<◌, List, [], ◌∷◌, ◌++◌, take, get_or, None, Result, Ok, Err}
use Rattle.block_traits.specs.Content.{Content}
use Rattle.block_traits.specs.Crash.{IsAltered, IsImage, IsTorn, IsUnsettled}
use Rattle.eli_base.specs.declared.algorithms.Auth.TheVariants.{Off}
use Rattle.eli_base.specs.Keying.{Keying}
use Rattle.sealing.specs.Sectors.{unit_place, units, unit_readings, unit_reading_at}
use Rattle.readings.specs.Writings.{PutUnit, Writing, Put}
use Rattle.readings.specs.Steps.{Step, Place, Flush, cell}
use Rattle.readings.specs.Read.{Matches, matching, read}
use Rattle.readings.specs.Survivors.{IsOfCell, IsStrange, ReadFromCells, ReadsAsPut, chosen, moment, sectors_in}
use Rattle.readings.specs.Ever.{IsForged, ReadsAsOneOf, ever, placed_at}

-- what each unit of a logical sector of an image opens to under a keying
abbrev pub image_units : Keying → ℕ → List (List ℕ) → List (Result (List ℕ) ℕ)
image_units k sector image = unit_readings k sector (sectors_in k sector image)

-- what unit j of a logical sector of an image opens to under a keying
abbrev pub image_unit : Keying → ℕ → List (List ℕ) → ℕ → Result (List ℕ) ℕ
image_unit k sector image j = get_or (image_units k sector image) j (Ok [])

-- ---- a unit that is a fault

-- what stands in device sector n of an image: a writing of its cell, or strange bytes if the sector may have such
abbrev pub StandsThere : (ℕ → List Writing) → (ℕ → Type 0) → List (List ℕ) → ℕ → Writing → Type 0
StandsThere cells may_be_strange image n w =
    IsOfCell (cells n) (get_or image n []) w ⊎ (IsStrange (cells n) (get_or image n []) w × may_be_strange n)

-- why unit j of a logical sector may be a fault at this byte offset: there is authentication, the offset is that of its
-- device sector, and what stands there wasn't put there as this unit under this keying
pub record HasFaultCause (k : Keying) (sector j : ℕ) (cells : ℕ → List Writing) (may_be_strange : ℕ → Type 0) (image : List (List ℕ)) (offset : ℕ) : Type 0 where
  pub tagged : k.auth ≢ Off
  pub place : offset ≡ 512 * unit_place k sector j
  pub writing : Writing
  pub stands : StandsThere cells may_be_strange image (unit_place k sector j) writing
  pub not_put : matching k sector j writing ≡ None

-- ---- a unit that is accepted

-- with authentication unit j of a logical sector is a fault; or it reads by itself, either as one of these writings,
-- which is accepted there and has its ciphertext, or as forged bytes
abbrev pub FaultsOrIsKnownOrForged : Keying → ℕ → ℕ → List (List ℕ) → List Writing → Type 0
FaultsOrIsKnownOrForged k sector j image known =
    let n = unit_place k sector j in let there = get_or image n [] in
    (image_unit k sector image j ≡ Err (512 * n))
    ⊎ ((image_unit k sector image j ≡ unit_reading_at k n there) × (ReadsAsOneOf k n there known ⊎ IsForged k n there known))

-- ---- a logical sector of an image

-- if device sectors may hold strange bytes, a logical sector reads from the cells, each fault has its cause, and what
-- is accepted is known or forged
pub record ReadsWithCauses (k : Keying) (sector : ℕ) (cells : ℕ → List Writing) (may_be_strange : ℕ → Type 0) (known : ℕ → List Writing) (image : List (List ℕ)) : Type 0 where
  pub from : ReadFromCells k sector cells may_be_strange image
  pub fault : (j offset : ℕ) → j < units k → image_unit k sector image j ≡ Err offset → HasFaultCause k sector j cells may_be_strange image offset
  pub accepted : k.auth ≢ Off → (j : ℕ) → j < units k → FaultsOrIsKnownOrForged k sector j image (known (unit_place k sector j))

-- the last that was placed in device sector n before a flush is this writing, and nothing was placed there since
pub record IsFlushed (steps : List Step) (n : ℕ) (w : Writing) : Type 0 where
  pub earlier : List Step
  pub between : List Step
  pub since : List Step
  pub are : steps ≡ earlier ++ (Place n w ∷ (between ++ (Flush ∷ since)))
  pub last : placed_at between n ≡ []
  pub still : placed_at since n ≡ []

-- What is promised of a logical sector under a keying, if power fails after the first t of these steps, on a disk that
-- had this content before. In an image in which each device sector is whole, it reads as the writings that the image
-- chose from the cells; in a torn one, as writings of the cells, or as strange bytes if a device sector has more than
-- one kept value; in an altered one, as those or any bytes. What was flushed as a unit of this logical sector
-- reads so in each image that isn't altered.
pub record Endures (c : Content) (steps : List Step) (t : ℕ) (k : Keying) (sector : ℕ) : Type 0 where
  pub whole : (choice : ℕ → ℕ) (image : List (List ℕ)) → IsImage (moment t steps c) choice image →
      image_units k sector image ≡ read k sector (chosen k sector (cell c (take t steps)) choice)
  pub torn : (image : List (List ℕ)) → IsTorn (moment t steps c) image →
      ReadsWithCauses k sector (cell c (take t steps)) (IsUnsettled (moment t steps c)) (ever c (take t steps)) image
  pub altered : (image : List (List ℕ)) → IsAltered (moment t steps c) image →
      ReadsWithCauses k sector (cell c (take t steps)) (λ n. Unit {0}) (ever c (take t steps)) image
  pub flushed : (j : ℕ) (p : PutUnit) → j < units k → IsFlushed (take t steps) (unit_place k sector j) (Put p) → Matches k sector j (Put p) p →
      (image : List (List ℕ)) → IsTorn (moment t steps c) image → ReadsAsPut k p (image_unit k sector image j)
