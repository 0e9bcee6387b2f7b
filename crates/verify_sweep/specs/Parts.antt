-- Sweeps one after another, and the units of logical sectors.
use Rattle.std.specs.Prelude.{ℕ, zero, suc, ◌+◌, ◌/◌, List, [], ◌∷◌, ◌++◌, min, Result}
use Rattle.std.specs.List.{range_with_len}
use Rattle.block_traits.specs.Content.{Content}
use Rattle.eli_base.specs.Keying.{Keying}
use Rattle.sector_runs.specs.Reading.{units_read}
use Rattle.sealing.specs.Sectors.{units}
use Rattle.verify_sweep.specs.Sweeping.{Sweep, sectors_swept}

-- what the units of so many logical sectors read as now
abbrev pub units_read_from : Keying → Content → ℕ → ℕ → List (Result (List ℕ) ℕ)
units_read_from k c sector zero = []
units_read_from k c sector (suc count) = units_read k c sector ++ units_read_from k c (sector + 1) count

-- the sweep over so many sectors that begins at a place
abbrev pub sweep_at : Keying → ℕ → ℕ → ℕ → Sweep
sweep_at k media start count = record { keying = k; media = media; start = start; count = count }

-- where sweeps over these counts of sectors end: the first begins at a place, and each other where the one before ended
abbrev pub place_after : Keying → ℕ → ℕ → List ℕ → ℕ
place_after k media start [] = start
place_after k media start (count ∷ counts) = place_after k media (start + sectors_swept (sweep_at k media start count)) counts

-- the numbers of the sectors that such sweeps go over
abbrev pub sectors_after : Keying → ℕ → ℕ → List ℕ → List ℕ
sectors_after k media start [] = []
sectors_after k media start (count ∷ counts) =
    range_with_len start (sectors_swept (sweep_at k media start count)) ++ sectors_after k media (start + sectors_swept (sweep_at k media start count)) counts

-- a count, cut to the sectors that have 16,384 units
abbrev pub cut_count : Keying → ℕ → ℕ
cut_count k count = min count (16384 / units k)
