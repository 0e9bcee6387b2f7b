-- Which units are accepted among device sectors that stand one after the other.
use Rattle.std.specs.Prelude.{◌≡◌, ℕ, ◌+◌, ◌*◌, ◌/◌, ◌%◌, ◌<◌, ◌≤◌, Bool, true, false, List, [], length, get_or, Option, Some, None, is_ok}
use Rattle.block_traits.specs.Parts.{part}
use Rattle.eli_base.specs.Keying.{Keying}
use Rattle.eli_base.specs.Units.{unit_bytes_of}
use Rattle.sealing.specs.Sectors.{unit_reading_at, units}
use Rattle.sector_runs.specs.declared.judged.Judged.{Judged}

-- whether the unit of a number among these device sectors is accepted, as the one that stands there; the first device
-- sector has number n
abbrev pub accepted_among : Keying → ℕ → List ℕ → ℕ → Bool
accepted_among k n device m = is_ok (unit_reading_at k (n + m) (part 512 m device))

-- four device sectors, the first of number n, have whole units of one logical sector
abbrev pub HasWholeFour : Keying → ℕ → Type 0
HasWholeFour k n = n % units k + 4 ≤ k.sectorsize / unit_bytes_of k.auth

-- what is known of the unit of a number among some that were checked
abbrev pub verdict : Judged → ℕ → Bool
verdict judged m = get_or (get_or judged.accepted (m % judged.rows) []) (m / judged.rows) false

-- one unit or more of these device sectors were checked, from the first on
pub record Judges (k : Keying) (n : ℕ) (device : List ℕ) (judged : Judged) : Type 0 where
  pub some : 1 ≤ judged.count
  pub within : 512 * judged.count ≤ length device
  pub each : (m : ℕ) → m < judged.count → verdict judged m ≡ accepted_among k n device m

-- the first unit of so many that is refused, or none of them is
abbrev pub IsFirstRefused : (ℕ → Bool) → ℕ → Option ℕ → Type 0
IsFirstRefused accepted count None = (m : ℕ) → m < count → accepted m ≡ true
IsFirstRefused accepted count (Some first) = (first < count) × (accepted first ≡ false) × ((m : ℕ) → m < first → accepted m ≡ true)
