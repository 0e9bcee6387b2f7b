-- Sectors that are zeros but for what was written.
use Rattle.std.specs.Prelude.{ℕ, List, replicate}
use Rattle.block_traits.specs.declared.disk.Event.{Event}
use Rattle.crash_disk.specs.Image.{zero_sector}
use Rattle.crash_disk.specs.Replay.{replayed}

-- so many sectors of zeros after these events
abbrev pub written : ℕ → List Event → List (List ℕ)
written size events = replayed (replicate size zero_sector) events
