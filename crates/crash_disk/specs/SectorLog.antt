-- What sectors in memory hold.
use Rattle.std.specs.Prelude.{◌≡◌, [], ◌∷◌}
use Rattle.block_traits.specs.declared.disk.Event.{Event}
use Rattle.block_traits.specs.Content.{Content, with_events}
use Rattle.crash_disk.specs.declared.sector_log.SectorLog.{SectorLog}
use Rattle.crash_disk.specs.Replay.{content}

abbrev pub content_of : SectorLog → Content
content_of log = content log.base.items log.events.items

-- one event was appended
pub record Appends (event : Event) (old new : SectorLog) : Type 0 where
  pub content : content_of new ≡ with_events (event ∷ []) (content_of old)
  pub room : new.room ≡ old.room
