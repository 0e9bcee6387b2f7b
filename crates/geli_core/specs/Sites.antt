-- What a run works on and what it reaches, as it stands and as it is borrowed.
use Rattle.std.specs.Prelude.{◌≡◌}
use Rattle.command_rows.specs.Vocabulary.{CabinetState, DiskState, EntropyState, SinkState, SourceState}
use Rattle.geli_core.specs.Images.{OutsideState, outside_of}
use Rattle.geli_core.specs.Served.{SiteState, site_of}
use Rattle.geli_core.specs.Vocabulary.{world_of}
use Rattle.geli_core.specs.declared.outside.Outside.{Outside}
use Rattle.geli_core.specs.declared.site.Site.{Site}

-- what a site has now, by what sinks, cabinets, entropies and disks have
abbrev pub site_now : {K C E D : Type 0} → (K → SinkState) → (C → CabinetState) → (E → EntropyState) → (D → DiskState)
    → Site K C E D → SiteState
site_now sink cabinet entropy disk site =
    site_of (world_of disk site.shelf.now (cabinet site.files.now) (entropy site.entropy.now)) (sink site.output.now)

-- the site borrows what it did
abbrev pub BorrowsAsBefore : {K C E D : Type 0} → Site K C E D → Site K C E D → Type 0
BorrowsAsBefore old new =
    (new.shelf.ghost_name ≡ old.shelf.ghost_name) × (new.output.ghost_name ≡ old.output.ghost_name)
    × (new.files.ghost_name ≡ old.files.ghost_name) × (new.entropy.ghost_name ≡ old.entropy.ghost_name)

-- what a run reaches besides its drawers has this now, by what sources, sinks, cabinets and entropies have
abbrev pub outside_now : {S K C E : Type 0} → (S → SourceState) → (K → SinkState) → (C → CabinetState) → (E → EntropyState)
    → Outside S K C E → OutsideState
outside_now source sink cabinet entropy outside =
    outside_of (cabinet outside.files.now) (entropy outside.entropy.now) (source outside.input.now) (sink outside.output.now)

-- what a run reaches besides its drawers is borrowed as before
abbrev pub ReachesAsBefore : {S K C E : Type 0} → Outside S K C E → Outside S K C E → Type 0
ReachesAsBefore old new =
    (new.input.ghost_name ≡ old.input.ghost_name) × (new.output.ghost_name ≡ old.output.ghost_name)
    × (new.files.ghost_name ≡ old.files.ghost_name) × (new.entropy.ghost_name ≡ old.entropy.ghost_name)

-- what a run reaches besides its drawers is as it was
abbrev pub HasAsBefore : {S K C E : Type 0} → Outside S K C E → Outside S K C E → Type 0
HasAsBefore old new =
    (new.input.now ≡ old.input.now) × (new.output.now ≡ old.output.now)
    × (new.files.now ≡ old.files.now) × (new.entropy.now ≡ old.entropy.now)
