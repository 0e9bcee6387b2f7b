-- A run over disks, each under its name.
use Rattle.std.specs.Prelude.{ℕ, ◌<◌, List, [], ◌∷◌, ◌++◌, length, map, Option, None, Some}
use Rattle.command_rows.specs.Rows.{DrawerState, Idle, NamesDiffer}
use Rattle.command_rows.specs.Vocabulary.{CabinetState, DiskState, EntropyState, SinkState, SourceState}
use Rattle.geli_core.specs.Lawful.{RunsLawfully}
use Rattle.geli_core.specs.Script.{Whole}
use Rattle.geli_core.specs.Vocabulary.{AddFault, Shelved, drawers_of}
use Rattle.geli_core.specs.declared.images.NotShelved.{NotShelved}
use Rattle.run_status.specs.declared.status.Status.{Status}
use Rattle.shelf.specs.Adding.{most_drawers}
use Rattle.shelf.specs.declared.drawers.AddFault.TheVariants.{Full, Taken, NoMemory}

-- disks under names, each idle
abbrev pub idle_drawers : List (List ℕ) → List DiskState → List DrawerState
idle_drawers (name ∷ names) (disk ∷ disks) = record { name = name; disk = disk; holding = Idle } ∷ idle_drawers names disks
idle_drawers names disks = []

-- what a run reaches besides drawers
pub record OutsideState : Type 0 where
  pub cabinet : CabinetState
  pub entropy : EntropyState
  pub source : SourceState
  pub sink : SinkState

abbrev pub outside_of : CabinetState → EntropyState → SourceState → SinkState → OutsideState
outside_of cabinet entropy source sink = record { cabinet = cabinet; entropy = entropy; source = source; sink = sink }

-- all that a run may change, with these drawers
abbrev pub whole_with : List DrawerState → OutsideState → Whole
whole_with drawers outside = record {
  world = record { drawers = drawers; cabinet = outside.cabinet; entropy = outside.entropy };
  source = outside.source;
  sink = outside.sink;
}

-- why no shelf takes all of these drawers: there are more than it has room for, or two have one name; or there was no
-- memory
abbrev pub IsNotShelved : AddFault → List DrawerState → Type 0
IsNotShelved Full drawers = most_drawers < length drawers
IsNotShelved Taken drawers = NamesDiffer drawers → ⊥
IsNotShelved NoMemory drawers = Unit {0}

-- the disks of drawers, in order
abbrev pub disks_of : List DrawerState → List DiskState
disks_of drawers = map (λ drawer. drawer.disk) drawers

-- the disks of the drawers on a shelf, if there is one
abbrev pub disks_on : {D : Type 0} → (D → DiskState) → Option (Shelved D) → List DiskState
disks_on state None = []
disks_on state (Some shelf) = disks_of (drawers_of state shelf.drawers)

-- one disk, or none
abbrev pub one_or_none : {D : Type 0} → (D → DiskState) → Option D → List DiskState
one_or_none state None = []
one_or_none state (Some disk) = state disk ∷ []

-- the disks that are handed back if no shelf takes all of them: those that one took, the one that it refused, and those
-- after it
abbrev pub disks_back : {D : Type 0} → (D → DiskState) → NotShelved D → List DiskState
disks_back state refused = disks_on state refused.shelf ++ (one_or_none state refused.disk ++ map state refused.rest.items)

-- a run of the words over disks under names: at first there is a drawer for each name, in order, in which the disk of
-- that place lies idle, and there is no other, nor one with the same name; all that is said of runs holds of the run
-- from these drawers to those that are left at last
pub record RunsOver (words names : List (List ℕ)) (disks : List DiskState) (old : OutsideState) (status : Status) (left : List DrawerState) (new : OutsideState) : Type 0 where
  pub differ : NamesDiffer (idle_drawers names disks)
  pub lawful : RunsLawfully words (whole_with (idle_drawers names disks) old) status (whole_with left new)
