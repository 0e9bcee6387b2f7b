-- What a run begins with.
use Rattle.std.proofs.Common.{◌≡◌, subst, ℕ, List}
use Rattle.block_traits.specs.Cabinet.{CabinetState}
use Rattle.block_traits.specs.Disk.{DiskState}
use Rattle.block_traits.specs.Streams.{EntropyState, SinkState, SourceState}
use Rattle.command_rows.specs.World.{DrawerState}
use Rattle.command_words.specs.Images.{image_names}
use Rattle.geli_core.specs.Images.{OutsideState, RunsOver, outside_of}
use Rattle.run_status.specs.declared.status.Status.{Status}

pub over_new : (words names : List (List ℕ)) (disks : List DiskState) (old : OutsideState) (status : Status) (left : List DrawerState) (new begun : OutsideState)
    → names ≡ image_names words → old ≡ begun → RunsOver words names disks old status left new → RunsOver words (image_names words) disks begun status left new
over_new words names disks old status left new begun named same runs =
    let P : List (List ℕ) → Type 0 = λ n. RunsOver words n disks old status left new in
    let Q : OutsideState → Type 0 = λ o. RunsOver words (image_names words) disks o status left new in
    subst Q same (subst P named runs)

-- the cabinet and the random bytes that were opened are those that were reported
pub same_outside : (cabinet cabinet' : CabinetState) (entropy entropy' : EntropyState) (source : SourceState) (sink : SinkState) → cabinet ≡ cabinet' → entropy ≡ entropy'
    → outside_of cabinet entropy source sink ≡ outside_of cabinet' entropy' source sink
same_outside cabinet cabinet' entropy entropy' source sink fresh first = λ i. outside_of (fresh i) (first i) source sink
