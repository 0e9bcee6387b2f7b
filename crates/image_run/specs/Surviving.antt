-- What becomes of the drawers of a run in the files of their images.
use Rattle.std.specs.Prelude.{◌≡◌, ℕ, ◌<◌, List, [], ◌∷◌, ◌++◌, All, length, Option, Some, map, slice_get}
use Rattle.block_traits.specs.Content.{Content}
use Rattle.block_traits.specs.Crash.{IsUnsettled}
use Rattle.block_traits.specs.declared.disk.Disk.{Ghosts}
use Rattle.command_rows.specs.Vocabulary.{IsKeying, Keying}
use Rattle.command_rows.specs.World.{DrawerState, IsAmong, World}
use Rattle.file_edge.specs.Told.{Told}
use Rattle.file_edge.specs.declared.file_disk.FileDisk.{FileDisk}
use Rattle.geli_core.specs.Images.{OutsideState, RunsOver, idle_drawers, whole_with}
use Rattle.geli_core.specs.Lawful.{LineHolds}
use Rattle.geli_core.specs.Survivors.{EnduresCrashes}
use Rattle.geli_core.specs.Trace.{EachLine, ServedLine}
use Rattle.geli_core.specs.Vocabulary.{Sep}
use Rattle.run_status.specs.declared.status.Status.{Status}
use Rattle.image_layers.specs.Images.{IfFilesTell, TellsImage, image_disk_state}
use Rattle.image_layers.specs.InFiles.{AreCovered, IsLeft, IsLeftAltered, IsLeftTorn, kept_in_files}
use Rattle.image_layers.specs.declared.image_disks.ImageDisk.{ImageDisk}
use Rattle.readings.specs.Crashes.{IsFlushed, ReadsWithCauses, image_unit, image_units}
use Rattle.readings.specs.Ever.{ever}
use Rattle.readings.specs.Read.{Matches, read}
use Rattle.readings.specs.Steps.{Step, after, cell}
use Rattle.readings.specs.Survivors.{ReadsAsPut, chosen, content_media}
use Rattle.readings.specs.Writings.{Put, PutUnit}
use Rattle.sealing.specs.Sectors.{unit_place, units}

-- What is promised of each image that a power failure leaves of files, whose sectors may hold these values, after these
-- steps on a disk that had this content before. If each device sector is whole, one choice of writings from the cells says
-- what each logical sector reads as. In a torn or an altered image it reads from the cells with causes, and in a torn one
-- what was flushed reads as it was put (docs/THEOREM.md).
pub record ReadsFromFiles (kept : ℕ → List (List ℕ)) (c : Content) (steps : List Step) : Type 0 where
  pub whole : (image : List (List ℕ)) → IsLeft (length c.base) kept image →
      (choice : ℕ → ℕ) × ((k : Keying) (sector : ℕ) → IsKeying k → sector < content_media k c → image_units k sector image ≡ read k sector (chosen k sector (cell c steps) choice))
  pub torn : (image : List (List ℕ)) → IsLeftTorn (length c.base) kept image → (k : Keying) (sector : ℕ) → IsKeying k → sector < content_media k c →
      ReadsWithCauses k sector (cell c steps) (IsUnsettled (after steps c)) (ever c steps) image
  pub altered : (image : List (List ℕ)) → IsLeftAltered (length c.base) kept image → (k : Keying) (sector : ℕ) → IsKeying k → sector < content_media k c →
      ReadsWithCauses k sector (cell c steps) (λ n. Unit {0}) (ever c steps) image
  pub flushed : (image : List (List ℕ)) → IsLeftTorn (length c.base) kept image → (k : Keying) (sector : ℕ) → IsKeying k → sector < content_media k c →
      (j : ℕ) (p : PutUnit) → j < units k → IsFlushed steps (unit_place k sector j) (Put p) → Matches k sector j (Put p) p → ReadsAsPut k p (image_unit k sector image j)

module _ {F : Type 0} {g : Ghosts (FileDisk F)} (told : F → Option Told) where
  -- The drawer is that of one of these images, by its name, and did these steps. If the disk of the image was opened on
  -- files that reported their content then, what it reports is this with the events of the steps after it and no other.
  -- If power fails at any moment of them, before or within any write of a device sector, each image that is left reads
  -- unit by unit as promised (docs/THEOREM.md). What a crash leaves of the files now is such an image (`covered`), so each
  -- reads as promised (`in_files`).
  pub record SurvivesInFile (names : List (List ℕ)) (disks : List (ImageDisk F g)) (drawer : DrawerState) (steps : List Step) : Type 0 where
    pub place : ℕ
    pub disk : ImageDisk F g
    pub named : slice_get names place ≡ Some drawer.name
    pub opened : slice_get disks place ≡ Some disk
    pub in_file : IfFilesTell told disk (λ c. (drawer.disk.content ≡ Some (after steps c)) × EnduresCrashes steps c)
    pub covered : AreCovered g told drawer.disk
    pub in_files : IfFilesTell told disk (λ c. (now : ImageDisk F g) → image_disk_state now ≡ drawer.disk → ReadsFromFiles (kept_in_files told now) c steps)

  module _ (names : List (List ℕ)) (disks : List (ImageDisk F g)) where
    -- each drawer that is there after a line survives in its file, by the steps that the laws of that line say
    abbrev pub SurviveEachLine : (sep : Sep) (entry : World) (served : List ServedLine) (start : World) (lines : List ServedLine)
        → EachLine (LineHolds sep entry) served start lines → Type 0
    SurviveEachLine sep entry served start [] hold = Unit {0}
    SurviveEachLine sep entry served start (l ∷ lines) hold =
        ((drawer : DrawerState) (among : IsAmong l.next.drawers drawer) → SurvivesInFile names disks drawer (hold.0.drawers.survivors drawer among).play.steps)
        × SurviveEachLine sep entry (served ++ l ∷ []) l.next lines hold.1

    -- each drawer that is there at entry, after any line, or at exit survives in its file, so also one that a later
    -- line takes out
    pub record SurviveInFiles {words : List (List ℕ)} {old new : OutsideState} {status : Status} {left : List DrawerState} (run : RunsOver words names (map image_disk_state disks) old status left new) : Type 0 where
      pub entry : (drawer : DrawerState) (among : IsAmong (idle_drawers names (map image_disk_state disks)) drawer) → SurvivesInFile names disks drawer (run.lawful.entry.survivors drawer among).play.steps
      pub lines : SurviveEachLine run.lawful.trace.sep (whole_with (idle_drawers names (map image_disk_state disks)) old).world [] (whole_with (idle_drawers names (map image_disk_state disks)) old).world run.lawful.trace.lines run.lawful.lines
      pub exit : (drawer : DrawerState) (among : IsAmong left drawer) → SurvivesInFile names disks drawer (run.lawful.exit drawer among).play.steps

-- every run leaves the files so that they survive crashes (`SurviveInFiles`), over disks of which each reports what its
-- files report
abbrev pub EachRunSurvives : {F : Type 0} (g : Ghosts (FileDisk F)) (told : F → Option Told) → Type 0
EachRunSurvives {F} g told =
    (words names : List (List ℕ)) (disks : List (ImageDisk F g)) (old new : OutsideState) (status : Status) (left : List DrawerState)
    (run : RunsOver words names (map image_disk_state disks) old status left new) → All (TellsImage told) disks → SurviveInFiles told names disks run
