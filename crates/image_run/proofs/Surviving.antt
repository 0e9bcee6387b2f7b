-- The drawers of a run, by the disks that were opened for it.
use Rattle.std.proofs.Common.{◌≡◌, ◌∙◌, ◌++◌, ℕ, zero, suc, List, [], ◌∷◌, map, Option, Some, None, refl, sym, ap, subst, arith, slice_get}
use Rattle.std.specs.Prelude.{All, IfSome}
use Rattle.std.specs.Option.{option_map}
use Rattle.block_traits.specs.Content.{Content}
use Rattle.block_traits.specs.declared.disk.Disk.{Ghosts}
use Rattle.block_traits.specs.Cabinet.{CabinetState}
use Rattle.block_traits.specs.Streams.{EntropyState}
use Rattle.command_rows.specs.World.{DrawerState, World}
use Rattle.file_edge.specs.FileDisk as file
use Rattle.file_edge.specs.Told.{Told}
use Rattle.file_edge.specs.declared.file_disk.FileDisk.{FileDisk}
use Rattle.geli_core.proofs.Drawn.{same_some}
use Rattle.geli_core.specs.Images.{OutsideState, RunsOver, idle_drawers}
use Rattle.geli_core.specs.Lawful.{LineHolds}
use Rattle.geli_core.specs.Survivors.{EnduresCrashes, SurvivesBy}
use Rattle.geli_core.specs.Trace.{EachLine, ServedLine}
use Rattle.geli_core.specs.Vocabulary.{Play, Sep}
use Rattle.run_status.specs.declared.status.Status.{Status}
use Rattle.image_layers.proofs.Covered.{covered, tells_files}
use Rattle.image_layers.specs.Images.{IfFilesTell, TellsImage, image_disk_state, told_in_files}
use Rattle.image_layers.specs.declared.image_disks.ImageDisk.{ImageDisk}
use Rattle.image_run.proofs.FromFiles.{in_files}
use Rattle.image_run.specs.Surviving.{SurviveEachLine, SurviveInFiles, SurvivesInFile}
use Rattle.readings.specs.Steps.{Step, after}

-- what was reported grew by the steps
grown : (was now : Option Content) (steps : List Step) → now ≡ option_map (after steps) was → IfSome was (EnduresCrashes steps)
    → IfSome was (λ c. (now ≡ Some (after steps c)) × EnduresCrashes steps c)
grown None now steps same endures = tt
grown (Some c) now steps same endures = (same, endures)

module _ {F : Type 0} {g : Ghosts (FileDisk F)} (told : F → Option Told) where
  -- an idle drawer is that of the image at its place
  record IsOf (names : List (List ℕ)) (disks : List (ImageDisk F g)) (drawer : DrawerState) : Type 0 where
    pub place : ℕ
    pub disk : ImageDisk F g
    pub named : slice_get names place ≡ Some drawer.name
    pub opened : slice_get disks place ≡ Some disk
    pub state : image_disk_state disk ≡ drawer.disk
    pub telling : TellsImage told disk

  is_of : (names : List (List ℕ)) (disks : List (ImageDisk F g)) (drawer : DrawerState) (place : ℕ) → All (TellsImage told) disks
      → slice_get (idle_drawers names (map image_disk_state disks)) place ≡ Some drawer → IsOf names disks drawer
  is_of [] disks drawer place tell found = absurd (cc found)
  is_of (name ∷ names) [] drawer place tell found = absurd (cc found)
  is_of (name ∷ names) (disk ∷ disks) drawer zero tell found =
      let same = same_some _ _ found in
      record {
        place = 0;
        disk = disk;
        named = ap (λ (d : DrawerState). Some d.name) same;
        opened = refl;
        state = ap (λ (d : DrawerState). d.disk) same;
        telling = tell 0 disk (omega arith);
      }
  is_of (name ∷ names) (disk ∷ disks) drawer (suc place) tell found =
      let r = is_of names disks drawer place (λ i d inside. tell (suc i) d (omega (arith, inside))) found in
      record { place = suc r.place; disk = r.disk; named = r.named; opened = r.opened; state = r.state; telling = r.telling }

  in_file : (disk : ImageDisk F g) (now : Option Content) (steps : List Step) → (image_disk_state disk).content ≡ told_in_files told disk
      → now ≡ option_map (after steps) (image_disk_state disk).content → IfSome (image_disk_state disk).content (EnduresCrashes steps) → IfFilesTell told disk (λ c. (now ≡ Some (after steps c)) × EnduresCrashes steps c)
  in_file disk now steps tells grew endures =
      let P : Option Content → Type 0 = λ k. IfSome k (λ c. (now ≡ Some (after steps c)) × EnduresCrashes steps c) in
      subst P tells (grown (image_disk_state disk).content now steps grew endures)

  module _ (same : (d : FileDisk F) → (g.state d).content ≡ (file.file_disk_state told d).content) (names : List (List ℕ)) (disks : List (ImageDisk F g)) (tell : All (TellsImage told) disks) where
    -- a drawer that did steps since it lay idle did them in the file of its image
    by_steps : (Plays : DrawerState → Play → DrawerState → Type 0) (drawer : DrawerState) (survives : SurvivesBy Plays (idle_drawers names (map image_disk_state disks)) drawer)
        → SurvivesInFile told names disks drawer survives.play.steps
    by_steps Plays drawer survives =
        let r = is_of names disks survives.before survives.was.0 tell survives.was.1 in
        let content = ap (λ s. s.content) r.state in
        let grew = in_file r.disk drawer.disk.content survives.play.steps (tells_files told same r.disk r.telling) (survives.content ∙ ap (option_map (after survives.play.steps)) (sym content))
        (subst (λ (k : Option Content). IfSome k (EnduresCrashes survives.play.steps)) (sym content) survives.endures) in
        record {
          place = r.place;
          disk = r.disk;
          named = r.named ∙ ap Some (sym survives.name);
          opened = r.opened;
          in_file = grew;
          covered = λ disk is. covered told same disk;
          in_files = in_files told r.disk drawer.disk survives.play.steps grew (λ disk is. covered told same disk);
        }

    each_line : (sep : Sep) (cabinet : CabinetState) (entropy : EntropyState) (served : List ServedLine) (start : World) (lines : List ServedLine)
        (hold : EachLine (LineHolds sep (record { drawers = idle_drawers names (map image_disk_state disks); cabinet = cabinet; entropy = entropy })) served start lines)
        → SurviveEachLine told names disks sep (record { drawers = idle_drawers names (map image_disk_state disks); cabinet = cabinet; entropy = entropy }) served start lines hold
    each_line sep cabinet entropy served start [] hold = tt
    each_line sep cabinet entropy served start (l ∷ lines) hold =
        (λ drawer among. by_steps _ drawer (hold.0.drawers.survivors drawer among), each_line sep cabinet entropy (served ++ l ∷ []) l.next lines hold.1)

    -- each drawer that was ever there survives in the file of its image
    pub survive_in_files : (words : List (List ℕ)) (old new : OutsideState) (status : Status) (left : List DrawerState) (run : RunsOver words names (map image_disk_state disks) old status left new)
        → SurviveInFiles told names disks run
    survive_in_files words old new status left run = record {
      entry = λ drawer among. by_steps _ drawer (run.lawful.entry.survivors drawer among);
      lines = each_line run.lawful.trace.sep old.cabinet old.entropy [] _ run.lawful.trace.lines run.lawful.lines;
      exit = λ drawer among. by_steps _ drawer (run.lawful.exit drawer among);
    }
