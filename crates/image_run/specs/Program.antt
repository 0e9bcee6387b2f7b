-- What a run of the program begins with, and what it does.
use Rattle.std.specs.Prelude.{ℕ, All, List, map, Option}
use Rattle.block_traits.specs.Streams.{SinkState, SourceState}
use Rattle.block_traits.specs.declared.disk.Disk.{Ghosts}
use Rattle.command_rows.specs.World.{DrawerState}
use Rattle.command_words.specs.Changes.{changes_images}
use Rattle.command_words.specs.Images.{image_names}
use Rattle.file_edge.specs.Asked.{Asked}
use Rattle.file_edge.specs.FileCabinet.{new_cabinet}
use Rattle.file_edge.specs.Names.{IsRandom}
use Rattle.file_edge.specs.RandomFile.{left_in, new_entropy}
use Rattle.file_edge.specs.declared.file_disk.FileDisk.{FileDisk}
use Rattle.file_edge.specs.declared.found.FileId.{FileId}
use Rattle.file_edge.specs.declared.image_file.ImageFile as image_file
use Rattle.file_edge.specs.declared.opener.Opener as opener
use Rattle.file_edge.specs.declared.random_file.RandomFile.{RandomFile}
use Rattle.geli_core.specs.Images.{OutsideState, RunsOver, outside_of}
use Rattle.run_status.specs.declared.status.Status.{Status}
use Rattle.image_layers.specs.Images.{AsksFirst, OpensNamed, TellsImage, image_disk_state}
use Rattle.image_layers.specs.declared.image_disks.ImageDisk.{ImageDisk}
use Rattle.image_run.specs.Surviving.{SurviveInFiles}

-- if there was no memory before a run: nothing was asked but the first of the files of the images that the words name
abbrev pub AsksFirstFiles : {O : Type 0} → (O → Option (List Asked)) → List (List ℕ) → O → O → Type 0
AsksFirstFiles log_of words old new = AsksFirst log_of (changes_images words) (image_names words) old new

module _ {O F : Type 0} {g : Ghosts (FileDisk F)} (o : opener.Ghosts O F) (f : image_file.Ghosts F) where
  -- what the run of these words begins with: the images that they name are opened, to be changed unless the command
  -- only reads, and then the random bytes
  abbrev pub OpensAll : List (List ℕ) → List (ImageDisk F g) → List FileId → RandomFile F → O → O → Type 0
  OpensAll words disks files random old new = OpensNamed o f (changes_images words) (image_names words) disks files random old new

module _ {O F : Type 0} (g : Ghosts (FileDisk F)) (o : opener.Ghosts O F) (f : image_file.Ghosts F) where
  -- all that a run begins with was opened, and nothing else was asked
  pub record HasOpened (words : List (List ℕ)) (old new : O) : Type 0 where
    pub disks : List (ImageDisk F g)
    pub files : List FileId
    pub random : RandomFile F
    pub opens : OpensAll o f words disks files random old new

  -- The words were run over the images that they name. What opens files opened just these and the random bytes. All
  -- that is said of runs holds of the run of the words over drawers with those names, in which just the disks of these
  -- images lay, to the drawers that are left. Each disk reports what its files report. The cabinet has
  -- the files that were reported of the names, but for these images. The random bytes are those that were reported. Of
  -- neither anything was asked before; after the run they are those that are left. `survives`: whatever a power failure
  -- leaves in the file of an image alone that reports its sectors, at any moment of the run, reads as promised, from
  -- the content that the file had when it was opened.
  pub record RunsOverFiles (words : List (List ℕ)) (opener : O) (source : SourceState) (sink : SinkState) (status : Status) (left : List DrawerState) (outside : OutsideState) : Type 0 where
    pub disks : List (ImageDisk F g)
    pub files : List FileId
    pub random : RandomFile F
    pub opened : O
    pub opens : OpensAll o f words disks files random opener opened
    pub telling : All (TellsImage f.told) disks
    pub device : IsRandom (o.told opener) (left_in f.left random.device)
    pub runs : RunsOver words (image_names words) (map image_disk_state disks)
        (outside_of (new_cabinet files (o.told opener)) (new_entropy (left_in f.left random.device)) source sink) status left outside
    pub survives : SurviveInFiles f.told (image_names words) disks runs
