-- Worlds that are the same, in all but what no line says.
use Rattle.std.specs.Prelude.{◌≡◌, ℕ, ◌-◌, ◌^◌, min, List, [], ◌∷◌}
use Rattle.command_rows.specs.Rows.{Answer, DrawerState, World}
use Rattle.command_rows.specs.Vocabulary.{CabinetState, DiskState, EntropyState, Refusal}
use Rattle.eli_base.specs.declared.refusals.Refusal.TheVariants as refusals
use Rattle.reply_text.specs.Answer as answers

-- both counts are the same, or neither is below the last value
abbrev pub IsSameCount : ℕ → ℕ → Type 0
IsSameCount count count' = min count (2 ^ 64 - 1) ≡ min count' (2 ^ 64 - 1)

-- two disks have the same size, content, readiness to show it, and counts
pub record IsSameDisk (disk disk' : DiskState) : Type 0 where
  pub size : disk'.size ≡ disk.size
  pub shows : disk'.shows ≡ disk.shows
  pub content : disk'.content ≡ disk.content
  pub faults : disk'.faults ≡ disk.faults
  pub reads : IsSameCount disk.reads disk'.reads

-- two drawers have the same name and disk, and do the same with it
pub record IsSameDrawer (drawer drawer' : DrawerState) : Type 0 where
  pub name : drawer'.name ≡ drawer.name
  pub disk : IsSameDisk drawer.disk drawer'.disk
  pub holding : drawer'.holding ≡ drawer.holding

-- two cabinets have the same files and faults, and as many stores; `LoadsAsMany` says how often files were loaded, and
-- nothing says how often one was absent or too long
pub record IsSameCabinet (cabinet cabinet' : CabinetState) : Type 0 where
  pub files : cabinet'.files ≡ cabinet.files
  pub faults : cabinet'.faults ≡ cabinet.faults
  pub stores : IsSameCount cabinet.stores cabinet'.stores

-- two entropies have the same random bytes left, and the same counts
pub record IsSameEntropy (entropy entropy' : EntropyState) : Type 0 where
  pub left : entropy'.left ≡ entropy.left
  pub faults : entropy'.faults ≡ entropy.faults
  pub calls : IsSameCount entropy.calls entropy'.calls

-- two shelves have as many drawers, each the same in its place
abbrev pub AreSameDrawers : List DrawerState → List DrawerState → Type 0
AreSameDrawers [] [] = Unit {0}
AreSameDrawers [] (drawer' ∷ drawers') = ⊥
AreSameDrawers (drawer ∷ drawers) [] = ⊥
AreSameDrawers (drawer ∷ drawers) (drawer' ∷ drawers') = IsSameDrawer drawer drawer' × AreSameDrawers drawers drawers'

-- two worlds have the same drawers, cabinet and entropy
pub record IsSameWorld (world world' : World) : Type 0 where
  pub drawers : AreSameDrawers world.drawers world'.drawers
  pub cabinet : IsSameCabinet world.cabinet world'.cabinet
  pub entropy : IsSameEntropy world.entropy world'.entropy

-- as many files were loaded, unless one is refused, being absent or too long
abbrev pub LoadsUnlessMissed : Refusal → CabinetState → CabinetState → Type 0
LoadsUnlessMissed (refusals.FileAbsent word) cabinet cabinet' = Unit {0}
LoadsUnlessMissed (refusals.FileTooLong word limit) cabinet cabinet' = Unit {0}
LoadsUnlessMissed refusal cabinet cabinet' = IsSameCount cabinet.loads cabinet'.loads

abbrev pub LoadsAsMany : Answer → CabinetState → CabinetState → Type 0
LoadsAsMany (answers.Refused refusal) cabinet cabinet' = LoadsUnlessMissed refusal cabinet cabinet'
LoadsAsMany answer cabinet cabinet' = IsSameCount cabinet.loads cabinet'.loads

-- two turns have the same reply and leave the same world; and as many files were loaded, if so many were before
pub record IsSameTurn (old : World) (answer : Answer) (new : World)
    (old' : World) (answer' : Answer) (new' : World) : Type 0 where
  pub answered : answer' ≡ answer
  pub worlds : IsSameWorld new new'
  pub loads : IsSameCount old.cabinet.loads old'.cabinet.loads → LoadsAsMany answer new.cabinet new'.cabinet
