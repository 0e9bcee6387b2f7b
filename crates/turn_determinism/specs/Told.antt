-- Objects that report what they hold.
use Rattle.std.specs.Prelude.{ℕ, List, IfSome, IsSome}
use Rattle.command_rows.specs.Rows.{DrawerState, World}
use Rattle.command_rows.specs.Vocabulary.{Command, bytes_at, provider_of}
use Rattle.turn_determinism.specs.Places.{IsNamedAt}

-- the disk of the drawer with this name reports its content, if there is such a drawer
abbrev pub TellsAt : List ℕ → World → Type 0
TellsAt name world =
    (place : ℕ) (drawer : DrawerState) → IsNamedAt name world place drawer → IsSome drawer.disk.content

-- what a line reaches is reported: the content of the disk of the drawer that it names, the files, and the random bytes
-- that are left
pub record IsTold (line : List ℕ) (command : Command) (world : World) : Type 0 where
  pub disk : IfSome (provider_of command) (λ prov. TellsAt (bytes_at line prov) world)
  pub files : IsSome world.cabinet.files
  pub random : IsSome world.entropy.left
