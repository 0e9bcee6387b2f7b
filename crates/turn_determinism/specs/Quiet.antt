-- Lines in which nothing outside fails, and no memory is lacking.
use Rattle.std.specs.Prelude.{◌≡◌, ◌≢◌, ℕ, List, IfSome}
use Rattle.command_rows.specs.Rows.{Answer, DrawerState, World}
use Rattle.command_rows.specs.Vocabulary.{Command, Rose, bytes_at, provider_of}
use Rattle.eli_base.specs.declared.refusals.Refusal.TheVariants as refusals
use Rattle.reply_text.specs.Answer as answers
use Rattle.turn_determinism.specs.Places.{IsNamedAt, StandsAt}

-- the count of faults of the disk of the drawer with this name didn't rise, if the drawer is still in its place
abbrev pub StaysQuietAt : List ℕ → World → World → Type 0
StaysQuietAt name old new =
    (place : ℕ) (before after : DrawerState) → IsNamedAt name old place before → StandsAt new place after
    → after.name ≡ before.name → ¬ Rose before.disk.faults after.disk.faults

-- no count of faults of what a line reaches rose: of the disk of the drawer that it names, of the cabinet and of the
-- entropy
pub record IsQuiet (line : List ℕ) (command : Command) (old new : World) : Type 0 where
  pub disk : IfSome (provider_of command) (λ prov. StaysQuietAt (bytes_at line prov) old new)
  pub cabinet : ¬ Rose old.cabinet.faults new.cabinet.faults
  pub entropy : ¬ Rose old.entropy.faults new.entropy.faults

-- the reply isn't want of memory
abbrev pub HasMemory : Answer → Type 0
HasMemory answer = answer ≢ answers.Refused refusals.NoMemory
