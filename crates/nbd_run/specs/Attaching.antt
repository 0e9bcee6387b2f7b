-- What the row of `attach` leaves of an idle drawer.
use Rattle.std.specs.Prelude.{List, ℕ}
use Rattle.block_traits.specs.Cabinet.{CabinetState}
use Rattle.block_traits.specs.Disk.{DiskState}
use Rattle.block_traits.specs.Streams.{EntropyState}
use Rattle.command_rows.specs.Vocabulary.{Request}
use Rattle.reply_text.specs.Answer as answers
use Rattle.command_rows.specs.Turn.{Serves}
use Rattle.command_rows.specs.World.{Reach}
use Rattle.command_words.specs.declared.commands.Command.{Command}
use Rattle.provider.specs.Attached.{Attached}
use Rattle.reply_text.specs.declared.reply.Reply.{Reply}
use Rattle.reply_text.specs.declared.reply.Reply.TheVariants as replies
use Rattle.shelf.specs.Shelved.{reach_on}

-- a reply that is a refusal
abbrev pub IsRefusalOf : Reply → Type 0
IsRefusalOf (replies.Refused refusal) = Unit {0}
IsRefusalOf reply = ⊥

-- the row was gone through, and this provider is attached
pub record AttachesProvider {D : Type 0} (state : D → DiskState) (line : List ℕ) (command : Command) (old : Reach) (provider : Attached D) (cabinet : CabinetState) (entropy : EntropyState) : Type 0 where
  pub queue : List Request
  pub row : Serves line command old answers.Done (reach_on state queue provider cabinet entropy)
