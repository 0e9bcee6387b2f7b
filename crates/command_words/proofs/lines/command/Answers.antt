use Rattle.std.proofs.Common.{refl}
use Rattle.command_words.proofs.lines.command.Goals as goal

-- For the other verbs `search` computes the row by itself.
pub returns-in-Detach : goal.returns-in-Detach
returns-in-Detach c = rw c.in-Detach.is refl
