use Rattle.std.proofs.lemmas.List.{append-nil}
use Rattle.reply_text.specs.Text.{field}
use Rattle.reply_text.proofs.reply.write_field.Goals as goal

pub returns : goal.returns
unfolding field
returns g c = rw append-nil at c.write_pieces.ensures
