use Rattle.command_words.proofs.Bounds.{reading_bounded}
use Rattle.command_words.proofs.Places.{reading_within}
use Rattle.command_words.proofs.Text.{reading_text}
use Rattle.command_words.proofs.lines.read_line.Goals as goal

pub returns-clause-places : goal.returns-clause-places
returns-clause-places c = rw c.read.ensures (reading_within c.args.sep c.args.line.now)

pub returns-clause-text : goal.returns-clause-text
returns-clause-text c = rw c.read.ensures (reading_text c.args.sep c.args.line.now)

pub returns-clause-bounds : goal.returns-clause-bounds
returns-clause-bounds c = rw c.read.ensures (reading_bounded c.args.sep c.args.line.now)
