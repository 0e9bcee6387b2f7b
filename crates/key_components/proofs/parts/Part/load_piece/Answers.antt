use Rattle.key_components.proofs.Lines.{PassphraseIs}
use Rattle.command_words.specs.Places.{bytes_at}
use Rattle.key_components.proofs.parts.Part.load_piece.Goals as goal

pub returns-in_ok-file-in-Passphrase-clause-answer : goal.returns-in_ok-file-in-Passphrase-clause-answer
returns-in_ok-file-in-Passphrase-clause-answer g c =
    rw c.in-Passphrase.is (PassphraseIs c.args.span.word c.args.used (g.C.Cabinet.state c.args.files.now).files (bytes_at c.args.line.now c.args.span) _ _ c.in_ok-file-in-Passphrase.ensures.answer (rw c.as_slice.ensures at c.take_line.ensures.answer))
