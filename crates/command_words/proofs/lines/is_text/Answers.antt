use Rattle.std.proofs.Common.{false, sym}
use Rattle.std.specs.Str.{is_utf8}
use Rattle.std.proofs.lemmas.Bool.Decides.{same_from_decides}
use Rattle.std.proofs.lemmas.Str.{IsUtf8-from_is_utf8, is_utf8-from_IsUtf8}
use Rattle.command_words.proofs.lines.is_text.Goals as goal

pub returns-in-Ok : goal.returns-in-Ok
returns-in-Ok c = sym (is_utf8-from_IsUtf8 c.args.line.now c.in-Ok.ensures.cases.1)

pub returns-in-Err : goal.returns-in-Err
returns-in-Err c =
    same_from_decides false (is_utf8 c.args.line.now) (λ wrong. absurd (let no : ⊥ = cc in no), λ text. absurd (c.in-Err.ensures.cases.0 text))
    (IsUtf8-from_is_utf8 c.args.line.now, is_utf8-from_IsUtf8 c.args.line.now)
