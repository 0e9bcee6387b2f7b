use Rattle.std.proofs.Common.{◌≡◌, ◌+◌, length, ap, ◌∙◌, sym, None, Result, Ok, Err}
use Rattle.std.specs.Result.{IsErrAnd}
use Rattle.command_words.specs.declared.commands.Command.{Command}
use Rattle.command_words.specs.declared.commands.Usage.{Usage}
use Rattle.command_words.specs.Cursor.{left}
use Rattle.command_words.specs.Reading.{complaint}
use Rattle.command_words.proofs.OperandsLemmas.{settled_taken}
use Rattle.command_words.proofs.lines.settle.Goals as goal

-- an error that was passed on
handed_on : (result : Result Command Usage) (usage : Usage) (other : Result Command Usage) → IsErrAnd result (λ e. e ≡ usage) → other ≡ Err usage → result ≡ other
handed_on (Ok command) usage other h e = absurd h
handed_on (Err own) usage other h e = ap Err h ∙ sym e

pub returns-in_err-operands : goal.returns-in_err-operands
returns-in_err-operands c =
    let none : complaint c.args.verb c.args.settings ≡ None = cc in
    let settled = rw c.in_err-operands.ensures at (settled_taken c.args.verb (c.args.words.number + length (left c.args.words)) c.in-Some.form.now (left c.args.words) c.args.settings c.in-Some.ensures none) in
    handed_on _ c.in_err-operands.field-0.0 _ c.from_residual.ensures.1 settled

pub returns : goal.returns
returns c =
    let none : complaint c.args.verb c.args.settings ≡ None = cc in
    let settled = rw c.in_ok-operands.ensures at (settled_taken c.args.verb (c.args.words.number + length (left c.args.words)) c.in-Some.form.now (left c.args.words) c.args.settings c.in-Some.ensures none) in
    rw c.command.ensures (sym settled)
