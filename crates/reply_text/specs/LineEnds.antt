-- How a line ends, by its answer, and how that is printed.
use Rattle.std.specs.Prelude.{◌≡◌, Option, Some, None, Bool, true, false, Result, Ok, Err}
use Rattle.block_traits.specs.Streams.{SinkState, TookAll, TookPart}
use Rattle.text_page.specs.declared.print.WriteEnd.{WriteEnd}
use Rattle.reply_text.specs.Answer as answers
use Rattle.reply_text.specs.Answer.{Answer, answer_text}
use Rattle.reply_text.specs.declared.line_ends.LineEnd.{LineEnd}
use Rattle.reply_text.specs.declared.line_ends.LineEnd.TheVariants.{Silent, Accepted, Refused}

-- how a line ends
abbrev pub end_of : Option Answer → LineEnd
end_of None = Silent
end_of (Some (answers.Refused refusal)) = Refused
end_of (Some answer) = Accepted

-- whether a refusal was printed
abbrev pub is_refusal : LineEnd → Bool
is_refusal Silent = false
is_refusal Accepted = false
is_refusal Refused = true

-- if there is no reply, the line is silent and the sink is as it was; else the reply was printed, or the sink failed,
-- after a part of it
abbrev pub PrintsAnswer : Option Answer → SinkState → Result LineEnd WriteEnd → SinkState → Type 0
PrintsAnswer None old result new = (result ≡ Ok Silent) × (new ≡ old)
PrintsAnswer (Some answer) old (Ok end) new = (end ≡ end_of (Some answer)) × TookAll (answer_text answer) old new
PrintsAnswer (Some answer) old (Err failed) new = TookPart (answer_text answer) old new
