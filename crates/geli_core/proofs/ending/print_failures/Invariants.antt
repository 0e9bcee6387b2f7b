use Rattle.command_rows.specs.Vocabulary.{TookAll}
use Rattle.geli_core.specs.Run.{answers_text, closing_answers}
use Rattle.geli_core.proofs.ending.print_failures.Given as goal

-- so many refusals were printed
abbrev pub invariant-loop-printed : goal.invariant-loop-printed
invariant-loop-printed g l =
    let state = g.K.Sink.state in
    TookAll (answers_text (closing_answers l.printed)) (state l.initial.output) (state l.output)
