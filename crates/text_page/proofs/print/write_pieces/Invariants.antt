use Rattle.std.proofs.Common.{map, take}
use Rattle.std.specs.List.{concat}
use Rattle.text_page.specs.Output.{PutsAll}
use Rattle.text_page.proofs.print.write_pieces.Given as goal

-- the pieces so far were printed
abbrev pub invariant-loop-piece : goal.invariant-loop-piece
invariant-loop-piece g l =
    let state = g.K.Sink.state in
    PutsAll (concat (map (λ piece. piece.now) (take l.piece-index l.pieces))) l.initial.page.items (state l.initial.output) l.page.items (state l.output)
