use Rattle.std.proofs.Common.{◌≡◌, ◌∙◌, ◌+◌, ◌++◌, length, refl, rules, arith, length-append, ap}
use Rattle.std.proofs.lemmas.Result.{err_from_is_err_and}
use Rattle.key_components.specs.Parts.{taking_of}
use Rattle.block_traits.proofs.Causes.{Counted-then}
use Rattle.key_components.proofs.Causes.{KeepsFiles-then, MayRefuseOf-earlier}
use Rattle.key_components.proofs.Taken.{PartIs-stopped, IsAt-stopped, TakenSo-next}
use Rattle.key_components.proofs.parts.load_part.Goals as goal

pub returns-in_err-piece-clause-answer : goal.returns-in_err-piece-clause-answer
returns-in_err-piece-clause-answer g c =
    let p = err_from_is_err_and c.from_residual.result c.from_residual.ensures.1 in
    let used : length c.as_slice-used.result.now ≡ length c.loop-span.joined = ap length c.as_slice-used.ensures in
    rw (p.1, p.2)
    (PartIs-stopped (taking_of c.args.part) (g.C.Cabinet.state c.args.files.now).files (g.C.Cabinet.state c.loop-span.files).files c.args.line.now c.args.spans.now c.loop-span.span-index (record { start = 0; end = 0; word = 0 })
    c.loop-span.joined (length c.as_slice-used.result.now) c.in_err-piece.field-0.0 c.loop-span-test.true c.loop-span.invariant.0 c.loop-span.invariant.2.files used c.in_err-piece.ensures.answer)

pub returns-in_err-piece-clause-at : goal.returns-in_err-piece-clause-at
returns-in_err-piece-clause-at g c =
    let p = err_from_is_err_and c.from_residual.result c.from_residual.ensures.1 in
    rw (p.1, p.2)
    (IsAt-stopped (taking_of c.args.part) (g.C.Cabinet.state c.args.files.now).files c.args.line.now c.args.spans.now c.loop-span.span-index (record { start = 0; end = 0; word = 0 })
    c.loop-span.joined c.in_err-piece.field-0.0 c.loop-span-test.true c.loop-span.invariant.0 c.in_err-piece.ensures.word)

pub returns-in_err-piece-clause-cause : goal.returns-in_err-piece-clause-cause
returns-in_err-piece-clause-cause g c =
    let p = err_from_is_err_and c.from_residual.result c.from_residual.ensures.1 in
    let cabinet = g.C.Cabinet.state in
    rw (p.1, p.2)
    (MayRefuseOf-earlier c.args.part (cabinet c.args.files.now) (cabinet c.loop-span.files) _ c.in_err-piece.field-0.0 c.loop-span.invariant.2 c.in_err-piece.ensures.cause)

pub returns-in_err-piece-clause-asked : goal.returns-in_err-piece-clause-asked
returns-in_err-piece-clause-asked g c =
    let p = err_from_is_err_and c.from_residual.result c.from_residual.ensures.1 in
    rw (p.1, p.2) (record {
      place = c.loop-span.span-index;
      within = c.loop-span-test.true;
      named = c.in_err-piece.ensures.word;
      asked = Counted-then c.loop-span.span-index 1 (c.loop-span.span-index + 1) refl c.loop-span.invariant.3 c.load_piece.ensures.asked;
    })

pub loop-span-preserved : goal.loop-span-preserved
loop-span-preserved g c =
    let used : length c.as_slice-used.result.now ≡ length c.loop-span.joined = ap length c.as_slice-used.ensures in
    let items : c.in-Ok.both ≡ c.loop-span.joined ++ c.in_ok-piece.piece = search rules in
    let sum : length c.in-Ok.both ≡ length c.as_slice-used.result.now + length c.in_ok-piece.piece = omega (arith, ap length items, length-append c.loop-span.joined c.in_ok-piece.piece) in (
      rw items
          (TakenSo-next (taking_of c.args.part) (g.C.Cabinet.state c.args.files.now).files (g.C.Cabinet.state c.loop-span.files).files c.args.line.now c.args.spans.now c.loop-span.span-index (record { start = 0; end = 0; word = 0 })
          c.loop-span.joined (length c.as_slice-used.result.now) c.in_ok-piece.piece c.loop-span-test.true c.loop-span.invariant.0 c.loop-span.invariant.2.files used c.in_ok-piece.ensures.answer),
      omega (arith, sum, c.in_ok-piece.ensures.within),
      KeepsFiles-then c.loop-span.invariant.2 c.in_ok-piece.ensures.keeps,
      Counted-then c.loop-span.span-index 1 (c.loop-span.span-index + 1) refl c.loop-span.invariant.3 c.load_piece.ensures.asked,
      c.load_piece.ensures.unstored ∙ c.loop-span.invariant.4,
    )
