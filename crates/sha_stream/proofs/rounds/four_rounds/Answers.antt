use Rattle.std.proofs.Common.{ap, ◌∙◌, arith}
use Rattle.sha2.specs.Sha256.{rounds}
use Rattle.sha_stream.proofs.ScheduleLaws.{next_round}
use Rattle.sha_stream.proofs.rounds.four_rounds.Goals as goal

pub returns : goal.returns
returns c = λ h ws held are.
    let t = c.args.t in
    let sum = c.sums_at-sums.ensures in
    let s1 = next_round h ws _ _ c.args.words t _ 0 (omega arith) held (omega arith) are (c.round-v.ensures _ _ (c.word.ensures ∙ sum 0 (omega arith))) in
    let s2 = next_round h ws _ _ c.args.words t _ 1 (omega arith) s1 (omega arith) are (c.round-v-2.ensures _ _ (c.word-2.ensures ∙ sum 1 (omega arith))) in
    let s3 = next_round h ws _ _ c.args.words t _ 2 (omega arith) s2 (omega arith) are (c.round-v-3.ensures _ _ (c.word-3.ensures ∙ sum 2 (omega arith))) in
    let s4 = next_round h ws _ _ c.args.words t _ 3 (omega arith) s3 (omega arith) are (c.round.ensures _ _ (c.word-4.ensures ∙ sum 3 (omega arith))) in
    s4 ∙ ap (rounds h ws) (omega arith)
