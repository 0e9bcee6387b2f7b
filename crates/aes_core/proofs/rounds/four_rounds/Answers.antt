use Rattle.std.proofs.Common.{◌≡◌, ℕ, ◌+◌, ap, ◌∙◌, arith}
use Rattle.aes_core.specs.Aes.{after_rounds}
use Rattle.aes_core.specs.Columns.{words_of}
use Rattle.aes_core.proofs.rounds.four_rounds.Goals as goal

pub returns : goal.returns
returns c b block held =
    let sum : c.args.r + 2 + 2 ≡ c.args.r + 4 = omega arith in
    c.two_rounds-2.ensures b block (c.two_rounds.ensures b block held) ∙ ap (λ (n : ℕ). words_of (after_rounds c.args.keys.now b n)) sum
