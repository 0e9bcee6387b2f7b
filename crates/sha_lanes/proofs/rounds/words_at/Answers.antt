use Rattle.std.proofs.Common.{ap, sym, ◌∙◌, ◌+◌, arith, List, ℕ}
use Rattle.sha2.specs.Sha256.{word_at}
use Rattle.sha_stream.proofs.LaneLaws.{below_four}
use Rattle.sha_lanes.proofs.LaneLaws.{bytes_of_is}
use Rattle.sha_lanes.proofs.rounds.words_at.Goals as goal

pub load-requires : goal.load-requires
load-requires c = rw (← bytes_of_is c.args.texts 0) (c.requires 0 (omega arith))

pub load-requires-2 : goal.load-requires-2
load-requires-2 c = rw (← bytes_of_is c.args.texts 1) (c.requires 1 (omega arith))

pub load-requires-3 : goal.load-requires-3
load-requires-3 c = rw (← bytes_of_is c.args.texts 2) (c.requires 2 (omega arith))

pub load-requires-4 : goal.load-requires-4
load-requires-4 c = rw (← bytes_of_is c.args.texts 3) (c.requires 3 (omega arith))

pub returns : goal.returns
returns c =
    let at = λ (b : List ℕ). word_at b (c.args.at + c.args.i) in
    below_four _ (c.load.ensures ∙ ap at (sym (bytes_of_is c.args.texts 0)))
    (c.load-2.ensures ∙ ap at (sym (bytes_of_is c.args.texts 1)))
    (c.load-3.ensures ∙ ap at (sym (bytes_of_is c.args.texts 2)))
    (c.load-4.ensures ∙ ap at (sym (bytes_of_is c.args.texts 3)))
