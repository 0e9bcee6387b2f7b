use Rattle.std.proofs.Common.{◌≡◌, take, sym, ◌∙◌, rules, string_bytes, Global}
use Rattle.std.proofs.lemmas.List.{take_all}
use Rattle.command_words.proofs.Joining.{joined_first}
use Rattle.command_words.proofs.images.joined.Goals as goal

-- All other words were taken, so the line is that of the first and the others.
pub returns : goal.returns
returns c =
    let law = joined_first (string_bytes {Z = Global}) c.in-Some.first.now c.in-Some.others.now in
    let all : take c.loop-word.word-index c.in-Some.others.now ≡ c.in-Some.others.now = take_all _ _ c.loop-word-test.false in
    let line = rw all at c.loop-word.invariant in
    let first : c.extend_from_slice.new.self.items ≡ string_bytes c.in-Some.first.now = search rules in
    rw (c.in-Some.ensures.cases.0) (line ∙ rw first (sym law))
