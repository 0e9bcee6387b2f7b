use Rattle.std.proofs.Common.{◌≡◌, ◌≤◌, ◌+◌, length}
use Rattle.command_words.specs.Pass.{taken_letters}
use Rattle.command_words.proofs.pass.take_letters.Given as goal

-- What the letters that are left come to is what all of them do, and they lie within the line.
abbrev pub invariant-letters : goal.invariant-letters
invariant-letters l =
    (taken_letters l.verb l.number l.start l.bytes l.settings
    ≡ taken_letters l.fn.verb l.fn.group.number l.fn.group.start l.fn.group.bytes.now l.fn.settings)
    × (l.start + length l.bytes ≤ 300001)

abbrev pub decreases-letters : goal.decreases-letters
decreases-letters l = length l.bytes
