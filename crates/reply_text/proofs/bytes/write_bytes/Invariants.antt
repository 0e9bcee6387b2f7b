use Rattle.std.proofs.Common.{◌≤◌, ◌-◌, length, take}
use Rattle.text_page.specs.Output.{PutsAll}
use Rattle.hex.specs.Hex.{encode_lower}
use Rattle.reply_text.proofs.bytes.write_bytes.Given as goal

-- the digits of the bytes so far were printed
abbrev pub invariant-pieces : goal.invariant-pieces
invariant-pieces g l =
    let state = g.K.Sink.state in
    record { inside : l.given ≤ length l.bytes; took : PutsAll (encode_lower (take l.given l.bytes)) l.initial.page.items (state l.initial.output) l.page.items (state l.output) }

abbrev pub decreases-pieces : goal.decreases-pieces
decreases-pieces g l = length l.bytes - l.given
