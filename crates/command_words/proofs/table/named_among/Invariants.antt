use Rattle.std.proofs.Common.{◌≡◌, drop, map}
use Rattle.command_words.specs.Table.{name_seen, named_among}
use Rattle.command_words.proofs.table.named_among.Given as goal

-- The verbs that are left decide.
abbrev pub invariant-loop-row : goal.invariant-loop-row
invariant-loop-row l = named_among l.name (map name_seen (drop l.row-index l.rows)) ≡ named_among l.name (map name_seen l.rows)
