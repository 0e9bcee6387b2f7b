use Rattle.std.proofs.Common.{◌≡◌, map, take, string_bytes}
use Rattle.command_words.proofs.images.copied_names.Given as goal

-- the names so far were copied
abbrev pub invariant-loop-name : goal.invariant-loop-name
invariant-loop-name l = map string_bytes l.images.items ≡ map string_bytes (take l.name-index l.names)
