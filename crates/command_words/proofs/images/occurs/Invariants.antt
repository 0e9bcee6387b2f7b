use Rattle.std.proofs.Common.{◌≡◌, map, drop}
use Rattle.std.specs.List.{list_any}
use Rattle.std.specs.Prelude.{string_bytes}
use Rattle.std.specs.Str.{bytes_eq}
use Rattle.command_words.proofs.images.occurs.Given as goal

-- The names that are left decide.
abbrev pub invariant-loop-other : goal.invariant-loop-other
invariant-loop-other l =
    list_any (bytes_eq (string_bytes l.name)) (map string_bytes (drop l.other-index l.names)) ≡ list_any (bytes_eq (string_bytes l.name)) (map string_bytes l.names)
