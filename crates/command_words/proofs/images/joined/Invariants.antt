use Rattle.std.proofs.Common.{◌≡◌, ◌∷◌, ◌++◌, take}
use Rattle.std.specs.List.{flat_map}
use Rattle.std.specs.Prelude.{string_bytes}
use Rattle.command_words.proofs.images.joined.Given as goal

-- The first word, and each other one after a zero byte.
abbrev pub invariant-loop-word : goal.invariant-loop-word
invariant-loop-word l = l.line.items ≡ l.initial.line.items ++ flat_map (λ word. 0 ∷ string_bytes word) (take l.word-index l.others)
