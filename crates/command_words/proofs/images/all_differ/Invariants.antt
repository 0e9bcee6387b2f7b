use Rattle.std.proofs.Common.{◌≡◌, length, map}
use Rattle.std.specs.Prelude.{string_bytes}
use Rattle.command_words.specs.Images.{all_differ}
use Rattle.command_words.proofs.images.all_differ.Given as goal

-- The names that are left decide.
abbrev pub invariant-names : goal.invariant-names
invariant-names l = all_differ (map string_bytes l.names) ≡ all_differ (map string_bytes l.fn.names)

abbrev pub decreases-names : goal.decreases-names
decreases-names l = length l.names
