use Rattle.std.proofs.Common.{◌≡◌, IfSome}
use Rattle.range_keys.specs.Kept.{expanded_key}
use Rattle.range_keys.proofs.KeptLemmas.{IsRekeyed}
use Rattle.range_keys.proofs.kept.KeptKeys.rekey.Given as goal

-- so many of the kept keys were made anew
abbrev pub invariant-loop-place : goal.invariant-loop-place
invariant-loop-place l =
    IsRekeyed l.cipher l.keylen l.base l.fn.self.cache l.self.cache l._place
    × IfSome l.self.unkept (λ key. key ≡ expanded_key l.cipher l.keylen l.base 0)
