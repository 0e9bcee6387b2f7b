-- Which calls of an object fail, and how many bytes a call moves.
use Rattle.std.specs.Prelude.{ℕ, ◌==◌, min, max, Bool, List, Option, Some, None, slice_get}
use Rattle.std.specs.List.{list_any}
use Rattle.crash_disk.specs.Count.{one_more}

-- how many calls were made, and the numbers of those that fail
pub record CallsState : Type 0 where
  pub made : ℕ
  pub fails : List ℕ

-- no call was made, and these fail
abbrev pub failing : List ℕ → CallsState
failing numbers = record { made = 0; fails = numbers }

-- these fail from now on
abbrev pub with_fails : List ℕ → CallsState → CallsState
with_fails numbers calls = record calls { fails = numbers }

-- one more call was made
abbrev pub called : CallsState → CallsState
called calls = record calls { made = one_more calls.made }

-- the next call fails
abbrev pub next_fails : CallsState → Bool
next_fails calls = list_any (λ number. number == one_more calls.made) calls.fails

-- as many as are wanted, but no more than the cut, if there is one; a cut of 0 counts as 1
abbrev pub cut_to : Option ℕ → ℕ → ℕ
cut_to None wanted = wanted
cut_to (Some cut) wanted = min wanted (max cut 1)

-- how many bytes the next call moves at most, of so many that are wanted
abbrev pub piece : List ℕ → CallsState → ℕ → ℕ
piece cuts calls wanted = cut_to (slice_get cuts calls.made) wanted
