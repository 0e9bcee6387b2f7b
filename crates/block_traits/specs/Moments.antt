-- What sectors may hold at each moment of a change.
use Rattle.std.specs.Prelude.{◌≡◌, ◌⊎◌, ℕ, ◌≤◌, List, [], ◌∷◌, length, drop, Option, Some, None, All, Contains}
use Rattle.block_traits.specs.declared.disk.Event.TheVariants.{Flush}
use Rattle.block_traits.specs.Content.{Content, at_moment, kept_values}
use Rattle.block_traits.specs.Crash.{IsImage, IsTorn}

-- at each moment since the first content this holds of that content and of the one at the moment, if contents are
-- reported
abbrev pub AtEachMoment : (Content → Content → Type 0) → Option Content → Option Content → Type 0
AtEachMoment Holds None after = Unit {0}
AtEachMoment Holds (Some before) None = ⊥
AtEachMoment Holds (Some before) (Some after) = (moment : ℕ) → length before.history ≤ moment → Holds before (at_moment moment after)

-- a flush landed since the first of the contents
abbrev pub IsFlushedSince : Content → Content → Type 0
IsFlushedSince before now = Contains (drop (length before.history) now.history) Flush

-- the value is one of the old ones, or a new one, of which P holds
abbrev pub IsOldOr : (List ℕ → Type 0) → List (List ℕ) → List ℕ → Type 0
IsOldOr P old value = Contains old value ⊎ P value

-- each value that sector n may hold now if power fails is one that it might hold before, or one of which P holds
abbrev pub HoldsOldOr : (List ℕ → Type 0) → ℕ → Content → Content → Type 0
HoldsOldOr P n before now = All (IsOldOr P (kept_values before n)) (kept_values now n)

-- at each moment since the first content, each value that sector n may hold if power fails is one that it might hold
-- before, or one of which P holds
abbrev pub KeepsOldOr : (List ℕ → Type 0) → ℕ → Option Content → Option Content → Type 0
KeepsOldOr P n before after = AtEachMoment (HoldsOldOr P n) before after

-- once a flush landed, P holds of each value that sector n may hold if power fails
abbrev pub HoldsOnceFlushed : (List ℕ → Type 0) → ℕ → Content → Content → Type 0
HoldsOnceFlushed P n before now = IsFlushedSince before now → All P (kept_values now n)

-- sector n holds these bytes, even if power fails now
abbrev pub KeepsAlone : List ℕ → ℕ → Option Content → Type 0
KeepsAlone bytes n None = Unit {0}
KeepsAlone bytes n (Some c) = kept_values c n ≡ bytes ∷ []

-- until a flush landed, each value that a sector may hold if power fails is one that it might hold before
abbrev pub WaitsForFlush : Content → Content → Type 0
WaitsForFlush before now = ¬ IsFlushedSince before now → (n : ℕ) → All (Contains (kept_values before n)) (kept_values now n)

-- an image of a crash with no sector altered: each sector holds a kept value, or it is a data sector that was torn
abbrev pub IsUnaltered : Content → List (List ℕ) → Type 0
IsUnaltered c image = ((choice : ℕ → ℕ) × IsImage c choice image) ⊎ IsTorn c image
