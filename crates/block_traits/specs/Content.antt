-- What the sectors of a disk hold: what they held at first, and what was written since.
use Rattle.std.specs.Prelude.{◌≡◌, ℕ, ◌<◌, ◌==◌, List, [], ◌∷◌, ◌++◌, length, take, if◌then◌else◌, Option, get_or, All}
use Rattle.std.specs.Option.{option_map}
use Rattle.block_traits.specs.declared.disk.Event.{Event}
use Rattle.block_traits.specs.declared.disk.Event.TheVariants.{Write, Flush}

-- the bytes of each sector at first, and the events since, the oldest first
pub record Content : Type 0 where
  pub base : List (List ℕ)
  pub history : List Event

-- what stands in sector n after these events, if these bytes stood there before
abbrev pub present_after : List Event → ℕ → List ℕ → List ℕ
present_after [] n bytes = bytes
present_after (Write m new ∷ events) n bytes = present_after events n (if m == n then new else bytes)
present_after (Flush ∷ events) n bytes = present_after events n bytes

-- what stands in sector n now: the last write to it, or else its base
abbrev pub present : Content → ℕ → List ℕ
present c n = present_after c.history n (get_or c.base n [])

-- the last of some values
abbrev pub last_of : List (List ℕ) → List ℕ
last_of [] = []
last_of (value ∷ []) = value
last_of (value ∷ next ∷ values) = last_of (next ∷ values)

-- the values that sector n may hold if power fails after these events, given those that it might hold before: a write
-- adds one, and a flush keeps the last alone
abbrev pub kept_after : List Event → ℕ → List (List ℕ) → List (List ℕ)
kept_after [] n values = values
kept_after (Write m new ∷ events) n values = kept_after events n (if m == n then values ++ new ∷ [] else values)
kept_after (Flush ∷ events) n values = kept_after events n (last_of values ∷ [])

-- the values that sector n may hold if power fails now
abbrev pub kept_values : Content → ℕ → List (List ℕ)
kept_values c n = kept_after c.history n (get_or c.base n [] ∷ [])

-- the content as it was after the first events
abbrev pub at_moment : ℕ → Content → Content
at_moment moment c = record { base = c.base; history = take moment c.history }

-- the content with more events
abbrev pub with_events : List Event → Content → Content
with_events events c = record { base = c.base; history = c.history ++ events }

-- a content with more events, if it is reported
abbrev pub logged : List Event → Option Content → Option Content
logged events told = option_map (with_events events) told

-- 512 bytes
abbrev pub IsSector : List ℕ → Type 0
IsSector bytes = length bytes ≡ 512

-- a flush, or a write of 512 bytes below the size
abbrev pub IsEventOf : ℕ → Event → Type 0
IsEventOf size (Write n bytes) = (n < size) × IsSector bytes
IsEventOf size Flush = Unit {0}

-- 512 bytes for each sector number below the size, and events that fit
pub record IsContentOf (size : ℕ) (c : Content) : Type 0 where
  pub sectors : length c.base ≡ size
  pub base : All IsSector c.base
  pub events : All (IsEventOf size) c.history
