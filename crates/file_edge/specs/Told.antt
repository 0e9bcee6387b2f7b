-- What a file reports of its sectors, and what its calls leave of that.
use Rattle.std.specs.Prelude.{◌≡◌, ℕ, ◌+◌, ◌/◌, ◌<◌, ◌≤◌, ◌==◌, List, length, take, Bool, true, if◌then◌else◌, Option, Some, None}
use Rattle.block_traits.specs.Content.{Content, IsContentOf, logged, present}
use Rattle.block_traits.specs.Parts.{part}
use Rattle.block_traits.specs.declared.disk.Event.{Event}

-- what the whole 512-byte pieces of a file held at first, and all that was done to them since
pub record Told : Type 0 where
  pub content : Content
  pub fits : IsContentOf (length content.base) content

-- what a file reports of its sectors, as plain content
abbrev pub contents : Option Told → Option Content
contents None = None
contents (Some t) = Some t.content

-- what an open file reports
abbrev pub told_in : {F : Type 0} → (F → Option Told) → Option F → Option Told
told_in told None = None
told_in told (Some file) = told file

-- a content that is reported, if it has so many sectors
abbrev pub of_size : ℕ → Option Content → Option Content
of_size size None = None
of_size size (Some c) = if length c.base == size then Some c else None

-- the end that is found of a file is that of the sectors that it reports
abbrev pub EndsTold : Option Told → ℕ → Type 0
EndsTold None end = Unit {0}
EndsTold (Some t) end = length t.content.base ≡ end / 512

-- each 512 of the bytes are what stands in a sector, if that is one of those reported; the first sector is the one at a
-- byte offset
abbrev pub ReadsTold : Option Told → ℕ → List ℕ → Type 0
ReadsTold None at bytes = Unit {0}
ReadsTold (Some t) at bytes =
    (j : ℕ) → j < length bytes / 512 → at / 512 + j < length t.content.base → part 512 j bytes ≡ present t.content (at / 512 + j)

-- there are so many sectors, if their number is reported
abbrev pub Reaches : Option Content → ℕ → Type 0
Reaches None count = Unit {0}
Reaches (Some c) count = count ≤ length c.base

-- the first of these events were done, and nothing else: all of them if the call succeeded and there are so many
-- sectors
pub record Leaves (events : List Event) (sectors : ℕ) (done : Bool) (old new : Option Content) : Type 0 where
  pub count : ℕ
  pub within : count ≤ length events
  pub all : Reaches old sectors → done ≡ true → count ≡ length events
  pub left : new ≡ logged (take count events) old
