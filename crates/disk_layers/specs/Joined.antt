-- The content of two disks as one, over what both report.
use Rattle.std.specs.Prelude.{ℕ, ◌-◌, ◌<◌, ◌≤◌, List, ◌++◌, Option, Some, None}
use Rattle.std.specs.Coded.{Unit-prop}
use Rattle.std.proofs.Props.{props}
use Rattle.block_traits.specs.Content.{Content, kept_values}
use Rattle.block_traits.specs.declared.disk.Event.{Event}
use Rattle.disk_layers.specs.Covering.{CoversValues, CoversValues-prop}
use Rattle.disk_layers.specs.History.{moved, told_history, unflushed}

-- the sectors of the first at first, then those of the second, and this history, if both report their content
abbrev pub joined_content : List Event → Option Content → Option Content → Option Content
joined_content past None b = None
joined_content past (Some a) None = None
joined_content past (Some a) (Some b) = Some (record { base = a.base ++ b.base; history = past })

-- what two disks did before they were one: all writes of both, and no flush, since none was one of both
abbrev pub joined_history : ℕ → Option Content → Option Content → List Event
joined_history size a b = unflushed (told_history a) ++ moved size (unflushed (told_history b))

-- each sector of the first, which has so many, and of the second is covered
pub record CoversEach (size : ℕ) (a b above : Content) : Type 0 where
  pub first : (n : ℕ) → n < size → CoversValues (kept_values a n) (kept_values above n)
  pub second : (n : ℕ) → size ≤ n → CoversValues (kept_values b (n - size)) (kept_values above n)

-- that holds if both report their content; then this one is reported too
abbrev pub CoversBoth : ℕ → Option Content → Option Content → Option Content → Type 0
CoversBoth size None b above = Unit {0}
CoversBoth size (Some a) None above = Unit {0}
CoversBoth size (Some a) (Some b) None = ⊥
CoversBoth size (Some a) (Some b) (Some above) = CoversEach size a b above

CoversEach-prop : (size : ℕ) (a b above : Content) → IsProp (CoversEach size a b above)
CoversEach-prop size a b above = hlevel (props, CoversValues-prop)

pub CoversBoth-prop : (size : ℕ) (a b above : Option Content) → IsProp (CoversBoth size a b above)
CoversBoth-prop size None b above = Unit-prop
CoversBoth-prop size (Some a) None above = Unit-prop
CoversBoth-prop size (Some a) (Some b) None = hlevel props
CoversBoth-prop size (Some a) (Some b) (Some above) = CoversEach-prop size a b above
