-- Contents that cover others: whatever a crash may leave of what is below, it may leave of what is reported.
use Rattle.std.specs.Prelude.{◌≡◌, ℕ, ◌<◌, Bool, false, ◌||◌, List, [], ◌∷◌, length, All, IsTrue, Option, Some, None}
use Rattle.std.specs.Str.{bytes_eq}
use Rattle.std.specs.Coded.{Unit-prop}
use Rattle.std.proofs.Props.{props}
use Rattle.block_traits.specs.Content.{Content, kept_values, last_of}

-- whether a value is one of these
abbrev pub is_one_of : List (List ℕ) → List ℕ → Bool
is_one_of [] value = false
is_one_of (first ∷ values) value = bytes_eq first value || is_one_of values value

-- what a sector below may hold if power fails, and what is reported of it: each value that it may hold is reported, and if
-- it may hold several, several are
pub record KeepsNoMore (below above : List (List ℕ)) : Type 0 where
  pub among : All (λ value. IsTrue (is_one_of above value)) below
  pub several : 1 < length below → 1 < length above

-- the same, and the same value stands there last
pub record CoversValues (below above : List (List ℕ)) : Type 0 where
  pub last : last_of below ≡ last_of above
  pub among : All (λ value. IsTrue (is_one_of above value)) below
  pub several : 1 < length below → 1 < length above

-- that holds of each sector
abbrev pub CoversContent : Content → Content → Type 0
CoversContent below above = (n : ℕ) → CoversValues (kept_values below n) (kept_values above n)

-- that holds of each sector, if the content below is reported; then this one is too
abbrev pub CoversTold : Option Content → Option Content → Type 0
CoversTold None above = Unit {0}
CoversTold (Some below) None = ⊥
CoversTold (Some below) (Some above) = CoversContent below above

pub CoversValues-prop : (below above : List (List ℕ)) → IsProp (CoversValues below above)
CoversValues-prop below above = hlevel props

CoversContent-prop : (below above : Content) → IsProp (CoversContent below above)
CoversContent-prop below above = hlevel (props, CoversValues-prop)

pub CoversTold-prop : (below above : Option Content) → IsProp (CoversTold below above)
CoversTold-prop None above = Unit-prop
CoversTold-prop (Some below) None = hlevel props
CoversTold-prop (Some below) (Some above) = CoversContent-prop below above
