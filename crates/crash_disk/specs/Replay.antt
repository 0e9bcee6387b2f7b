-- Sectors by the events on them.
use Rattle.std.specs.Prelude.{ℕ, List, [], ◌∷◌, slice_set}
use Rattle.block_traits.specs.declared.disk.Event.{Event}
use Rattle.block_traits.specs.declared.disk.Event.TheVariants.{Write, Flush}
use Rattle.block_traits.specs.Content.{Content}

abbrev pub content : List (List ℕ) → List Event → Content
content base events = record { base = base; history = events }

-- the sectors after events
abbrev pub replayed : List (List ℕ) → List Event → List (List ℕ)
replayed base [] = base
replayed base (Write n bytes ∷ events) = replayed (slice_set base n bytes) events
replayed base (Flush ∷ events) = replayed base events
